-- The proof of what `specs/Promised.antt` promises.
--     Reaching     what every ring keeps that records could lead to
--     Standing     what an inspection says of that ring
--     Judging      the tests of a record decide the rules
--     Following    one record after another
--     Finding      the inspection of a whole log
--     Further      nothing behind the named record is looked at
--     Next         the record behind those that could be given
--     One          one finding fits
--     Amounts      which amounts some request sends
--     Comparing    what is compared differs
--     Expecting    what is expected is what the ring says
--     Marks        what a mark does to the visits behind it
--     Model        the records of a run could be given
--     Kept         what a recorder keeps of a run
--     Witness      an FDDI log and a log with marks, computed
--     Places       places from N on are never looked at
--     Editions     the two editions told apart
--     Logs         the finding of a log's bytes
--     Watched      an inspection that is kept is the log's
--     Promised     the promises, one by one
pub mod Reaching
pub mod Standing
pub mod Judging
pub mod Following
pub mod Finding
pub mod Further
pub mod Next
pub mod One
pub mod Amounts
pub mod Comparing
pub mod Expecting
pub mod Marks
pub mod Model
pub mod Kept
pub mod Witness
pub mod Places
pub mod Editions
pub mod Logs
pub mod Watched
pub mod Promised
