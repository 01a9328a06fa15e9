-- What an inspection finds (02, No. 6 and 10), over lists of records.
--     Gives      the records that a run of the published steps could give
--     Broken     the rules as sentences, and the first record that breaks one
--     Model      the record of a visit of the model, as our recorder writes it down
--     Witness    an FDDI log with a late token, and a log with marks
--     Editions   a run of each edition that the other does not allow
--     Watched    an inspection that a host keeps, record by record
--     Promised   an inspection accepts just the first, and else names the second
pub mod Gives
pub mod Broken
pub mod Model
pub mod Witness
pub mod Editions
pub mod Watched
pub mod Promised
