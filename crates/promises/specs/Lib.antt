-- What every run of calls on an opened ring keeps (demand 3).
--     Run              calls, and the ring and the records after a list of them
--     History          what is read off the records: windows, the latest visit of a station, whose turn it is
--     Facts            what a visit and a handing in do, as records of facts that add up
--     Valid            what "valid" means, in parts and by the mode
--     Bulk             how long bulk data can wait
--     Promised         the promises
--     Witness          a run in which all that the promises speak of happens
--     FddiWitness      a run of an FDDI ring in which the token is as late as it can be
--     EarlierWitness   runs of the 2002 edition
--     BulkWitness      a run in which bulk data waits long
--     FrameWitness     runs in which a frame runs on past the limit
--     GridWitness      a run on a grid above 1
--     MarkWitness      runs in which a station is switched through
pub mod Run
pub mod History
pub mod Facts
pub mod Valid
pub mod Bulk
pub mod Promised
pub mod Witness
pub mod FddiWitness
pub mod BulkWitness
pub mod FrameWitness
pub mod EarlierWitness
pub mod GridWitness
pub mod MarkWitness
