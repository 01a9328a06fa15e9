-- The proofs of what `specs/Promised.antt` promises, from the ground up.
--     Sums         prefix sums: of one vector, and of two of which one is below the other
--     Lists        each visit of a list, and some visit
--     Windows      the asynchronous time of the latest visits
--     Deadlines    the arithmetic of a held message
--     Course       what every visit keeps, whatever its timers are
--     Stores       what every call keeps of the stored messages
--     Arrivals     what the clock has passed: messages have arrived, and none in a part of its own station
--     Timing       what every visit of a timely-token ring keeps of the token's timing
--     Laps         what every visit of an FDDI ring keeps of its timers
--     Messages     what every call of a timely-token ring keeps of the deadlines
--     Steps        the rings' own steps give the facts
--     Opening      the opened ring keeps all of it
--     Soundness    a ring that keeps it is sound
--     Runs         every run keeps it, call by call
--     Timely       every run of a timely-token ring
--     Fddi         every run of an FDDI ring
--     Followed     one message, from its handing in on
--     Common       what every kind of ring promises
--     Turns        how many visits ago a station had its turn
--     Rotations    how long rotations take
--     Waits        among enough visits a station is offered a limit above 0
--     Bulk         the same of the visits among further calls
--     Computed     what a run is computed with
--     Witness      the run in which the promises are called upon
--     FddiWitness  the run in which the token is as late as it can be
--     BulkWitness  the run in which bulk data waits long
--     FrameWitness the runs in which a frame runs on past the limit
--     EarlierWitness the runs of the 2002 edition
--     GridWitness  the run on a grid above 1
--     MarkWitness  the runs in which a station is switched through
--     Promised     the promises
pub mod Sums
pub mod Lists
pub mod Windows
pub mod Deadlines
pub mod Course
pub mod Stores
pub mod Arrivals
pub mod Timing
pub mod Laps
pub mod Messages
pub mod Steps
pub mod Opening
pub mod Soundness
pub mod Runs
pub mod Timely
pub mod Fddi
pub mod Followed
pub mod Common
pub mod Turns
pub mod Rotations
pub mod Waits
pub mod Bulk
pub mod Computed
pub mod Witness
pub mod FddiWitness
pub mod BulkWitness
pub mod FrameWitness
pub mod EarlierWitness
pub mod GridWitness
pub mod MarkWitness
pub mod Promised
