-- FDDI's timers (02, No. 1), over plain numbers: no ring, no set, no array. With F of No. 4; f = F − 1 is 0 in plain FDDI.
--     Timers     a timer with its late count as one number, as time passes and as a token comes
--     Kept       what every visit keeps of these numbers
--     Promised   opening gives it, a visit keeps it, and what follows from it
pub mod Timers
pub mod Kept
pub mod Promised
