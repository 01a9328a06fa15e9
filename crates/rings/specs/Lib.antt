-- What a ring is and does: 01, "The ring", by value.
--     State       what the fields of a ring say of a station; a ring made of its parts, and with a part changed
--     Timers      the limit, and what becomes of the timers
--     Opening     the opened ring, and opening's answer
--     Sound       01's list of unsound states (8), a sentence and a test for each line
--     Frames      what is asked for at a visit, in frames, and what is sent of it
--     Steps       the five steps of a visit, the record, and a visit's answer (8, 13)
--     HandingIn   what each of 9 to 12 and 15 asks, the ring that holds the message, and the answer
--     Marking     a station switched through, what that takes back, and switched in again
--     Lent        a ring whose arrays are lent one by one
--     Bounds      what the inner functions ask for and hand back
--     Views       what a visit looks at, by its numbers alone
pub mod State
pub mod Timers
pub mod Opening
pub mod Sound
pub mod Frames
pub mod Steps
pub mod HandingIn
pub mod Marking
pub mod Lent
pub mod Bounds
pub mod Views
