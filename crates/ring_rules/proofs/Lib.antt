-- The proof of what `specs/Promised.antt` promises.
--     NumberLaws     each number is given exactly if its line holds
--     OpenedLaws     the opened ring
--     MovedLaws      what an accepted visit does
--     MessageLaws    what a call that is no visit leaves alone, and that the ring stays sound
--     HeldLaws       what an accepted handing in does
--     MarkedLaws     what marking and taking the mark off do
--     FirstLaws      places from N on are never looked at
--     ModeLaws       what a mode asks of the timers, and what it leaves alone
pub mod NumberLaws
pub mod OpenedLaws
pub mod MovedLaws
pub mod MessageLaws
pub mod HeldLaws
pub mod MarkedLaws
pub mod FirstLaws
pub mod ModeLaws
pub mod Promised
