-- What a plan is: the rules of 01, "Allocations", the judgement of a given plan, planning, and what is promised of them.
--     Rules      X by the mode, and with it what a vector is held to: the rules are those of `units`, for every mode; A*, and what "the smallest S" means
--     Planned    the smallest S as a formula, the judgement of a given plan, and planning
--     Lent       a set and an allocation whose arrays are lent one by one
--     Bounds     how large the numbers of the divisions are
--     Answer     planning as a relation from the sentences alone, with no way to compute it
--     Promised   what is promised beside the contracts
pub mod Rules
pub mod Planned
pub mod Lent
pub mod Bounds
pub mod Answer
pub mod Promised
