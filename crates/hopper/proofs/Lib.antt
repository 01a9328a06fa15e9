-- The laws of the hopper set's definitions, for the proofs here and above.
--     WagonLaws     the ranges, the judgement of a list, and a list with a wagon changed
--     RequestLaws   the request of a list, its sheet and its plan
--     TrainLaws     what a change makes of a train
pub mod WagonLaws
pub mod RequestLaws
pub mod TrainLaws
