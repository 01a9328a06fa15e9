-- The proofs of what `specs/Promised.antt` promises.
--     LoggedLaws   what goes out, byte after byte
--     UnreadLaws   the first line that cannot be read
--     CallLaws     the calls of a text are a run
--     PlanLaws     what was read of a sheet has 0 past its places
--     OpenLaws     which plan sheets are opened, and which are refused with 16
--     Promised     the promises
pub mod LoggedLaws
pub mod UnreadLaws
pub mod CallLaws
pub mod PlanLaws
pub mod OpenLaws
pub mod Promised
