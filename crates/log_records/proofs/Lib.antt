-- The laws of a log's entries.
--     FieldLaws  a field of any kind that stands whole
--     VisitLaws  a visit's field
--     MarkLaws   a mark's field
--     EntryLaws  an entry of either kind
pub mod FieldLaws
pub mod VisitLaws
pub mod MarkLaws
pub mod EntryLaws
