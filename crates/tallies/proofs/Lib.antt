-- The laws of what was seen of a record more, of the numbers of the stations and of the laps, and the promises of this layer, proved.
pub mod SeenLaws
pub mod VisitLaws
pub mod ColumnLaws
pub mod LongestLaws
pub mod LapLaws
pub mod Promised
