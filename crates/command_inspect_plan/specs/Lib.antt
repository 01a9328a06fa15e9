-- What `inspect PLAN` prints.
--     InspectText   the lines, in their order
pub mod InspectText
