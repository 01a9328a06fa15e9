-- The fields of a sheet, and numbers in bytes.
--     Fields   what may stand at a place, and what is found there
--     Header   the fields of the header behind TTRT: where they stand, and what they give
--     Bytes    numbers in bytes
--     Rows     lists of bytes put together
--     Bounds   what the small functions hand out, with their bounds
pub mod Rows
pub mod Bytes
pub mod Fields
pub mod Header
pub mod Bounds
