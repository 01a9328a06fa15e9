-- A log read for its picture, in pieces of any length.
--     Watching   what is kept between two bytes, which records are drawn, and where reading stops for one
--     Promised   that the finding is that of the inspection, the numbers those of the records before the named one, and that just the records of the window are drawn
pub mod Watching
pub mod Promised
