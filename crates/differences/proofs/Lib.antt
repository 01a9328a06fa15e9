-- The differences of two plans, proved.
--     Lists      what is in a list, and that a rising list is told by that
--     Applying   what applying a list changes, place by place
--     Listing    what is listed, and in which order
--     SameLaws   equal plans are the same set and the same S
--     NoneLaws   when nothing is listed, part by part
pub mod Lists
pub mod Applying
pub mod Listing
pub mod SameLaws
pub mod NoneLaws
pub mod Promised
