-- What `page` says of a log around its picture.
--     Account    what the parts are made of: the answer, the plan as a whole, what the named record must have
--     Named      the parts of the finding and of the named record
--     Plan       the parts of the plan, and what its mode promises
--     Did        the parts of what each station did
--     Parts      all of them in their order
--     Picture    the picture of a log as one list of parts
--     Promised   what is promised of them
pub mod Account
pub mod Named
pub mod Plan
pub mod Did
pub mod Parts
pub mod Picture
pub mod Promised
