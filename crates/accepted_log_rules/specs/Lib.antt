-- What a log shows whose records a run of the published steps could give (02, No. 6; the yard's question), over its records alone.
--     Shows      the sentences
--     Witness    logs in which the token is as late as it can be
--     Promised   every accepted log keeps them
pub mod Shows
pub mod Witness
pub mod Promised
