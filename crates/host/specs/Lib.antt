-- What a host in C is told where the layers below have another form:
--     Told       an entry of a log, its kind as a number
--     Promised   what that says of the bytes
pub mod Told
pub mod Promised
