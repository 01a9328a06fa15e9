-- What `log` writes: the fields of the visits that a run's calls make. What is promised of it stands in `command_log_rules`.
--     LogBytes   what `log` lets out, byte after byte of the calls
pub mod LogBytes
