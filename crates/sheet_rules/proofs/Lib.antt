pub mod StandLaws
pub mod HeaderLaws
pub mod BackLaws
pub mod AgainLaws
pub mod StandingLaws
pub mod Promised
