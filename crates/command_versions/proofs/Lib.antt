-- The promises of this layer, proved, and the laws of its definitions.
--     FoundLaws   a version that is found lies inside the store, and at most sixteen are kept
--     KeptLaws    what `kept` finds, and what `versions` prints
pub mod FoundLaws
pub mod KeptLaws
pub mod Promised
