-- The laws of doubling and halving, and the proof of what `specs/Promised.antt` promises.
pub mod Laws
pub mod Promised
