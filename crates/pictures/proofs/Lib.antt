-- The proof of what `specs/Promised.antt` promises, and the laws that it cites.
--     PlacedLaws   places of moments behind the end of a line
--     WholeLaws    a visit that ends within its line
--     FrameLaws    which part is the frame
--     LineLaws     the parts that begin and end lines
pub mod PlacedLaws
pub mod WholeLaws
pub mod FrameLaws
pub mod LineLaws
pub mod Promised
