-- The promises of this layer, proved, and for the proofs of the layers above:
--     TextLaws      decimal numbers, lines, and text put into a page
--     PageLaws      text put into a page behind what was put before
--     RefusalLaws   a text without the letter u ends with no refusal
pub mod TextLaws
pub mod PageLaws
pub mod RefusalLaws
pub mod Promised
