-- The promises of this layer, proved, and the laws of its definitions, for the proofs here and above.
--     ShowLaws       what is printed where reading refuses, and where it accepts
--     DraftLaws      the draft of the text that `show` prints
--     ShownLaws      `show`, then `compose`, is the identity on accepted sheets
--     LogTextLaws    the text of a log makes its bytes
--     PlainLaws      the texts of accepted sheets and logs end with no refusal
--     HeaderLineLaws   a further line of the header in a text
pub mod ShowLaws
pub mod DraftLaws
pub mod ShownLaws
pub mod LogTextLaws
pub mod HeaderLineLaws
pub mod PlainLaws
pub mod Promised
