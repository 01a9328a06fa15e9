-- `put_digit` is right because a digit's byte is 48 and the digit.
use Rattle.text.proofs.Page.put_digit.Goals as goal

pub returns : goal.returns
returns c =
    c.put_byte.ensures
