-- `put_decimal` ends because a tenth of a number is smaller.
use Rattle.text.proofs.Page.+put_decimal.Given as goal

abbrev pub decreases-put_decimal : goal.decreases-put_decimal
decreases-put_decimal l = l.n
