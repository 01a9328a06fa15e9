-- Which lines say that a number is out of its range.
use Rattle.std.specs.Prelude.{ℕ, ◌<◌, ◌≡◌, Bool, true, false, Option, None, Some}
use Rattle.text.specs.declared.phrases.Phrase.{Phrase}
use Rattle.command_explain.specs.declared.Form.{Form}
use Rattle.command_explain.specs.declared.Form.TheVariants.{Refused, Planned, Accepted, Header, AsRequest, AsPlan, Start, Left, MayTtrt, MayStation, MayShare, MayMode, MayFrame, MayGrid, MayEnd, MayNothing, TtrtOut, ModeOut, FrameOut, GridOut, ModeOne, FrameOne, GridOne, WalkOut, LongestOut, DeadlineOut, GapOut, ShareOut, TauOut, Walk, Grounds, FddiGrounds, End, TooMuch, Times, FirstTime, Held, HeldMore, HeldShort, HeldOff, HeldShortOff, Sum, Missing, Spare, GridCause, Retired, Readable, Again, Back, OnlyShare, InTime, Burst, OwnBurst, Offered, NotOffered, NoDeadline}
use Rattle.command_explain.specs.declared.Explained.{Explained}
use Rattle.command_explain.specs.Phrases.{phrase_at, phrase_count}

-- by the form: a number of the header, a field of it that says 1 and is to be left out, or a number of a station
unfoldable pub says_out : Form → Bool
says_out Refused = false
says_out Planned = false
says_out Accepted = false
says_out Header = false
says_out AsRequest = false
says_out AsPlan = false
says_out Start = false
says_out Left = false
says_out MayTtrt = false
says_out MayStation = false
says_out MayShare = false
says_out MayMode = false
says_out MayFrame = false
says_out MayGrid = false
says_out MayEnd = false
says_out MayNothing = false
says_out TtrtOut = true
says_out ModeOut = true
says_out FrameOut = true
says_out GridOut = true
says_out ModeOne = true
says_out FrameOne = true
says_out GridOne = true
says_out WalkOut = true
says_out LongestOut = true
says_out DeadlineOut = true
says_out GapOut = true
says_out ShareOut = true
says_out TauOut = false
says_out Walk = false
says_out Grounds = false
says_out FddiGrounds = false
says_out End = false
says_out TooMuch = false
says_out Times = false
says_out FirstTime = false
says_out Held = false
says_out HeldMore = false
says_out HeldShort = false
says_out HeldOff = false
says_out HeldShortOff = false
says_out Sum = false
says_out Missing = false
says_out Spare = false
says_out GridCause = false
says_out Retired = false
says_out Readable = false
says_out Again = false
says_out Back = false
says_out OnlyShare = false
says_out InTime = false
says_out Burst = false
says_out OwnBurst = false
says_out Offered = false
says_out NotOffered = false
says_out NoDeadline = false

-- a phrase says it by its form
abbrev pub says_so : Option (Phrase Form) → Bool
says_so None = false
says_so (Some p) = says_out p.form

-- such a line is printed
abbrev pub SomeOutSaid : Explained → Type 0
SomeOutSaid e = (k : ℕ) × ((k < phrase_count e) × (says_so (phrase_at e k) ≡ true))
