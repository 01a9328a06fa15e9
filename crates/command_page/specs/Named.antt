-- The parts of the finding and of the named record: the word, what it means, and a row for each rule with what was expected, what was found and where that comes from.
use Rattle.std.specs.Prelude.{ℕ, ◌+◌, ◌-◌, ◌/◌, ◌%◌, Bool, true, false, cond, Option, None, Some, ◌==◌, nat_lt}
use Rattle.units.specs.Numbers.{fddi}
use Rattle.log_records.specs.declared.VisitEntry.{VisitEntry}
use Rattle.log_records.specs.declared.MarkEntry.{MarkEntry}
use Rattle.log_records.specs.declared.Entry.{Entry}
use Rattle.log_records.specs.declared.Entry.TheVariants.{Visit, Mark}
use Rattle.sets.specs.declared.Head.{Head}
use Rattle.text.specs.Phrases.{bare, one, two, three, four, either}
use Rattle.text.specs.declared.phrases.Phrase.{Phrase}
use Rattle.command_page.specs.declared.Outcome.{Outcome}
use Rattle.command_page.specs.declared.Outcome.TheVariants as outcome
use Rattle.command_page.specs.declared.Form.{Form}
use Rattle.command_page.specs.declared.Form.TheVariants as form
use Rattle.command_page.specs.declared.Due.{Due}
use Rattle.command_page.specs.declared.Account.{Account}

-- ---- the finding

-- the word above the finding
abbrev pub word_of : Outcome → Phrase Form
word_of outcome.PlanRefused = bare form.WordPlanRefused
word_of outcome.Refused = bare form.WordRefused
word_of outcome.Another = bare form.WordAnother
word_of outcome.Broken = bare form.WordBroken
word_of outcome.Accepted = bare form.WordAccepted

-- what it means: of a refusal its number's sentence
abbrev pub meaning_of : Outcome → ℕ → ℕ → Phrase Form
meaning_of outcome.PlanRefused number named = one form.Sentence number
meaning_of outcome.Refused number named = one form.Sentence number
meaning_of outcome.Another number named = bare form.MeansAnother
meaning_of outcome.Broken number named = one form.MeansBroken named
meaning_of outcome.Accepted number named = bare form.MeansAccepted

-- the records were judged: only then is there more
abbrev pub is_judged : Outcome → Bool
is_judged outcome.PlanRefused = false
is_judged outcome.Refused = false
is_judged outcome.Another = false
is_judged outcome.Broken = true
is_judged outcome.Accepted = true

-- ---- the rows of the named record

-- rule r of a record that breaks this one first: those before it are kept, those behind it were not looked at
unfoldable pub row_of : ℕ → ℕ → Phrase Form
row_of broken r = cond (nat_lt r broken) (bare form.Kept) (cond (r == broken) (bare form.Broken) (bare form.Behind))

-- the start: the first visit's is free; else what was expected, what was found, the start of the visit before and what that one took
unfoldable pub start_numbers : Due → VisitEntry → Phrase Form
start_numbers x v =
    cond x.expected.first (one form.FirstStart v.start)
    (four form.StartRule x.start v.start x.expected.last x.expected.span)

-- the asynchronous amount: with frames of one tick at most the limit; else whole frames of one length up to F, begun below it
unfoldable pub asynchronous_numbers : Due → VisitEntry → Phrase Form
asynchronous_numbers x v =
    cond (x.expected.longest == 1)
    (two form.TickRule x.expected.limit v.asynchronous)
    (three form.FrameRule x.expected.limit v.asynchronous x.expected.longest)

-- what was expected by rule r, and what was found
unfoldable pub numbers_of : Due → VisitEntry → ℕ → Phrase Form
numbers_of x v r =
    cond (r == 1) (two form.StationRule x.expected.station v.station)
    (cond (r == 2) (start_numbers x v)
    (cond (r == 3) (two form.LimitRule x.expected.limit v.limit)
    (cond (r == 4) (two form.SynchronousRule x.expected.share v.synchronous)
    (asynchronous_numbers x v))))

-- where the limit comes from: TTRT, F − 1, u and TRT; in FDDI TTRT and the timer; of a station that is switched through it is 0
unfoldable pub limit_from : Head → Due → Phrase Form
limit_from h x =
    cond x.through (bare form.ThroughLimit)
    (cond (h.mode == fddi) (two form.FddiLimit h.ttrt x.run)
    (four form.TimelyLimit h.ttrt (h.frame - 1) x.unused x.run))

-- and the most of synchronous time: S
abbrev pub share_from : Bool → Phrase Form
share_from through = either through form.ThroughShare form.Share

-- of the other rules it is said with the numbers
unfoldable pub source_of : Head → Due → ℕ → Option (Phrase Form)
source_of h x r = cond (r == 3) (Some (limit_from h x)) (cond (r == 4) (Some (share_from x.through)) None)

-- part j of rule r of a named visit
unfoldable pub visit_row : Head → Due → ℕ → VisitEntry → ℕ → ℕ → Option (Phrase Form)
visit_row h x broken v r j =
    cond (j == 0) (Some (row_of broken r)) (cond (j == 1) (Some (numbers_of x v r)) (source_of h x r))

-- a mark has the station rule alone: below which its station must be, its station and its mark
unfoldable pub mark_row : Due → MarkEntry → ℕ → ℕ → Option (Phrase Form)
mark_row x m r j =
    cond (r == 1)
    (cond (j == 0) (Some (bare form.Broken))
    (cond (j == 1) (Some (three form.MarkRule x.expected.count m.station m.mark)) None))
    None

abbrev pub rule_row : Head → Due → ℕ → Entry → ℕ → ℕ → Option (Phrase Form)
rule_row h x broken (Visit v) r j = visit_row h x broken v r j
rule_row h x broken (Mark m) r j = mark_row x m r j

abbrev pub named_begin : ℕ → Entry → Phrase Form
named_begin named (Visit v) = one form.NamedVisit named
named_begin named (Mark m) = one form.NamedMark named

-- ---- all of them: k from 0 to 19

-- part k of the named record: its beginning, three parts for each of the five rules, its end
unfoldable pub named_part : Account → ℕ → Option (Phrase Form)
named_part x k =
    cond (k == 0) (Some (named_begin x.named x.last))
    (cond (nat_lt k 16)
    (rule_row x.set.head x.due x.rule x.last ((k - 1) / 3 + 1) ((k - 1) % 3))
    (cond (k == 16) (Some (bare form.NamedEnd)) None))

-- it is there only where a record is named
abbrev pub named_where : Outcome → Account → ℕ → Option (Phrase Form)
named_where outcome.PlanRefused x k = None
named_where outcome.Refused x k = None
named_where outcome.Another x k = None
named_where outcome.Broken x k = named_part x k
named_where outcome.Accepted x k = None

unfoldable pub rules_where : Bool → Option (Phrase Form)
rules_where judged = cond judged (Some (bare form.Rules)) None

unfoldable pub finding_part : Account → ℕ → Option (Phrase Form)
finding_part x k =
    cond (k == 0) (Some (word_of x.outcome))
    (cond (k == 1) (Some (meaning_of x.outcome x.number x.named))
    (cond (k == 2) (rules_where (is_judged x.outcome)) (named_where x.outcome x (k - 3))))
