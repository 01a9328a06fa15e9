-- `judge_area` is right because it goes by the tests of the definition, in their order.
use mathlib.Core.Path.{◌≡◌, sym, ap, ◌∙◌}
use mathlib.Core.Bool.{true}
use lib.ListN.{length}
use Rattle.versions.specs.Layout.{store_size}
use Rattle.versions.specs.Area.{count_in, end_in, none_missing, ends_at}
use Rattle.versions.specs.declared.VersionsWalked.{VersionsWalked}
use Rattle.versions.proofs.AreaLaws.{missing, not_missing, other_length, some_missing, not_ended, all_stands}
use Rattle.versions.proofs.AnswerLaws.{judged_store}
use Rattle.versions.proofs.area.judge_area.Goals as goal

pub returns-then-count_bytes-ne-STORE_SIZE : goal.returns-then-count_bytes-ne-STORE_SIZE
returns-then-count_bytes-ne-STORE_SIZE c =
    other_length _ (λ e. c.if-count_bytes-ne-STORE_SIZE.true (c.count_bytes.ensures.count ∙ e))

pub returns-then-before-walked : goal.returns-then-before-walked
returns-then-before-walked c =
    let long : length c.args.area.now ≡ store_size = sym c.count_bytes.ensures.count ∙ c.if-count_bytes-ne-STORE_SIZE.false in
    let counted : c.walk_versions-walked.result.count ≡ count_in c.args.area.now = ap (λ (x : VersionsWalked). x.count) c.walk_versions-walked.ensures in
    some_missing _ long (missing _ c.before_in-before.ensures counted c.if-before-walked.true)

pub returns-then-not-ends_at : goal.returns-then-not-ends_at
returns-then-not-ends_at c =
    let long : length c.args.area.now ≡ store_size = sym c.count_bytes.ensures.count ∙ c.if-count_bytes-ne-STORE_SIZE.false in
    let counted : c.walk_versions-walked.result.count ≡ count_in c.args.area.now = ap (λ (x : VersionsWalked). x.count) c.walk_versions-walked.ensures in
    let none_missing_lem : none_missing c.args.area.now ≡ true = not_missing _ c.before_in-before.ensures (counted) c.if-before-walked.false in
    let ended : c.walk_versions-walked.result.at ≡ end_in c.args.area.now = ap (λ (x : VersionsWalked). x.at) c.walk_versions-walked.ensures in
    let asked : let bs = c.args.area.now in c.ends_at.result ≡ ends_at bs (end_in bs) = c.ends_at.ensures ∙ ap (ends_at _) (ended) in
    not_ended _ long none_missing_lem (sym asked ∙ c.if-not-ends_at.true)

pub returns : goal.returns
returns c =
    let counted : c.walk_versions-walked.result.count ≡ count_in c.args.area.now = ap (λ (x : VersionsWalked). x.count) c.walk_versions-walked.ensures in
    let ended : c.walk_versions-walked.result.at ≡ end_in c.args.area.now = ap (λ (x : VersionsWalked). x.at) c.walk_versions-walked.ensures in
    let long : length c.args.area.now ≡ store_size = sym c.count_bytes.ensures.count ∙ c.if-count_bytes-ne-STORE_SIZE.false in
    let none_missing_lem : none_missing c.args.area.now ≡ true = not_missing _ c.before_in-before.ensures (counted) c.if-before-walked.false in
    let asked : let bs = c.args.area.now in c.ends_at.result ≡ ends_at bs (end_in bs) = c.ends_at.ensures ∙ ap (ends_at _) (ended) in
    rw (c.before_in-before.ensures, counted, ended)
    (judged_store _ (all_stands _ long none_missing_lem (sym asked ∙ c.if-not-ends_at.false)) c.count_bytes.ensures.all)
