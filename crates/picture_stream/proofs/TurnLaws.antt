-- One byte more of a log that is read for its picture: what is left to do is the same.
use Rattle.std.proofs.lemmas.Bool.{cond-true, cond-false}
use Rattle.std.proofs.Common.{◌≡◌, ℕ, ◌+◌, ◌<◌, ◌≤◌, Bool, true, false, cond, ◌≢◌, List, ◌∷◌, length, drop, Some, None, sym, refl, ap, ◌∙◌, add-one, drop_of_length-le, drop-cons, eq-eqb, ne_eqb}
use Rattle.units.specs.Places.{at}
use Rattle.log_records.specs.Entry.{next_entry}
use Rattle.log_records.specs.declared.NextEntry.{NextEntry}
use Rattle.log_stream.specs.Pieces.{stepped, entry_in}
use Rattle.log_stream.specs.declared.Gathered.{Gathered}
use Rattle.inspection_stream.specs.Inspecting.{looked_at}
use Rattle.inspection_stream.specs.declared.Looked.{Looked}
use Rattle.inspection_stream.proofs.TurnLaws.{read_stands}
use Rattle.tallies.specs.Tallies.{SeenOn}
use Rattle.tallies.specs.declared.Seen.{Seen}
use Rattle.tallies.specs.declared.Drawn.{Drawn}
use Rattle.picture_stream.specs.Watching.{is_drawn, drawn_of, watching_of, record_watched, byte_watched, stops, watched_from}
use Rattle.picture_stream.specs.declared.Window.{Window}
use Rattle.picture_stream.specs.declared.Watching.{Watching}
use Rattle.picture_stream.specs.declared.Watched.{Watched}

-- ---- the record that a byte ends, if it ends one

module _ (x : Window) (k : Watching) (v : Gathered) (got : NextEntry) where
  none_ends : got.next ≡ 0 → (byte_watched k v got ≡ watching_of k.inspecting.start v k.inspecting.looked k.seen) × (stops x k.seen got ≡ false)
  unfolding byte_watched stops
  none_ends e = rw (eq-eqb got.next 0 e) (refl, refl)

  one_ends : got.next ≢ 0 → (byte_watched k v got ≡ record_watched k v got.entry) × (stops x k.seen got ≡ is_drawn x k.seen.course.all got.entry)
  unfolding byte_watched stops
  one_ends e = rw (ne_eqb got.next 0 e) (refl, refl)

-- the inspection looks at it, and then it is seen
record_is : (k : Watching) (v : Gathered) (got : NextEntry) (l : Looked) (s' : Seen) → got ≡ entry_in v → got.next ≢ 0
    → l ≡ looked_at k.inspecting.start.set k.inspecting.start.alloc k.inspecting.looked (next_entry v.bytes 0).entry
    → SeenOn k.inspecting.start.set.n k.inspecting.start.set.w l.inspection.rule k.seen got.entry s'
    → watching_of k.inspecting.start v l s' ≡ record_watched k v got.entry
record_is k v got l s' is some looked saw =
    let came : (entry_in v).next ≢ 0 = λ z. some (ap (λ (n : NextEntry). n.next) is ∙ z) in
    let stands : next_entry v.bytes 0 ≡ got = sym (is ∙ read_stands v came) in
    let same : l ≡ looked_at k.inspecting.start.set k.inspecting.start.alloc k.inspecting.looked got.entry =
    looked ∙ ap (λ (n : NextEntry). looked_at k.inspecting.start.set k.inspecting.start.alloc k.inspecting.looked n.entry) stands in
    rw (saw.is, same) refl

-- ---- the bytes from one place on, and those that are left

module _ (x : Window) (bs : List ℕ) (k₀ : Watching) (from : ℕ) where
  pub record Going (k : Watching) (i : ℕ) : Type 0 where
    pub left : watched_from x k₀ from (drop from bs) ≡ watched_from x k i (drop i bs)

  pub going_first : Going k₀ from
  going_first = record { left = refl }

  -- nothing is left
  pub going_ends : (k : Watching) (i : ℕ) → Going k i → length bs ≤ i → ◌≡◌ {A = Watched} (record { watching = k; at = i; drawn = None }) (watched_from x k₀ from (drop from bs))
  unfolding watched_from
  going_ends k i g past = sym (g.left ∙ ap (watched_from x k i) (drop_of_length-le bs past))

  module _ (k : Watching) (i : ℕ) (g : Going k i) (inside : i < length bs) (v : Gathered) (read : v ≡ stepped k.inspecting.gathered (at bs i)) (got : NextEntry) (is : got ≡ entry_in v) where
    -- the next byte
    turned : watched_from x k₀ from (drop from bs)
        ≡ cond (stops x k.seen got) (record { watching = byte_watched k v got; at = i + 1; drawn = Some (drawn_of k.seen got.entry) }) (watched_from x (byte_watched k v got) (i + 1) (drop (i + 1) bs))
    unfolding watched_from
    turned =
        let more : drop i bs ≡ at bs i ∷ drop (i + 1) bs = rw add-one (drop-cons bs i 0 inside) in
        rw (is, read) (g.left ∙ ap (watched_from x k i) more)

    -- it ends no record
    pub going_on : got.next ≡ 0 → Going (watching_of k.inspecting.start v k.inspecting.looked k.seen) (i + 1)
    going_on none =
        let ends = none_ends x k v got none in
        record { left = turned ∙ cond-false _ _ _ ends.1 ∙ ap (λ (w : Watching). watched_from x w (i + 1) (drop (i + 1) bs)) ends.0 }

    -- it ends one
    module _ (some : got.next ≢ 0) (l : Looked) (looked : l ≡ looked_at k.inspecting.start.set k.inspecting.start.alloc k.inspecting.looked (next_entry v.bytes 0).entry) (s' : Seen) (saw : SeenOn k.inspecting.start.set.n k.inspecting.start.set.w l.inspection.rule k.seen got.entry s') (flag : Bool) (drawn : flag ≡ is_drawn x k.seen.course.all got.entry) where
      behind : byte_watched k v got ≡ watching_of k.inspecting.start v l s'
      behind = (one_ends x k v got some).0 ∙ sym (record_is k v got l s' is some looked saw)

      flagged : stops x k.seen got ≡ flag
      flagged = (one_ends x k v got some).1 ∙ sym drawn

      pub going_past : flag ≡ false → Going (watching_of k.inspecting.start v l s') (i + 1)
      going_past out = record { left = turned ∙ cond-false _ _ _ (flagged ∙ out) ∙ ap (λ (w : Watching). watched_from x w (i + 1) (drop (i + 1) bs)) behind }

      pub going_stops : flag ≡ true → (w : Watching) → w ≡ watching_of k.inspecting.start v l s' → (d : Drawn) → d ≡ drawn_of k.seen got.entry → ◌≡◌ {A = Watched} (record { watching = w; at = i + 1; drawn = Some d }) (watched_from x k₀ from (drop from bs))
      going_stops in-it w put d handed = rw (put, handed, ← behind) (sym (turned ∙ cond-true _ _ _ (flagged ∙ in-it)))
