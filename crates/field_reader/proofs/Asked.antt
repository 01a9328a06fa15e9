-- `fields::field_at`, as the walks of this crate ask it: what it is passed, what it asks for, and what is known of its answer.
-- It asks for what the lent bytes own and for their lifetime's token; the place and the fields that have passed are plain data, so what they own is made anew.
-- A reader is Copy: what it owns is had twice, one copy is kept, and of the other what its bytes own goes to `field_at`.
use mathlib.Core.Path.{◌≡◌, refl}
use Prim.Native.Nat.{◌<◌, ◌^◌}
use mathlib.Core.List.{[], ◌∷◌}
use lib.ListN.{length}
use seplogic.Ra.Ura.{Ura}
use mir.Syntax.{Lifetime, named, w64}
use mir.Val.{Val, vint}
use base.Logic.{SProp, ent, sep, snd∗, ex_e}
use base.Fml.{Lft, Share, Fml, ftrue, flft}
use prog.Memory.{Memory}
use prog.Routine.{Routine}
use types.Logic.{Logic, sem}
use contract.Monad.{Fun, fact}
use types.Kit.{‵, raw, ◌⊛◌, given, ⋆, ◌$◌, ◌∵◌, !, qed, move, drop, use1, use2, split, join, learn, fjoin, frame, done}
use denote.Laws.{Is}
use denote.Plain.{uint_Makes}
use denote.Builtin.{u8, usize}
use denote.Ref.{NamedLft}
use denote.Slice.{slice_val, ShrSlice}
use denote.Steps.{owned, nothing}
use denote.Struct.Laws as LL
use denote.Struct.Rest.{all_own, field_own, rest, own_open, own_out}
use denote.Struct.Values.{Values}
use denote.Triple.Statement.{Contract}
use denote.Triple.Entry.{Vals}
use denote.Triple.Spec.{triple_of}
use denote.Triple.Clauses.{ensured, lasts}
use Rattle.fields.specs.declared.Passed.{Passed}
use Rattle.fields.specs.declared.Field.{Field}
use Rattle.fields.specs.contracts.Passed as passed-type
use Rattle.fields.proofs.Passed.TheLaws as passed-laws
use Rattle.fields.specs.contracts.field_at as field_at
use Rattle.field_reader.specs.Cursor.{field_of}
use Rattle.field_reader.specs.declared.Reader.{Reader}
use Rattle.field_reader.specs.contracts.Reader as T
use Rattle.field_reader.proofs.Reader.TheLaws as T'

module _ {M : Type 1} {𝓤 : Ura M} (𝓛 : Logic 𝓤) (mem : Memory → SProp 𝓤) (run : Routine → Fun 𝓤) where
  -- the contract that the walks cite
  abbrev pub FieldAt : Contract 𝓤
  FieldAt = triple_of 𝓛 field_at.signature (field_at.spec 𝓛 mem run)

  -- the reader d, with the lifetime ℓ of its bytes as MIR names it
  module _ (ℓ : Lifetime) (κ : Lft) (q : Share) (d : Reader) (passed : Passed) where
    -- the machine value of the bytes
    abbrev v : Val
    v = slice_val d.sheet.ref_ptr (length d.sheet.now)

    abbrev α : NamedLft
    α = record { mir = ℓ; lft = κ }

    -- what the reader owns, and the values of its fields
    abbrev pub Own : Fml
    Own = (T.the_row α).own_val d (T'.lowered d ∷ [])

    abbrev vd : Values (T.the_type α).parts
    vd = (d.sheet, (d.at, tt))

    -- what `field_at` is passed
    abbrev values : Vals field_at.signature (κ, tt)
    values = (v ∷ [], (vint w64 d.at ∷ [], (LL.vals passed-type.the_type passed-laws.the_laws passed, tt)))

    abbrev pub to_field : FieldAt.Ghost
    to_field = (((κ, tt), (q, tt), tt, (d.sheet, (d.at, (passed, tt))), values), tt)

    module _ (fits : d.at < 2 ^ 64) (is-passed : Is passed-type.the_row passed (LL.vals passed-type.the_type passed-laws.the_laws passed)) where
      asks : ent 𝓤 (⋆ 𝓛 (‵ ((ShrSlice (named 0) κ u8).own_val d.sheet (v ∷ [])) ∷ (‵ (flft κ q) ⊛ ‵ ftrue) ∷ [])) (FieldAt.pre to_field)
      asks =
          qed 𝓛 (‵ ((ShrSlice (named 0) κ u8).own_val d.sheet (v ∷ [])) ∷ (‵ (flft κ q) ⊛ ‵ ftrue) ∷ []) ∵
          nothing ! $ owned ! passed-type.the_row (Is passed-type.the_row) (LL.makes passed-type.the_type passed-laws.the_plain 𝓛) passed _ is-passed $ fjoin ! $
          owned ! usize (Is usize) (uint_Makes 𝓛 w64) d.at _ (refl, fits) $ fjoin ! $ move ! (1 ∷ 0 ∷ []) $ fjoin ! $ move ! (1 ∷ 0 ∷ []) $ join ! $ frame ! $ done !

      -- what the reader owns gives what `field_at` asks, and is kept
      pub apart : ent 𝓤 (⋆ 𝓛 (‵ Own ∷ (‵ (flft κ q) ⊛ ‵ ftrue) ∷ [])) (sep 𝓤 (FieldAt.pre to_field) (sem 𝓛 Own))
      apart =
          qed 𝓛 (‵ Own ∷ (‵ (flft κ q) ⊛ ‵ ftrue) ∷ []) ∵ use1 𝓛 (‵ Own ⊛ ‵ Own) ((LL.copy (T.the_type α) (T'.the_copy α) 𝓛).twice d (T'.lowered d ∷ [])) $ split ! $
          use1 𝓛 (given (T'.lowered d ∷ [] ≡ T'.lowered d ∷ []) (‵ (all_own (T.the_type α).parts (T'.the_laws α) vd))) (own_open 𝓛 (T.the_type α) (T'.the_laws α) vd (T'.lowered d)) $
          learn ! (λ _. use1 𝓛 (‵ (field_own (T.the_type α).parts (T'.the_laws α) 0 d.sheet) ⊛ ‵ (rest (T.the_type α).parts (T'.the_laws α) 0 vd))
          (own_out 𝓛 (T.the_type α).parts (T'.the_laws α) 0 vd) $ split ! $
          -- [what the bytes own; what the cursor owns; what the reader owns; the token]
          move ! (1 ∷ []) $ drop ! $ move ! (0 ∷ 2 ∷ []) $ use2 𝓛 (raw (FieldAt.pre to_field)) asks $ frame ! $ done !)

    -- of what it ensures, the clause alone: it has no `&mut`, so what is said of last values is dropped
    pub field_said : (r : Field) → ent 𝓤 (ensured 𝓛 field_at.ended (field_at.clauses 𝓛 mem run) (κ, tt) (d.sheet, (d.at, (passed, tt))) tt r) (fact 𝓤 (r ≡ field_of d passed))
    field_said r = ex_e 𝓤 _ (λ ws. snd∗ 𝓤 (sem 𝓛 (lasts field_at.ended (κ, tt) (d.sheet, (d.at, (passed, tt))) ws)) (fact 𝓤 (r ≡ field_of d passed)))
