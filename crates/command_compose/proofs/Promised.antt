-- Everything that `specs/Promised.antt` lists, proved.
use Prim.Native.Nat.{ℕ}
use mathlib.Core.Path.{◌≡◌, refl, sym, ap, ◌∙◌}
use mathlib.Core.List.{List, [], ◌∷◌, ◌++◌}
use Rattle.text.specs.Text.{newline}
use Rattle.command_compose.specs.Compose.{line_drafted, on_next_line, compose_start, compose_after, draft_of}
use Rattle.command_compose.proofs.ComposeLaws.{compose_snoc, compose_append, text_line_ends, newline_more}
use Rattle.command_compose.specs.Promised.{Promised}
use Rattle.command_compose.proofs.SentLaws.{sent_append}
use Rattle.command_compose.specs.declared.Composing.{Composing}

-- so a text may end with its newline or lack it
one_newline_more : (text : List ℕ) → draft_of (text ++ (newline ∷ [])) ≡ on_next_line (draft_of text)
one_newline_more text =
    let c = compose_after compose_start text in
    let ended = compose_snoc compose_start text newline ∙ text_line_ends (compose_after compose_start text) newline refl in
    ap (λ (x : Composing). x.draft)
    (compose_append compose_start (text ++ (newline ∷ [])) (newline ∷ [])
    ∙ ap (λ (x : Composing). compose_after x (newline ∷ [])) ended
    ∙ newline_more (on_next_line (line_drafted c.draft c.scan)))
    ∙ ap (λ (x : Composing). on_next_line x.draft) (sym ended)

pub promised : Promised
promised = record { compose_pieces = compose_append; last_newline = one_newline_more; sent_pieces = sent_append }
