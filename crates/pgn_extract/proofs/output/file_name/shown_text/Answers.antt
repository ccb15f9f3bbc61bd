use Rattle.std.proofs.Common.{◌≡◌, ◌++◌, ℕ, List, IsUtf8, chars, map, encode_utf8, encode_utf8_all}
use Rattle.std.proofs.Common.{length, ap, sym, ◌∙◌, append_assoc, append-nil, []}
use Rattle.std.proofs.lemmas.List.{nil_from_length}
use Rattle.std.proofs.lemmas.Str.{IsUtf8-past_char, chars_past_char, chars-nil}
use Rattle.pgn_extract.specs.Public.Index.{shown_char, shown_name}
use Rattle.pgn_extract.proofs.output.file_name.shown_text.Goals as goal

name_of_empty : (text : List ℕ) → length text ≡ 0 → shown_name text ≡ []
name_of_empty text none =
    ap (λ cs. encode_utf8_all (map shown_char cs)) (ap chars (nil_from_length text none)
    ∙ chars-nil)

name_step : (text rest : List ℕ) (c : ℕ) → IsUtf8 text → text ≡ encode_utf8 c ++ rest
    → shown_name text ≡ encode_utf8 (shown_char c) ++ shown_name rest
name_step text rest c utf8 parts =
    ap (λ cs. encode_utf8_all (map shown_char cs)) (chars_past_char text rest c utf8 parts)

pub loop-character-preserved : goal.loop-character-preserved
loop-character-preserved c =
    let held = c.loop-character.invariant in
    let parts = c.in-Some.ensures.steps.0 in
    let step = name_step _ _ c.in-Some.character held.0 parts in (
      IsUtf8-past_char _ _ c.in-Some.character held.0 parts,
      rw (c.in_ok-push.ensures.bytes, c.shown_char_of.ensures, append_assoc) (rw step at held.1),
    )

pub returns : goal.returns
returns c = sym (append-nil _)
    ∙ rw (name_of_empty _ c.in-None.ensures.steps.0.0) at c.loop-character.invariant.1
