-- A tag read at places of a block.
use Rattle.pgn_text.proofs.Common.{◌≡◌, ◌≢◌, ℕ, ◌+◌, ◌-◌, ◌≤◌, Bool, false, List, length, take}
use Rattle.pgn_text.proofs.Common.{drop, refl, sym, ap, ◌∙◌, arith, length-drop, Some, option_map}
use Rattle.pgn_text.proofs.Common.{ne_eqb, length-take-le, is_white, is_name_byte, is_empty, run_of}
use Rattle.pgn_text.proofs.Common.{Tag, KeptTag, kept_found, rest_after, tag_front, tag_name}
use Rattle.pgn_text.proofs.Common.{tag_string, RunTo, ContentsTo}
use Rattle.pgn_text.proofs.Runs.{is_empty_length}

-- how many bytes a run has
run_length : (test : ℕ → Bool) (block : List ℕ) (from end : ℕ) → RunTo test block from end
    → length (run_of test (drop from block)) ≡ end - from
run_length test block from end to =
    let within : end ≤ length block = to.within in
    ap length (sym to.run)
    ∙ length-take-le (end - from) (drop from block) (omega (arith, length-drop from block))

-- the front of a tag, up to its string
pub record NamedTo (block : List ℕ) (begin start end opening : ℕ) : Type 0 where
  pub first : RunTo is_white block begin start
  pub name : RunTo is_name_byte block start end
  pub some : start ≢ end
  pub second : RunTo is_white block end opening

-- what is read of a tag after its name
named_string : (block : List ℕ) (begin start end opening : ℕ)
    → NamedTo block begin start end opening
    → tag_front (drop begin block)
    ≡ tag_string (run_of is_white (drop begin block)) (run_of is_name_byte (drop start block))
    (run_of is_white (drop end block)) (drop opening block)
named_string block begin start end opening to =
    let forward : start ≤ end = to.name.forward in
    let some : is_empty (run_of is_name_byte (drop start block)) ≡ false =
    is_empty_length (run_of is_name_byte (drop start block))
    ∙ ne_eqb (length (run_of is_name_byte (drop start block))) 0 (λ none.
    to.some (omega (arith, run_length is_name_byte block start end to.name, none))) in
    ap (tag_name (run_of is_white (drop begin block))) (sym to.first.rest)
    ∙ rw (some, sym to.name.rest, sym to.second.rest) refl

-- a whole tag
pub whole_tag : {block : List ℕ} {begin start end opening closing last : ℕ}
    → NamedTo block begin start end opening
    → rest_after 34 (drop opening block) ≡ Some (drop (opening + 1) block)
    → ContentsTo block (opening + 1) closing
    → rest_after 34 (drop closing block) ≡ Some (drop (closing + 1) block)
    → RunTo is_white block (closing + 1) last
    → rest_after 93 (drop last block) ≡ Some (drop (last + 1) block)
    → Some (
      KeptTag (take (end - start) (drop start block))
          (take (closing - (opening + 1)) (drop (opening + 1) block)),
      drop (last + 1) block,
    )
    ≡ option_map kept_found (tag_front (drop begin block))
whole_tag {block} {begin} {start} {end} {opening} {closing} {last} to quote contents end_quote third
    bracket =
    let found : tag_front (drop begin block)
    ≡ Some (
      Tag (run_of is_white (drop begin block)) (run_of is_name_byte (drop start block))
          (run_of is_white (drop end block))
          (take (closing - (opening + 1)) (drop (opening + 1) block))
          (run_of is_white (drop (closing + 1) block)),
      drop (last + 1) block,
    ) =
    named_string block begin start end opening to
    ∙ rw (quote, contents.found, end_quote, sym third.rest, bracket) refl in
    sym (ap (option_map kept_found) found
    ∙ ap (λ name.
    Some (
      KeptTag name (take (closing - (opening + 1)) (drop (opening + 1) block)),
      drop (last + 1) block,
    )) (sym to.name.run))
