-- Brace comments, found by their closing brace.
use Rattle.std.specs.Prelude.{Some, None, option_map}
use Rattle.memchr.specs.Find.{is_byte}
use Rattle.pgn_text.proofs.Common.{◌≡◌, ℕ, ◌+◌, ◌-◌, ◌<◌, ◌≤◌, true, false, List, length, take}
use Rattle.pgn_text.proofs.Common.{drop, get_or, sym, ap, ◌∙◌, arith, inl, inr, cases_lt}
use Rattle.pgn_text.proofs.Common.{get_or-drop, length-drop, IsFirstByte}
use Rattle.pgn_text.proofs.Common.{is_not_brace, run_of, after_run, Brace, rest_after, brace_front}
use Rattle.pgn_text.proofs.Bits.{clash}
use Rattle.pgn_text.proofs.Runs.{first_byte-run, after-first_byte, after-first_byte-none, take_run}

pub brace_found : (text : List ℕ) (n : ℕ) → IsFirstByte (is_byte 125) text (Some n)
    → brace_front text ≡ Some (Brace (take n text), drop (n + 1) text)
brace_found text n first =
    let front : run_of is_not_brace text ≡ take n text =
    sym (take_run is_not_brace text) ∙ ap (λ k. take k text) (sym (first_byte-run 125 text n first))
    in
    let rest : rest_after 125 (after_run is_not_brace text) ≡ Some (drop (n + 1) text) =
    ap (λ xs. rest_after 125 xs) (after-first_byte 125 text n first) in
    ap (λ o. option_map (λ tail. (Brace (run_of is_not_brace text), tail)) o) rest
    ∙ ap (λ front. Some (Brace front, drop (n + 1) text)) front

pub brace_none : (text : List ℕ) → IsFirstByte (is_byte 125) text None → brace_front text ≡ None
brace_none text nowhere =
    ap (λ xs. option_map (λ rest. (Brace (run_of is_not_brace text), rest)) (rest_after 125 xs))
    (after-first_byte-none 125 text nowhere)

module _ (b n : ℕ) (text : List ℕ)
    (none : (k : ℕ) → k < n → is_byte b (get_or text k 0) ≡ false) where
  -- a byte after the first ones, seen from there
  from_there : (k : ℕ) → n ≤ k → is_byte b (get_or text k 0) ≡ true
      → is_byte b (get_or (drop n text) (k - n) 0) ≡ true
  from_there k le is =
      ap (is_byte b) (get_or-drop n text (k - n) 0 ∙ ap (λ j. get_or text j 0) (omega arith)) ∙ is

  -- a byte that is none of the first ones stands nowhere, if it stands nowhere after them
  pub nowhere_after : IsFirstByte (is_byte b) (drop n text) None → IsFirstByte (is_byte b) text None
  nowhere_after nowhere k low below is = elim (cases_lt k n) [
    | inl less ↦ clash (is_byte b (get_or text k 0)) is (none k less)
    | inr more ↦ nowhere (k - n) (omega arith) (omega (arith, length-drop n text))
        (from_there k more is)
  ]

  -- a byte that is none of the first ones stands first where it stands first after them
  pub first_after : (k : ℕ) → IsFirstByte (is_byte b) (drop n text) (Some k)
      → IsFirstByte (is_byte b) text (Some (n + k))
  first_after k (first, here) =
      let high : k < length (drop n text) = first.high in (
        record {
          low = omega arith;
          high = omega (arith, length-drop n text);
          before = λ j low below is.
              elim (cases_lt j n) [
                | inl less ↦ clash (is_byte b (get_or text j 0)) is (none j less)
                | inr more ↦ first.before (j - n) (omega arith) (omega arith)
                    (from_there j more is)
              ];
        },
        ap (is_byte b) (sym (get_or-drop n text k 0)) ∙ here,
      )
