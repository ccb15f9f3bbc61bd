-- A bit that is set in the words of a sieve: every other stays.
use Rattle.pgn_game.proofs.Common.{◌≡◌, ◌<◌, ℕ, List, length, inl, inr, ap, sym, ◌∙◌, arith}
use Rattle.std.proofs.Common.{◌^◌, ◌*◌, ◌/◌, ◌%◌, ◌==◌, true, get_or, slice_set, bit_or}
use Rattle.std.specs.Int.{bit_at, w64}
use Rattle.std.proofs.lemmas.List.{get_or-set_same, get_or-set_other}
use Rattle.std.proofs.lemmas.Nat.Bits.{bit_at_set_same, bit_at_set_other}
use Rattle.std.proofs.lemmas.Bool.{cases_eq}
use Rattle.pgn_game.specs.Private.Filing.{is_set}

-- the words where one more bit is set
abbrev pub with_bit : List ℕ → ℕ → List ℕ
with_bit words place = slice_set words (place / 64)
    (bit_or (get_or words (place / 64) 0) (1 * 2 ^ (place % 64) % 2 ^ 64))

below : (place : ℕ) → place % 64 < 64
below place = omega arith

pub put_here : (words : List ℕ) (place : ℕ) → place / 64 < length words
    → is_set (with_bit words place) place ≡ true
put_here words place within =
    ap (λ w. bit_at w (place % 64) == 1) (get_or-set_same words (place / 64) _ 0 within)
    ∙ ap (λ b. b == 1)
    (bit_at_set_same w64 (get_or words (place / 64) 0) (place % 64) (below place))

pub put_kept : (words : List ℕ) (place other : ℕ) → place / 64 < length words
    → is_set words other ≡ true → is_set (with_bit words place) other ≡ true
put_kept words place other within there =
    elim (cases_eq (other / 64) (place / 64)) [
      | inr apart ↦ ap (λ w. bit_at w (other % 64) == 1)
          (get_or-set_other words (place / 64) (other / 64) _ 0 apart) ∙ there
      | inl same ↦ ap (λ k. bit_at (get_or (with_bit words place) k 0) (other % 64) == 1) same
          ∙ ap (λ w. bit_at w (other % 64) == 1)
          (get_or-set_same words (place / 64) _ 0 within)
          ∙ elim (cases_eq (other % 64) (place % 64)) [
            | inl here ↦ ap (λ k. bit_at (bit_or (get_or words (place / 64) 0)
                (1 * 2 ^ (place % 64) % 2 ^ 64)) k == 1) here
                ∙ ap (λ b. b == 1) (bit_at_set_same w64 (get_or words (place / 64) 0)
                (place % 64) (below place))
            | inr apart ↦ ap (λ b. b == 1) (bit_at_set_other w64 (get_or words (place / 64) 0)
                (place % 64) (below place) (other % 64) apart)
                ∙ ap (λ k. bit_at (get_or words k 0) (other % 64) == 1) (sym same) ∙ there
          ]
    ]
