-- What the words of a sweep show.
use Rattle.std.proofs.Common.{◌&&◌}
use Rattle.std.proofs.lemmas.List.{get_or_past}
use Rattle.pgn_text.proofs.Common.{◌≡◌, ℕ, zero, suc, ◌+◌, ◌/◌, ◌^◌, ◌<◌, ◌≤◌, Bool, true, false}
use Rattle.pgn_text.proofs.Common.{not, ◌||◌, List, length, get_or, refl, sym, ap, ap₂, ◌∙◌, arith}
use Rattle.pgn_text.proofs.Common.{inl, inr, cases_lt, is_digit, is_letter, is_word_byte}
use Rattle.pgn_text.specs.Private.Masks.{is_gap, is_move_sign, AreBegins, word_begins}
use Rattle.pgn_text.proofs.laws.Classes.{is_gap-word, plain-word}
use Rattle.pgn_text.specs.Shared.Lanes.{has_bit}
use Rattle.pgn_text.proofs.Bits.{bit-shr, bit-above, clash}

-- where the words begin
pub begins_are : (block : List ℕ) (at words begins len : ℕ) → len ≤ 64 → AreBegins words begins
    → ((i : ℕ) → i < len → has_bit words i ≡ is_word_byte (get_or block (at + i) 0))
    → (i : ℕ) → i < len → has_bit begins i ≡ word_begins block at i
begins_are block at words begins len short begun are zero lt = begun.0 ∙ are 0 lt
begins_are block at words begins len short begun are (suc i) lt =
    begun.1 i (omega arith) ∙ ap₂ (λ a b. a && not b) (are (suc i) lt) (are i (omega arith))

-- a mask of 64 bytes moved down to a later place, where the bytes are the last of the block
pub moved_bits : (test : ℕ → Bool) → test 0 ≡ false → (block : List ℕ) (base skip at mask : ℕ)
    → base + skip ≡ at → (0 < skip → base + 64 ≡ length block) → mask < 2 ^ 64
    → ((i : ℕ) → i < 64 → has_bit mask i ≡ test (get_or block (base + i) 0)) → (i : ℕ) → i < 64
    → has_bit (mask / 2 ^ skip) i ≡ test (get_or block (at + i) 0)
moved_bits test fails block base skip at mask there ends fit are i lt =
    bit-shr mask skip i
    ∙ elim (cases_lt (skip + i) 64) [
      | inl within ↦ are (skip + i) within ∙ ap (λ n. test (get_or block n 0)) (omega arith)
      | inr past ↦
          let last : base + 64 ≡ length block = ends (omega arith) in
          bit-above mask (skip + i) fit past
          ∙ sym (ap test (get_or_past block (at + i) 0 (omega arith)) ∙ fails)
    ]

-- bytes up to a gap stand in the block
pub within_block : (block : List ℕ) (at len : ℕ) → at < length block
    → ((i : ℕ) → len ≡ suc i → is_gap (get_or block (at + i) 0) ≡ true) → at + len ≤ length block
within_block block at zero lt ends = omega arith
within_block block at (suc i) lt ends = elim (cases_lt (at + i) (length block)) [
  | inl below ↦ omega arith
  | inr past ↦ absurd
      (clash (is_gap (get_or block (at + i) 0)) (ends i refl)
      (ap is_gap (get_or_past block (at + i) 0 past)))
]

-- a byte of a word or of a gap is that of a word as far as its signs are those of moves
pub word_of_moves : (b : ℕ) → (((is_letter b || is_digit b) || is_move_sign b) || is_gap b) ≡ true
    → ((is_letter b || is_digit b) || is_move_sign b) ≡ is_word_byte b
word_of_moves b known = go ((is_letter b || is_digit b) || is_move_sign b) refl known
  where
    go : (v : Bool) → ((is_letter b || is_digit b) || is_move_sign b) ≡ v → (v || is_gap b) ≡ true
        → v ≡ is_word_byte b
    go true is any = sym (plain-word b is)
    go false is any = sym (is_gap-word b any)
