-- What words of 64 bits show of 64 bytes of a block.
use Rattle.std.specs.Prelude.{◌≡◌, ℕ, zero, suc, Bool, true, false, not, ◌&&◌, ◌||◌, ◌==◌, ◌+◌, ◌<◌}
use Rattle.std.specs.Prelude.{◌≤◌, List, length, get_or}
use Rattle.pgn_text.specs.Public.Bytes.{is_white, is_digit, is_letter, is_word_byte}
use Rattle.pgn_text.specs.Shared.Lanes.{has_bit}

-- a sign of the words of moves: one of + # = -
abbrev pub is_move_sign : ℕ → Bool
is_move_sign b = (b == 43 || b == 35) || (b == 61 || b == 45)

-- white space or a period
abbrev pub is_gap : ℕ → Bool
is_gap b = is_white b || b == 46

-- the bits of `begins` are those of `words` before which none of them is set
abbrev pub AreBegins : ℕ → ℕ → Type 0
AreBegins words begins = (has_bit begins 0 ≡ has_bit words 0)
    × ((i : ℕ) → suc i < 64 → has_bit begins (suc i)
    ≡ (has_bit words (suc i) && not (has_bit words i)))

-- a word of the block begins at byte i from the place, where what stands before the place does not
-- count
abbrev pub word_begins : List ℕ → ℕ → ℕ → Bool
word_begins block at zero = is_word_byte (get_or block (at + 0) 0)
word_begins block at (suc i) = is_word_byte (get_or block (at + suc i) 0)
    && not (is_word_byte (get_or block (at + i) 0))

-- the first `len` bytes from the place on, which are fewer than 64, are plain movetext whose last
-- byte is white space or a period, with words at the bits of `words`, with the moves that begin at
-- those of `moves`, and with bytes of numbers at those of `numbers`
pub record Sweeps (block : List ℕ) (at words moves numbers len : ℕ) : Type 0 where
  pub within : at + len ≤ length block
  pub short : len < 64
  pub words_are : (i : ℕ) → i < len → has_bit words i ≡ is_word_byte (get_or block (at + i) 0)
  pub moves_are : (i : ℕ) → i < len → has_bit moves i
      ≡ (word_begins block at i && is_letter (get_or block (at + i) 0))
  pub moves_end : (i : ℕ) → len ≤ i → i < 64 → has_bit moves i ≡ false
  pub each : (i : ℕ) → i < len
      → (is_word_byte (get_or block (at + i) 0) || is_gap (get_or block (at + i) 0)) ≡ true
  pub begins : (i : ℕ) → i < len → word_begins block at i ≡ true
      → (is_letter (get_or block (at + i) 0) || has_bit numbers i) ≡ true
  pub digits : (i : ℕ) → i < len → has_bit numbers i ≡ true
      → is_digit (get_or block (at + i) 0) ≡ true
  pub goes_on : (i : ℕ) → suc i < len → has_bit numbers i ≡ true
      → (has_bit numbers (suc i) || is_gap (get_or block (at + suc i) 0)) ≡ true
  pub ends : (i : ℕ) → len ≡ suc i → is_gap (get_or block (at + i) 0) ≡ true

-- no bit of the word is set from the place on
abbrev pub NoneFrom : ℕ → ℕ → Type 0
NoneFrom word place = (i : ℕ) → place ≤ i → i < 64 → has_bit word i ≡ false

-- after each bit of `moves` there is a place without a bit of `words`
abbrev pub HaveEnds : ℕ → ℕ → Type 0
HaveEnds words moves = (i : ℕ) → i < 64 → has_bit moves i ≡ true
    → (end : ℕ) × (i < end) × (end < 64) × (has_bit words end ≡ false)

-- the first bit of `moves` from the place on is that at `begin`, and `end` is the first place after
-- it without a bit of `words`
pub record IsNextMove (words moves from begin end : ℕ) : Type 0 where
  pub forward : from ≤ begin
  pub short : end < 64
  pub longer : begin ≤ end
  pub begins : has_bit moves begin ≡ true
  pub first : (i : ℕ) → from ≤ i → i < begin → has_bit moves i ≡ false
  pub inside : (i : ℕ) → begin ≤ i → i < end → has_bit words i ≡ true
  pub ends : has_bit words end ≡ false
