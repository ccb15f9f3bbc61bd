-- Reading on, eight bytes or one at a time, where only what is left is kept of what stands in
-- front.
use Rattle.std.proofs.Common.{◌≡◌, ℕ, suc, ◌+◌, ◌*◌, ◌%◌, ◌^◌, ◌<◌, ◌≤◌, List, [], ◌∷◌, length}
use Rattle.std.proofs.Common.{get_or, take, drop, sym, ap, ◌∙◌, arith, drop-cons}
use Rattle.std.specs.Int.{w64, from_be_bytes}
use Rattle.std.specs.Int.Digits.{number_from_digits_after}
use Rattle.pgn_game.specs.Public.Residues.{modulus}

-- what stands in front may be any number that leaves the same
pub as_well : (bytes : List ℕ) (a b : ℕ) → a % modulus ≡ b % modulus
    → number_from_digits_after 256 a bytes % modulus ≡ number_from_digits_after 256 b bytes %
    modulus
as_well [] a b e = e
as_well (d ∷ bytes) a b e = as_well bytes (a * 256 + d) (b * 256 + d) (omega (arith, e))

-- the number of eight bytes after a number
eight : (n a b c d e f g h : ℕ) → (((((((n * 256 + a) * 256 + b) * 256 + c) * 256 + d) * 256 + e) *
    256 + f) * 256 + g) * 256 + h ≡ n * 2 ^ 64 + from_be_bytes w64
    (a ∷ b ∷ c ∷ d ∷ e ∷ f ∷ g ∷ h ∷ [])
eight n a b c d e f g h = omega arith

pub word_step : (n : ℕ) (bytes : List ℕ) → 8 ≤ length bytes
    → number_from_digits_after 256 n bytes ≡ number_from_digits_after 256
    (n * 2 ^ 64 + from_be_bytes w64 (take 8 bytes)) (drop 8 bytes)
word_step n [] le = absurd (omega (arith, le))
word_step n (a ∷ []) le = absurd (omega (arith, le))
word_step n (a ∷ b ∷ []) le = absurd (omega (arith, le))
word_step n (a ∷ b ∷ c ∷ []) le = absurd (omega (arith, le))
word_step n (a ∷ b ∷ c ∷ d ∷ []) le = absurd (omega (arith, le))
word_step n (a ∷ b ∷ c ∷ d ∷ e ∷ []) le = absurd (omega (arith, le))
word_step n (a ∷ b ∷ c ∷ d ∷ e ∷ f ∷ []) le = absurd (omega (arith, le))
word_step n (a ∷ b ∷ c ∷ d ∷ e ∷ f ∷ g ∷ []) le = absurd (omega (arith, le))
word_step n (a ∷ b ∷ c ∷ d ∷ e ∷ f ∷ g ∷ h ∷ bytes) le = ap (λ
    (k : ℕ). number_from_digits_after 256 k bytes) (eight n a b c d e f g h)

-- a step of a word, and one of a byte
pub word_kept : (n m : ℕ) (bytes : List ℕ) (total : ℕ) → 8 ≤ length bytes
    → m ≡ (n * 2 ^ 64 + from_be_bytes w64 (take 8 bytes)) % modulus
    → number_from_digits_after 256 n bytes % modulus ≡ total
    → number_from_digits_after 256 m (drop 8 bytes) % modulus ≡ total
word_kept n m bytes total le is so_far =
    as_well (drop 8 bytes) m (n * 2 ^ 64 + from_be_bytes w64 (take 8 bytes)) (omega (arith, is))
    ∙ ap (λ (k : ℕ). k % modulus) (sym (word_step n bytes le)) ∙ so_far

pub byte_kept : (n m i : ℕ) (bytes : List ℕ) (total : ℕ) → i < length bytes
    → m ≡ (n * 256 + get_or bytes i 0) % modulus
    → number_from_digits_after 256 n (drop i bytes) % modulus ≡ total
    → number_from_digits_after 256 m (drop (i + 1) bytes) % modulus ≡ total
byte_kept n m i bytes total lt is so_far =
    let first : drop i bytes ≡ get_or bytes i 0 ∷ drop (i + 1) bytes =
    let more : suc i ≡ i + 1 = omega arith in drop-cons bytes i 0 lt
    ∙ ap (λ (k : ℕ). get_or bytes i 0 ∷ drop k bytes) more in
    as_well (drop (i + 1) bytes) m (n * 256 + get_or bytes i 0) (omega (arith, is))
    ∙ ap (λ (t : List ℕ). number_from_digits_after 256 n t % modulus) (sym first) ∙ so_far
