-- The line of an entry, and the one of the entry at the next ply.
use Rattle.std.proofs.Math.Seq.{get_or-append_seam, set-append_seam}
use Rattle.pgn_extract.proofs.Common.{◌≡◌, ℕ, ◌+◌, ◌-◌, ◌/◌, ◌%◌, ◌^◌, ◌<◌, List, [], ◌∷◌, ◌++◌}
use Rattle.pgn_extract.proofs.Common.{length, get_or, set, decimal, sym, ap, ◌∙◌, arith}
use Rattle.pgn_extract.proofs.Common.{append_assoc, length-append, inl, inr, cases_lt}
use Rattle.pgn_extract.proofs.Common.{decimal_digit, decimal_step}

-- the last digit of a number, if it is not 9, is one less than that of the next number, and the
-- others are the same
pub next_digit : (n : ℕ) → n + 1 < 2 ^ 64 → (n % 10 ≡ 9 → ⊥)
    → (front : List ℕ) × (decimal n ≡ front ++ (48 + n % 10) ∷ [])
    × (decimal (n + 1) ≡ front ++ (48 + n % 10 + 1) ∷ [])
next_digit n fits stays = elim (cases_lt n 10) [
  | inl less ↦
      let one : n % 10 ≡ n = omega arith in
      let up : 48 + (n + 1) ≡ 48 + n % 10 + 1 = omega arith in (
        [],
        decimal_digit n less ∙ ap (λ d. (48 + d) ∷ []) (sym one),
        decimal_digit (n + 1) (omega arith) ∙ ap (λ d. d ∷ []) up,
      )
  | inr more ↦
      let tens : (n + 1) / 10 ≡ n / 10 = omega arith in
      let up : 48 + (n + 1) % 10 ≡ 48 + n % 10 + 1 = omega arith in (
        decimal (n / 10),
        decimal_step n more (omega arith),
        decimal_step (n + 1) (omega arith) fits
            ∙ ap (λ t. decimal t ++ (48 + (n + 1) % 10) ∷ []) tens
            ∙ ap (λ d. decimal (n / 10) ++ d ∷ []) up,
      )
]

-- a line by its last digit
pub parted : (mark front : List ℕ) (digit : ℕ)
    → mark ++ 32 ∷ (front ++ digit ∷ []) ++ 10 ∷ [] ≡ (mark ++ 32 ∷ front) ++ digit ∷ 10 ∷ []
parted mark front digit =
    ap (λ t. t ++ 10 ∷ []) (sym (append_assoc mark (32 ∷ front) (digit ∷ [])))
    ∙ append_assoc (mark ++ 32 ∷ front) (digit ∷ []) (10 ∷ [])

module _ (line mark : List ℕ) (n : ℕ) (is : line ≡ mark ++ 32 ∷ decimal n ++ 10 ∷ []) (fits : n + 1
    < 2 ^ 64) (stays : n % 10 ≡ 9 → ⊥) where
  abbrev of : (front : List ℕ) × (decimal n ≡ front ++ (48 + n % 10) ∷ [])
      × (decimal (n + 1) ≡ front ++ (48 + n % 10 + 1) ∷ [])
  of = next_digit n fits stays

  abbrev ahead : List ℕ
  ahead = mark ++ 32 ∷ of.0

  line_is : line ≡ ahead ++ (48 + n % 10) ∷ 10 ∷ []
  line_is = is ∙ ap (λ t. mark ++ 32 ∷ t ++ 10 ∷ []) of.1 ∙ parted mark of.0 (48 + n % 10)

  place : length line - 2 ≡ length ahead
  place = let size : length line ≡ length ahead + 2 =
      ap length line_is ∙ length-append ahead ((48 + n % 10) ∷ 10 ∷ []) in omega arith

  -- its last digit
  pub digit_at : (d : ℕ) → get_or line (length line - 2) d ≡ 48 + n % 10
  digit_at d = ap (λ i. get_or line i d) place ∙ ap (λ t. get_or t (length ahead) d) line_is
      ∙ get_or-append_seam ahead (48 + n % 10) (10 ∷ []) d

  -- one more makes the next line
  pub next_line : set line (length line - 2) (48 + n % 10 + 1)
      ≡ mark ++ 32 ∷ decimal (n + 1) ++ 10 ∷ []
  next_line =
      ap (λ i. set line i (48 + n % 10 + 1)) place
      ∙ ap (λ t. set t (length ahead) (48 + n % 10 + 1)) line_is
      ∙ set-append_seam ahead (48 + n % 10) (10 ∷ []) (48 + n % 10 + 1)
      ∙ sym (parted mark of.0 (48 + n % 10 + 1)) ∙ ap (λ t. mark ++ 32 ∷ t ++ 10 ∷ []) (sym of.2)
