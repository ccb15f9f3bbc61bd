-- Facts about the table of letters: how it is filled man by man, and what it says of each square.
use Rattle.std.proofs.Common.{◌≡◌, ◌<◌, ◌+◌, ℕ, not, inl, inr, ap, refl, sym, ◌∙◌, List, Some, None}
use Rattle.std.proofs.Common.{◌&&◌, false, subst, arith, if◌then◌else◌, length, slice_set, Option}
use Rattle.chess.proofs.Common.{replicate, ltb, lt-ltb, ltb-true, cases_Bool, get_or-set_same}
use Rattle.chess.proofs.Common.{get_or-set_other, get_or-replicate, length-set, Place, IsOnBoard}
use Rattle.chess.proofs.Common.{index_of, square_at, index_of-below, square_at-index_of, false_of}
use Rattle.chess.proofs.Common.{and_false, Placement, man_at, man_letter, Places, is_in}
use Rattle.chess.proofs.Common.{IsSquaresOf, IsTakenFirst, row_of, man_of_row, letter_on}
use Rattle.chess.proofs.Common.{AreLetters, Man, Side, Kind, White, Black, King}
use Rattle.chess.specs.Shared.SetFacts.{and_true}
use Rattle.chess.specs.Private.FenTextWords.{letter_at, letter_below, AreLettersBelow}
use Rattle.chess.proofs.PlaceFacts.{cases_place, same_square-same, same_square-then, true_not_false}
use Rattle.chess.proofs.LoopFacts.{not_in}
use Rattle.chess.proofs.BitFacts.{man_of_row-row_of, row_of-below}

-- ---- one letter on the squares of a set

-- once the letter stands on the squares left too, it stands on all of the set, and all other
-- squares are as they were
pub record IsMarked (letter : ℕ) (old : List ℕ) (squares left : Places) (now : List ℕ) : Type 0
  where
    pub size : length now ≡ 72
    pub each : (s : Place) → IsOnBoard s
        → (if is_in left s then letter else letter_at now s)
        ≡ (if is_in squares s then letter else letter_at old s)

pub marked_more : (letter : ℕ) (old : List ℕ) (squares left new : Places) (now : List ℕ) (t : Place)
    → IsTakenFirst left new (Some t)
    → IsMarked letter old squares left now
    → IsMarked letter old squares new (slice_set now (index_of t) letter)
marked_more letter old squares left new now t capture_square so_far =
    let then_letters = slice_set now (index_of t) letter in
    let size = so_far.size in
    let below = index_of-below t capture_square.0 in record {
      size = length-set now (index_of t) letter ∙ size;
      each = λ s on. elim (cases_place s t) [
        | inl same ↦
            let gone : is_in new s ≡ false = capture_square.3 s
            ∙ ap (λ b. is_in left s && not b) (same_square-same s t same)
            ∙ and_false (is_in left s) in
            ap (λ b. if b then letter else letter_at then_letters s) gone
            ∙ ap (letter_at then_letters) same
            ∙ get_or-set_same now (index_of t) letter 0 (omega arith)
            ∙ sym (ap (λ b. if b then letter else letter_at now s) (ap (is_in left) same
            ∙ capture_square.1))
            ∙ so_far.each s on
        | inr other ↦
            let kept : is_in new s ≡ is_in left s =
            capture_square.3 s
            ∙ ap (λ b. is_in left s && not b) (false_of _ (λ e. other (same_square-then s t e)))
            ∙ and_true (is_in left s) in
            ap (λ b. if b then letter else letter_at then_letters s) kept
            ∙ ap (λ n. if is_in left s then letter
            else n) (get_or-set_other now (index_of t) (index_of s) letter 0
            (λ e. other (sym (square_at-index_of s on) ∙ ap square_at e
            ∙ square_at-index_of t capture_square.0)))
            ∙ so_far.each s on
      ];
    }

pub marked_all : (letter : ℕ) (old : List ℕ) (squares left new : Places) (now : List ℕ)
    → IsTakenFirst left new None
    → IsMarked letter old squares left now
    → (s : Place) → IsOnBoard s → letter_at now s
    ≡ (if is_in squares s then letter else letter_at old s)
marked_all letter old squares left new now none so_far s on =
    sym (ap (λ b. if b then letter else letter_at now s) (not_in left s none.0)) ∙ so_far.each s on

-- ---- the letters of one man more

one_row : (a b : Man) → row_of a ≡ row_of b → a ≡ b
one_row a b e = sym (man_of_row-row_of a) ∙ ap man_of_row e ∙ man_of_row-row_of b

below_too : (r n : ℕ) → (r ≡ n → ⊥) → ltb r n ≡ ltb r (n + 1)
below_too r n other = elim (cases_Bool (ltb r n)) [
  | inl less ↦ let h = ltb-true r n less in less ∙ sym (lt-ltb r (n + 1) (omega arith))
  | inr more ↦ more ∙ sym (false_of _ (λ e.
      let h = ltb-true r (n + 1) e in
      let less : r < n = omega arith in
      true_not_false _ (lt-ltb r n less) more))
]

below_other : (o : Option Man) (man : Man) (n : ℕ) → n ≡ row_of man → (o ≡ Some man → ⊥)
    → letter_below n o ≡ letter_below (n + 1) o
below_other None man n at other = refl
below_other (Some own) man n at other =
    ap (λ b. if b then man_letter own
    else 0) (below_too (row_of own) n (λ e. other (ap Some (one_row own man (e ∙ at)))))

below_own : (man : Man) (n : ℕ) → n ≡ row_of man → letter_below (n + 1) (Some man) ≡ man_letter man
below_own man n at =
    ap (λ b. if b then man_letter man else 0) (lt-ltb (row_of man) (n + 1) (omega arith))

pub one_more_man : (p : Placement) (man : Man) (letter n : ℕ) (squares : Places) (old new : List ℕ)
    → n ≡ row_of man → letter ≡ man_letter man
    → IsSquaresOf p man squares
    → ((s : Place) → IsOnBoard s → letter_at new s
    ≡ (if is_in squares s then letter else letter_at old s))
    → AreLettersBelow p old n → AreLettersBelow p new (n + 1)
one_more_man p man letter n squares old new at own found marked before s on =
    elim (cases_Bool (is_in squares s)) [
      | inl here ↦
          marked s on ∙ ap (λ b. if b then letter else letter_at old s) here ∙ own
          ∙ sym (ap (letter_below (n + 1)) ((found s).0 here).1 ∙ below_own man n at)
      | inr away ↦
          marked s on ∙ ap (λ b. if b then letter else letter_at old s) away ∙ before s on
          ∙ below_other (man_at p s) man n at (λ e. true_not_false _ ((found s).1 (on, e)) away)
    ]

-- the number in another form
pub below_same : (p : Placement) (letters : List ℕ) (m n : ℕ) → m ≡ n → AreLettersBelow p letters m
    → AreLettersBelow p letters n
below_same p letters m n same before = subst (AreLettersBelow p letters) same before

below_none : (o : Option Man) → letter_below 0 o ≡ 0
below_none None = refl
below_none (Some man) =
    ap (λ b. if b then man_letter man
    else 0) (false_of _ (λ e. let h = ltb-true (row_of man) 0 e in absurd (omega arith)))

pub no_letters : (p : Placement) → AreLettersBelow p (replicate 72 0) 0
no_letters p s on =
    let below = index_of-below s on in
    get_or-replicate 72 (index_of s) 0 0 (omega arith)
    ∙ sym (below_none (man_at p s))

below_all : (o : Option Man) → letter_below 12 o ≡ letter_on o
below_all None = refl
below_all (Some man) =
    ap (λ b. if b then man_letter man else 0) (lt-ltb (row_of man) 12 (row_of-below man))

pub all_letters : (p : Placement) (letters : List ℕ) → AreLettersBelow p letters 12
    → AreLetters p letters
all_letters p letters below s on = below s on ∙ below_all (man_at p s)

-- ---- what a letter says of a square

kind_ascii : (other : Kind) → man_letter (record { side = White; kind = other }) < 96
kind_ascii King = omega arith
kind_ascii _ = omega arith

man_ascii : (side : Side) (other : Kind) → man_letter (record { side = side; kind = other }) < 128
man_ascii White other = let h = kind_ascii other in omega arith
man_ascii Black other = let h = kind_ascii other in omega arith

pub letter_ascii : (o : Option Man) → letter_on o < 128
letter_ascii None = omega arith
letter_ascii (Some man) = man_ascii man.side man.kind
