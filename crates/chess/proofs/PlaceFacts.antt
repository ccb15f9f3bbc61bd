-- Facts about squares, sides and men, by cases.
use Rattle.std.proofs.lemmas.Bool.{not_from_false, false_from_ne_true}
use Rattle.chess.proofs.Common.{◌≡◌, ◌&&◌, ◌⊎◌, ℕ, Bool, true, false, not, inl, inr, ap, refl, sym}
use Rattle.chess.proofs.Common.{◌∙◌, arith, Option, Some, None, ◌==◌, cases_eq, not-true, nat_tests}
use Rattle.chess.proofs.Common.{Place, same_square, opposite, Man, Side, White, Black}

pub place_of : (s t : Place) → s.file ≡ t.file → s.rank ≡ t.rank → s ≡ t
place_of s t e f = λ i. record { file = e i; rank = f i }

pub cases_place : (s t : Place) → (s ≡ t) ⊎ (s ≡ t → ⊥)
cases_place s t = elim (cases_eq s.file t.file) [
  | inl e ↦ elim (cases_eq s.rank t.rank) [
    | inl f ↦ inl (place_of s t e f)
    | inr f ↦ inr (λ p. f (ap (λ (u : Place). u.rank) p))
  ]
  | inr e ↦ inr (λ p. e (ap (λ (u : Place). u.file) p))
]

-- the test of two squares
numbers_same : (a b c d : ℕ) → a ≡ c → b ≡ d → (a == c && b == d) ≡ true
numbers_same a b c d e f = grind (arith, nat_tests)

numbers_file : (a b c d : ℕ) → (a == c && b == d) ≡ true → a ≡ c
numbers_file a b c d e = grind (arith, nat_tests)

numbers_rank : (a b c d : ℕ) → (a == c && b == d) ≡ true → b ≡ d
numbers_rank a b c d e = grind (arith, nat_tests)

pub same_square-same : (s t : Place) → s ≡ t → same_square s t ≡ true
same_square-same s t e =
    numbers_same s.file s.rank t.file t.rank (ap (λ (u : Place). u.file) e)
    (ap (λ (u : Place). u.rank) e)

pub same_square-then : (s t : Place) → same_square s t ≡ true → s ≡ t
same_square-then s t e =
    place_of s t (numbers_file s.file s.rank t.file t.rank e)
    (numbers_rank s.file s.rank t.file t.rank e)

-- sides
pub opposite-opposite : (side : Side) → opposite (opposite side) ≡ side
opposite-opposite White = refl
opposite-opposite Black = refl

pub cases_side : (side turn : Side) → (side ≡ turn) ⊎ (side ≡ opposite turn)
cases_side White White = inl refl
cases_side White Black = inr refl
cases_side Black White = inr refl
cases_side Black Black = inl refl

pub not_opposite : (side : Side) → side ≡ opposite side → ⊥
not_opposite White e = let f : White ≡ Black = e in cc
not_opposite Black e = let f : Black ≡ White = e in cc

-- men that are one agree in side and kind
pub same_side : (a b : Man) → Some a ≡ Some b → a.side ≡ b.side
same_side a b e = let same : a ≡ b = cc in ap (λ (x : Man). x.side) same

pub same_kind : (a b : Man) → Some a ≡ Some b → a.kind ≡ b.kind
same_kind a b e = let same : a ≡ b = cc in ap (λ (x : Man). x.kind) same

pub man_of : (a b : Man) → a.side ≡ b.side → a.kind ≡ b.kind → a ≡ b
man_of a b e f = λ i. record { side = e i; kind = f i }

pub some_not_none : (o : Option Man) (man : Man) → o ≡ None → o ≡ Some man → ⊥
some_not_none o man none some = let e : None ≡ Some man = sym none ∙ some in cc

pub true_not_false : (b : Bool) → b ≡ true → b ≡ false → ⊥
true_not_false b yes_it no_it = let e : true ≡ false = sym yes_it ∙ no_it in cc

pub not_true : (b : Bool) → (b ≡ true → ⊥) → not b ≡ true
not_true b fails = not_from_false b (false_from_ne_true b fails)

pub true_not : (b : Bool) → not b ≡ true → b ≡ true → ⊥
true_not b no_it yes_it = true_not_false b yes_it (not-true b no_it)
