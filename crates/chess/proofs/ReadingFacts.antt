-- The bytes of a move text, from its end, where it is known what the text says.
use Rattle.std.specs.Prelude.{if◌then◌else◌}
use Rattle.chess.proofs.Common.{◌≡◌, ℕ, true, false, ap, refl, Option, Some, None, IfSome, List, []}
use Rattle.chess.proofs.Common.{◌∷◌, ◌++◌, is_of, last_of, before_last, ByteClass}

-- the text from its end does not begin with a byte of the class
abbrev pub BeginsOtherwise : ByteClass → List ℕ → Type 0
BeginsOtherwise class [] = Unit {0}
BeginsOtherwise class (b ∷ y) = is_of class b ≡ false

-- one byte of the class, if it is given
abbrev pub given : Option ℕ → List ℕ
given None = []
given (Some b) = b ∷ []

-- a byte that is given is taken, and no other
pub taken_given : (class : ByteClass) (o : Option ℕ) (z : List ℕ)
    → IfSome o (λ b. is_of class b ≡ true) → BeginsOtherwise class z
    → (last_of class (given o ++ z) ≡ o) × (before_last class (given o ++ z) ≡ z)
taken_given class (Some b) z is other =
    (ap (λ t. if t then Some b else None) is, ap (λ t. if t then z else b ∷ z) is)
taken_given class None [] is other = (refl, refl)
taken_given class None (b ∷ z) is other =
    (ap (λ t. if t then Some b else None) other, ap (λ t. if t then z else b ∷ z) other)

-- what was taken and what was left are the text
pub taken_whole : (class : ByteClass) (y : List ℕ)
    → (y ≡ given (last_of class y) ++ before_last class y)
    × IfSome (last_of class y) (λ b. is_of class b ≡ true)
taken_whole class [] = (refl, tt)
taken_whole class (b ∷ y) =
    elim (is_of class b) as (λ t. is_of class b ≡ t
    → (b ∷ y ≡ given (if t then Some b else None) ++ (if t then y else b ∷ y))
    × IfSome (if t then Some b else None) (λ n. is_of class n ≡ true)) [
      | true ↦ λ e. (refl, e)
      | false ↦ λ e. (refl, tt)
    ] refl

-- a list that begins with one byte that is given, or with none
pub begins_given : (class : ByteClass) (o : Option ℕ) (z : List ℕ)
    → IfSome o (λ b. is_of class b ≡ false) → BeginsOtherwise class z
    → BeginsOtherwise class (given o ++ z)
begins_given class (Some b) z is other = is
begins_given class None z is other = other
