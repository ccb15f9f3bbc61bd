-- One more element at the end of a list.
use Rattle.pgn_game.proofs.Common.{◌≡◌, ℕ, zero, suc, List, [], ◌∷◌, ◌++◌, length, Some, inl, inr}
use Rattle.pgn_game.proofs.Common.{ap, refl, slice_get}
use Rattle.std.specs.Prelude.{◌⊎◌}

-- what stood at a place stands there
pub get_kept : {A : Type 0} (xs : List A) (y : A) (k : ℕ) (x : A) → slice_get xs k ≡ Some x
    → slice_get (xs ++ y ∷ []) k ≡ Some x
get_kept [] y k x here = cc
get_kept (a ∷ xs) y zero x here = here
get_kept (a ∷ xs) y (suc k) x here = get_kept xs y k x here

-- the new one is the last
pub get_last : {A : Type 0} (xs : List A) (y : A) → slice_get (xs ++ y ∷ []) (length xs) ≡ Some y
get_last [] y = refl
get_last (a ∷ xs) y = get_last xs y

only_one : {A : Type 0} (y : A) (k : ℕ) (x : A) → slice_get (y ∷ []) k ≡ Some x
    → (k ≡ 0) × (x ≡ y)
only_one y zero x here = (refl, cc)
only_one y (suc k) x here = cc

-- and each is an old one, or the new one
pub get_more : {A : Type 0} (xs : List A) (y : A) (k : ℕ) (x : A)
    → slice_get (xs ++ y ∷ []) k ≡ Some x
    → (slice_get xs k ≡ Some x) ⊎ ((k ≡ length xs) × (x ≡ y))
get_more [] y k x here = inr (only_one y k x here)
get_more (a ∷ xs) y zero x here = inl here
get_more (a ∷ xs) y (suc k) x here = elim (get_more xs y k x here) [
  | inl old ↦ inl old
  | inr new ↦ inr (ap suc new.0, new.1)
]
