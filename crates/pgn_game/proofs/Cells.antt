-- Lists by their first elements.
use Rattle.std.proofs.Common.{◌≡◌, List, [], ◌∷◌}

pub no_cell : {A : Type 0} (x : A) (xs : List A) → [] ≡ x ∷ xs → ⊥
no_cell x xs e = absurd cc

pub same_first : {A : Type 0} (x y : A) (xs ys : List A) → x ∷ xs ≡ y ∷ ys → x ≡ y
same_first x y xs ys e = cc

pub same_rest : {A : Type 0} (x y : A) (xs ys : List A) → x ∷ xs ≡ y ∷ ys → xs ≡ ys
same_rest x y xs ys e = cc
