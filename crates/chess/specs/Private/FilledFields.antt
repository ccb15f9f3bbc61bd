-- The first four fields of a text, where those that are missing are given.
use Rattle.std.specs.Prelude.{ℕ, List, [], ◌∷◌, codes}

-- four fields, where this is the side if it is missing, and a dash what else is
abbrev pub filled : List ℕ → List (List ℕ) → List (List ℕ)
filled side [] = []
filled side (men ∷ []) = men ∷ side ∷ codes "-" ∷ codes "-" ∷ []
filled side (men ∷ turn ∷ []) = men ∷ turn ∷ codes "-" ∷ codes "-" ∷ []
filled side (men ∷ turn ∷ rights ∷ []) = men ∷ turn ∷ rights ∷ codes "-" ∷ []
filled side (men ∷ turn ∷ rights ∷ en_passant ∷ counts) = men ∷ turn ∷ rights ∷ en_passant ∷ counts

-- how many of the four there are
abbrev pub given_of : List (List ℕ) → ℕ
given_of [] = 0
given_of (men ∷ []) = 1
given_of (men ∷ turn ∷ []) = 2
given_of (men ∷ turn ∷ rights ∷ []) = 3
given_of (men ∷ turn ∷ rights ∷ en_passant ∷ counts) = 4
