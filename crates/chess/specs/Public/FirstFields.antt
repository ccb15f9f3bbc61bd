-- A position by the first fields of a text alone.
use Rattle.std.specs.Prelude.{◌≡◌, ◌⊎◌, ◌++◌, ℕ, List, [], ◌∷◌, codes}
use Rattle.chess.specs.Public.Positions.{State}
use Rattle.chess.specs.Public.Fen.{fields_of, ReadsFen}

-- the text with these fields gives the position, and so many of its first four: it is read with
-- those that are missing after it, which give no right, no en passant square, and White as the side
-- to move, or Black where White gives no position
abbrev pub GivesBy : List (List ℕ) → List ℕ → ℕ → State → Type 0
GivesBy [] x given P = ⊥
GivesBy (men ∷ []) x given P = (given ≡ 1) × (ReadsFen (x ++ codes " w - -") P
    ⊎ (((Q : State) → ReadsFen (x ++ codes " w - -") Q → ⊥) × ReadsFen (x ++ codes " b - -") P))
GivesBy (men ∷ side ∷ []) x given P = (given ≡ 2) × ReadsFen (x ++ codes " - -") P
GivesBy (men ∷ side ∷ rights ∷ []) x given P = (given ≡ 3) × ReadsFen (x ++ codes " -") P
GivesBy (men ∷ side ∷ rights ∷ en_passant ∷ counts) x given P = (given ≡ 4) × ReadsFen x P

abbrev pub GivesPosition : List ℕ → ℕ → State → Type 0
GivesPosition x given P = GivesBy (fields_of x) x given P
