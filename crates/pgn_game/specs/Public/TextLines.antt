-- Tokens in lines: the only parting of them such that each line is within the width or is one
-- token, and no line could take the first token of the next one within the width.
use Rattle.std.specs.Prelude.{◌≡◌, ℕ, ◌<◌, ◌≤◌, List, [], ◌∷◌, ◌++◌, length, flat_map}

-- tokens with one space between them
abbrev pub joined : List (List ℕ) → List ℕ
joined [] = []
joined (token ∷ []) = token
joined (token ∷ next ∷ more) = token ++ 32 ∷ joined (next ∷ more)

-- the tokens of lines, in their order
abbrev pub tokens_of : List (List (List ℕ)) → List (List ℕ)
tokens_of lines = flat_map (λ line. line) lines

-- the lines one below another: each ends in a line feed
abbrev pub text_of : List (List (List ℕ)) → List ℕ
text_of lines = flat_map (λ line. joined line ++ 10 ∷ []) lines

-- a line is one token, or is within the width
abbrev pub IsLine : ℕ → List (List ℕ) → Type 0
IsLine width [] = ⊥
IsLine width (token ∷ []) = Unit {0}
IsLine width (token ∷ next ∷ more) = length (joined (token ∷ next ∷ more)) ≤ width

-- the line could not take the first token of the next one
abbrev pub IsFull : ℕ → List (List ℕ) → List (List (List ℕ)) → Type 0
IsFull width line [] = Unit {0}
IsFull width line ([] ∷ lines) = ⊥
IsFull width line ((token ∷ tokens) ∷ lines) = width < length (joined (line ++ token ∷ []))

-- so they stand in lines of this width
abbrev pub AreLines : ℕ → List (List (List ℕ)) → Type 0
AreLines width [] = Unit {0}
AreLines width (line ∷ lines) = IsLine width line × IsFull width line lines × AreLines width lines

-- the text has exactly these tokens, in lines of this width
pub record IsLaid (width : ℕ) (tokens : List (List ℕ)) (text : List ℕ) : Type 0 where
  pub lines : List (List (List ℕ))
  pub all : tokens_of lines ≡ tokens
  pub are_lines : AreLines width lines
  pub spells : text ≡ text_of lines

-- tokens have a text in lines of each width
abbrev pub TokensHaveAText : Type 0
TokensHaveAText = (width : ℕ) (tokens : List (List ℕ)) → (text : List ℕ) × IsLaid width tokens text

-- and one at most
abbrev pub TokensHaveOneText : Type 0
TokensHaveOneText = (width : ℕ) (tokens : List (List ℕ)) (text other : List ℕ)
    → IsLaid width tokens text → IsLaid width tokens other → text ≡ other
