-- Tokens written one after another, in lines: what a writer that stands in some column adds.
-- Nothing but the proof of the writer cites these.
use Rattle.std.specs.Prelude.{◌≡◌, ℕ, ◌+◌, Bool, true, false, List, [], ◌∷◌, ◌++◌, length, nat_le}
use Rattle.pgn_game.specs.Public.TextLines.{IsLaid}
use Rattle.pgn_game.specs.declared.exports.line_wrapper.LineWrapper.{LineWrapper}

-- a token after another one: after a space where it is within the width, else in the next line
abbrev pub parted : Bool → List ℕ → List ℕ
parted true token = 32 ∷ token
parted false token = 10 ∷ token

-- the column after it
abbrev pub column_after : Bool → ℕ → ℕ → ℕ
column_after true column n = column + 1 + n
column_after false column n = n

-- all tokens, and the last line's end
abbrev pub added : ℕ → ℕ → List (List ℕ) → List ℕ
added width column [] = 10 ∷ []
added width column (token ∷ tokens) =
    parted (nat_le (column + 1 + length token) width) token
    ++ added width (column_after (nat_le (column + 1 + length token) width) column (length token))
    tokens

-- all tokens, where none may have been written: no tokens have no line
abbrev pub after_tokens : ℕ → Bool → ℕ → List (List ℕ) → List ℕ
after_tokens width true column tokens = added width column tokens
after_tokens width false column [] = []
after_tokens width false column (token ∷ tokens) = token ++ added width (length token) tokens

-- a wrapper that wrote these tokens after what stood there, whatever follows them
abbrev pub HasPut : LineWrapper → LineWrapper → List ℕ → List ℕ → List (List ℕ) → Type 0
HasPut old new before after tokens =
    (more : List (List ℕ)) → after ++ after_tokens new.width new.begun new.column more
    ≡ before ++ after_tokens old.width old.begun old.column (tokens ++ more)

-- what is added is a text in lines
abbrev pub AddedIsLaid : Type 0
AddedIsLaid = (width : ℕ) (first : List ℕ) (rest : List (List ℕ))
    → IsLaid width (first ∷ rest) (first ++ added width (length first) rest)
