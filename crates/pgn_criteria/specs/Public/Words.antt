-- The words of a line, which are parted by spaces and tabs.
use Rattle.std.specs.Prelude.{ℕ, Bool, ◌||◌, ◌==◌, if◌then◌else◌, List, [], ◌∷◌}
use Rattle.chess.specs.Public.Fen.{before_first, without_empty}

-- a blank: a space or a tab
abbrev pub is_blank : ℕ → Bool
is_blank b = b == 32 || b == 9

-- the texts that stand between blanks
abbrev pub parted_at_blanks : List ℕ → List (List ℕ)
parted_at_blanks [] = [] ∷ []
parted_at_blanks (b ∷ x) = if is_blank b then [] ∷ parted_at_blanks x
    else before_first b (parted_at_blanks x)

-- the words of a text: its longest runs of bytes that are no blanks
abbrev pub words_of : List ℕ → List (List ℕ)
words_of x = without_empty (parted_at_blanks x)
