-- The value of a command of a comment, as it is looked for.
use Rattle.std.specs.Prelude.{ℕ, List, [], ◌∷◌, Option, None, Some, if◌then◌else◌}
use Rattle.chess.specs.Shared.Runs.{run_of}
use Rattle.pgn_game.specs.Public.Comments.{has_bracket}
use Rattle.pgn_extract.specs.Private.MarkLines.{rest_after}

-- what stands before the first closing bracket, and nothing where there is none
abbrev pub before_bracket : List ℕ → List ℕ
before_bracket text = if has_bracket text then run_of 93 text else []

-- the value of a command that begins before this text, and of a later one where none does
abbrev pub value_here : Option (List ℕ) → List ℕ → List ℕ
value_here None later = later
value_here (Some rest) later = before_bracket rest

-- the value of the first command that begins so
abbrev pub command_value : List ℕ → List ℕ → List ℕ
command_value opening [] = value_here (rest_after opening []) []
command_value opening (b ∷ text) =
    value_here (rest_after opening (b ∷ text)) (command_value opening text)
