-- The position from which a game starts (PGN 9.7.2).
use Rattle.std.specs.Prelude.{◌≡◌, ℕ, List, Option, Some, None, codes}
use Rattle.chess.specs.Public.Positions.{State}
use Rattle.chess.specs.Public.Start.{initial}
use Rattle.chess.specs.Public.Fen.{ReadsFen, IsRefused}
use Rattle.chess.specs.declared.fen.FenError.{FenError}
use Rattle.pgn_text.specs.Public.Strings.{Sign, HasValue}

-- the tag that gives the position from which a game starts, whatever its SetUp tag says
abbrev pub fen_tag : List ℕ
fen_tag = codes "FEN"

-- the contents of a string have this value: each escaping backslash is dropped
abbrev pub IsValueOf : List ℕ → List ℕ → Type 0
IsValueOf contents value = (signs : List Sign) × HasValue contents value signs

-- a game with these contents of its FEN tag, or with no such tag, starts from the position
abbrev pub IsStart : Option (List ℕ) → State → Type 0
IsStart None start = start ≡ initial
IsStart (Some contents) start = (value : List ℕ) × IsValueOf contents value × ReadsFen value start

-- the value of its FEN tag is refused, so it starts from no position
abbrev pub IsBadStart : Option (List ℕ) → Type 0
IsBadStart None = ⊥
IsBadStart (Some contents) = (value : List ℕ) × (error : FenError) × IsValueOf contents value
    × IsRefused value error
