-- What stands on standard error after the line of a faulty game where explanations are asked for.
use Rattle.std.specs.Prelude.{◌≡◌, ◌⊎◌, ℕ, ◌+◌, ◌==◌, Bool, true, false, List, [], ◌∷◌, ◌++◌, codes}
use Rattle.std.specs.Prelude.{decimal, IsTrue}
use Rattle.std.specs.List.{list_all}
use Rattle.pgn_text.specs.Public.Bytes.{is_not_line_feed}
use Rattle.pgn_text.specs.Public.Limits.{depth_limit}
use Rattle.pgn_text.specs.Public.Stops.{IsLongestViablePrefix}

-- lines, each after two blanks and ended by a line feed
abbrev pub indented : List (List ℕ) → List ℕ
indented [] = []
indented (line ∷ more) = 32 ∷ 32 ∷ line ++ 10 ∷ indented more

-- none of the lines holds a line feed
abbrev pub AreLines : List (List ℕ) → Type 0
AreLines [] = Unit {0}
AreLines (line ∷ more) = IsTrue (list_all is_not_line_feed line) × AreLines more

-- the note on a faulty game: nothing where no explanations are asked for, and else indented lines,
-- which no line of a faulty game is
abbrev pub IsNote : Bool → List ℕ → Type 0
IsNote false note = note ≡ []
IsNote true note = (lines : List (List ℕ)) × AreLines lines × (note ≡ indented lines)

-- nothing, or a line and a column
abbrev pub IsLinePlace : List ℕ → Type 0
IsLinePlace text =
    (text ≡ [])
    ⊎ ((line column : ℕ)
    × (text ≡ codes "line " ++ decimal line ++ codes ", column " ++ decimal column
    ++ codes ", "))

-- the note names the byte at the offset: with its line and column, or without
abbrev pub NamesByte : ℕ → List ℕ → Type 0
NamesByte offset note =
    (place after : List ℕ) × IsLinePlace place
    × (note ≡ codes "  " ++ place ++ codes "byte " ++ decimal offset ++ codes ": " ++ after)

-- the note on bytes that begin at the offset and are no game names that at which they stop agreeing
-- with games. They are taken by themselves: nothing that stands before them is needed
abbrev pub NamesStop : Bool → ℕ → List ℕ → List ℕ → Type 0
NamesStop false offset bytes note = Unit {0}
NamesStop true offset bytes note =
    (agreeing : ℕ) × IsLongestViablePrefix depth_limit (offset == 0) [] bytes agreeing
    × NamesByte (offset + agreeing) note
