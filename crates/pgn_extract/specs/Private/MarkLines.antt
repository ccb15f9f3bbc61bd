-- Marks at the beginnings of lines of a run, as those that `--at` takes.
use Rattle.std.specs.Prelude.{ℕ, ◌≡◌, ◌≢◌, ◌==◌, ◌||◌, ◌&&◌, ◌≤◌, ◌<◌, ◌⊎◌, ◌↔◌, Bool, true, nat_le}
use Rattle.std.specs.Prelude.{nat_lt, not, if◌then◌else◌, List, [], ◌∷◌, ◌++◌, take, position}
use Rattle.std.specs.Prelude.{Option, None, Some, codes}
use Rattle.std.specs.Io.BufRead.{take_through}
use Rattle.chess.specs.Public.Fen.{is_digit}
use Rattle.pgn_extract.specs.Public.Choices.{is_among}
use Rattle.pgn_extract.specs.Public.GivenMarks.{mark_in}
use Rattle.pgn_extract.specs.declared.marks.GameId.{GameId}

-- a byte of a mark: a digit, or the sign between its numbers
abbrev pub is_mark_byte : ℕ → Bool
is_mark_byte byte = is_digit byte || (byte == 64)

-- the bytes of a text up to a place, or all
abbrev pub front_of : List ℕ → Option ℕ → List ℕ
front_of text None = text
front_of text (Some end) = take end text

-- the mark at the front of a text: what all such bytes there write
abbrev pub front_mark : List ℕ → Option GameId
front_mark text = mark_in (front_of text (position (λ byte. not (is_mark_byte byte)) text))

-- what follows a prefix, in a text that begins with it
abbrev pub rest_after : List ℕ → List ℕ → Option (List ℕ)
rest_after [] text = Some text
rest_after (first ∷ more) [] = None
rest_after (first ∷ more) (byte ∷ text) = if first == byte then rest_after more text else None

-- the mark at the front of a text, if there is one
abbrev pub mark_of_rest : Option (List ℕ) → Option GameId
mark_of_rest None = None
mark_of_rest (Some text) = front_mark text

-- the first that is one
abbrev pub first_mark : List (Option GameId) → Option GameId
first_mark [] = None
first_mark (None ∷ more) = first_mark more
first_mark (Some mark ∷ more) = Some mark

-- the mark of a line of a run over the file with this name: at the beginning of the line, or after
-- the words that begin the report of a bad game; and so after the name, where lines have it
abbrev pub line_mark : List ℕ → List ℕ → Option GameId
line_mark name line =
    first_mark
    (front_mark line ∷ mark_of_rest (rest_after (codes "pgn-extract: game ") line)
    ∷ mark_of_rest (rest_after (name ++ codes ":") line)
    ∷ mark_of_rest (rest_after (codes "pgn-extract: " ++ name ++ codes ": game ") line) ∷ [])

-- a line begins after these bytes: there are none, or the last of them is a line feed
abbrev pub IsBeforeLine : List ℕ → Type 0
IsBeforeLine bytes = (bytes ≡ []) ⊎ ((front : List ℕ) × (bytes ≡ front ++ 10 ∷ []))

-- a line of a text, with its end: it goes through the next line feed, or to the end of the text
pub record IsLineOf (text line : List ℕ) : Type 0 where
  pub before : List ℕ
  pub rest : List ℕ
  pub parted : text ≡ before ++ rest
  pub begins : IsBeforeLine before
  pub some : rest ≢ []
  pub is : line ≡ take_through 10 rest

-- some line of the text has the mark, for a run over the file with this name
abbrev pub HasMark : List ℕ → List ℕ → GameId → Type 0
HasMark name text mark = (line : List ℕ) × IsLineOf text line × (line_mark name line ≡ Some mark)

-- the mark stands in the stretch from one offset to before another
abbrev pub IsWithin : ℕ → ℕ → GameId → Type 0
IsWithin begin end mark = (begin ≤ mark.offset) × (mark.offset < end)

-- the marks of a text's lines that stand in a stretch are these, and no others
abbrev pub AreMarksOf : List ℕ → List ℕ → ℕ → ℕ → List GameId → Type 0
AreMarksOf name text begin end marks =
    (id : GameId) → (is_among marks id ≡ true) ↔ (IsWithin begin end id × HasMark name text id)

-- the pairs of numbers that a line adds: that of its mark, if it stands in the stretch
abbrev pub pairs_of : ℕ → ℕ → Option GameId → List (ℕ × ℕ)
pairs_of begin end None = []
pairs_of begin end (Some mark) = if nat_le begin mark.offset && nat_lt mark.offset end then
    (mark.number, mark.offset) ∷ [] else []
