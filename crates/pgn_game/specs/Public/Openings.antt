-- The opening of a game: the line of a file of openings that its main line came to last; and what
-- a game counts as, whose opening is known.
use Rattle.std.specs.Prelude.{◌≡◌, ◌<◌, ℕ, List, [], ◌∷◌, map, Option, Some, None, bytes_eq, codes}
use Rattle.std.specs.Prelude.{if◌then◌else◌}
use Rattle.std.specs.List.{slice_get}
use Rattle.chess.specs.Public.Positions.{State}
use Rattle.chess.specs.Public.Keys.{IsSamePosition}
use Rattle.pgn_text.specs.Public.GameTexts.{GameText, tag_in}
use Rattle.pgn_text.specs.Public.Strings.{IsContents}
use Rattle.pgn_game.specs.Public.Replays.{Replay, IsReplay}
use Rattle.pgn_game.specs.Public.Starts.{fen_tag}
use Rattle.pgn_game.specs.declared.replays.replayer.Lines.TheVariants.{Main}
use Rattle.pgn_game.specs.declared.openings.Opening.{Opening}
use Rattle.pgn_game.specs.declared.openings.OpeningLine.{OpeningLine}

-- a line of a file of openings: its last position, and the contents of its tags ECO, Opening and
-- Variation
pub record NamedLine : Type 0 where
  pub end : State
  pub code : List ℕ
  pub name : List ℕ
  pub variation : List ℕ

-- what contracts see of such a line
abbrev pub named_of : OpeningLine → NamedLine
named_of line = record {
  end = line.end;
  code = line.code.items;
  name = line.name.items;
  variation = line.variation.items;
}

-- the last positions of lines
abbrev pub ends_of : List NamedLine → List State
ends_of lines = map (λ line. line.end) lines

-- of the lines that end in these positions, that one ends in the position
abbrev pub EndsIn : List State → ℕ → State → Type 0
EndsIn ends line P = (Q : State) × (slice_get ends line ≡ Some Q) × IsSamePosition Q P

-- of these positions of a game, that line ends in the one after so many plies
abbrev pub EndsAt : List State → List State → ℕ → ℕ → Type 0
EndsAt ends positions ply line = (P : State) × (slice_get positions ply ≡ Some P)
    × EndsIn ends line P

-- the opening of a game with these positions: the greatest ply at which a line ends, and the first
-- line that ends there
pub record IsOpeningOf (ends positions : List State) (opening : Opening) : Type 0 where
  pub here : EndsAt ends positions opening.ply opening.line
  pub last : (ply line : ℕ) → opening.ply < ply → EndsAt ends positions ply line → ⊥
  pub first : (line : ℕ) → line < opening.line → EndsAt ends positions opening.ply line → ⊥

-- that opening; or none, where no line ends in a position of the game
abbrev pub IsOpeningIn : List State → List State → Option Opening → Type 0
IsOpeningIn ends positions None = (ply line : ℕ) → EndsAt ends positions ply line → ⊥
IsOpeningIn ends positions (Some opening) = IsOpeningOf ends positions opening

-- the first line that ends in the position, or none
abbrev pub IsFirstIn : List State → State → Option ℕ → Type 0
IsFirstIn ends P None = (line : ℕ) → EndsIn ends line P → ⊥
IsFirstIn ends P (Some line) = EndsIn ends line P
    × ((other : ℕ) → other < line → EndsIn ends other P → ⊥)

-- the opening of a game with these positions is at that line, or there is none
abbrev pub HasLine : List State → List State → Option ℕ → Type 0
HasLine ends positions None = IsOpeningIn ends positions None
HasLine ends positions (Some line) =
    (ply : ℕ) × IsOpeningOf ends positions (record { ply = ply; line = line })

-- the main line of the game is sound, and that is its opening, or it has none
abbrev pub HasOpening : List NamedLine → GameText → Option Opening → Type 0
HasOpening lines game opening = (replay : Replay)
    × IsReplay Main (tag_in fen_tag game.tags) game.elements replay
    × IsOpeningIn (ends_of lines) replay.positions opening

-- the main line of the game is sound, and its opening is at that line, or it has none
abbrev pub HasLineOf : List NamedLine → GameText → Option ℕ → Type 0
HasLineOf lines game place = (replay : Replay)
    × IsReplay Main (tag_in fen_tag game.tags) game.elements replay
    × HasLine (ends_of lines) replay.positions place

-- what a line is named stands in strings
pub record HasContents (line : NamedLine) : Type 0 where
  pub code : IsContents line.code
  pub name : IsContents line.name
  pub variation : IsContents line.variation

-- that is the line of the opening of the game, and names it by contents of strings
abbrev pub IsNamedBy : List NamedLine → GameText → NamedLine → Type 0
IsNamedBy lines game line = (opening : Opening) × HasOpening lines game (Some opening)
    × (slice_get lines opening.line ≡ Some line) × HasContents line

-- that line; or none, where the main line is faulty or comes to the end of none, or to that of one
-- which is not named by contents of strings, as each line of a file is
abbrev pub IsOpeningLine : List NamedLine → GameText → Option NamedLine → Type 0
IsOpeningLine lines game None = (line : NamedLine) → IsNamedBy lines game line → ⊥
IsOpeningLine lines game (Some line) = IsNamedBy lines game line

-- the contents of the string of a tag; none for those that are empty
abbrev pub unless_empty : List ℕ → Option (List ℕ)
unless_empty [] = None
unless_empty (byte ∷ more) = Some (byte ∷ more)

-- what stands under the wanted name where a line names the game, whose own tag is this: ECO,
-- Opening and Variation are those of the line
abbrev pub tag_by : Option NamedLine → List ℕ → Option (List ℕ) → Option (List ℕ)
tag_by None wanted own = own
tag_by (Some line) wanted own =
    if bytes_eq (codes "ECO") wanted then unless_empty line.code
    else (if bytes_eq (codes "Opening") wanted then unless_empty line.name
    else (if bytes_eq (codes "Variation") wanted then unless_empty line.variation else own))

-- the other game has the tags of the line in place of its own, and all else as the game has it
pub record IsTaggedBy (line : Option NamedLine) (game other : GameText) : Type 0 where
  pub place : other.at ≡ game.at
  pub text : other.text ≡ game.text
  pub tags : (wanted : List ℕ)
      → tag_in wanted other.tags ≡ tag_by line wanted (tag_in wanted game.tags)
  pub elements : other.elements ≡ game.elements
  pub result : other.result ≡ game.result

-- the game counts as the other one, which has the tags of its opening; without an opening it counts
-- as it stands
abbrev pub IsClassified : List NamedLine → GameText → GameText → Type 0
IsClassified lines game other = (line : Option NamedLine) × IsOpeningLine lines game line
    × IsTaggedBy line game other
