-- The listing of a text: the plies of its sound games whose position is looked for, each by the
-- mark of its game.
use Rattle.std.specs.Prelude.{◌≡◌, nat_le, List, length, Option, None, MatchOption, false, codes}
use Rattle.std.specs.Prelude.{decimal, ◌↔◌, ◌⊎◌, ℕ, ◌+◌, ◌<◌, [], ◌∷◌, ◌++◌, Some, Bool, true}
use Rattle.std.specs.Prelude.{not, ◌&&◌, option_map, unwrap_or}
use Rattle.std.specs.List.{Contains, filter, list_any, slice_get}
use Rattle.chess.specs.Public.Fen.{IsFen}
use Rattle.chess.specs.Public.Positions.{State}
use Rattle.chess.specs.Public.San.{IsSan}
use Rattle.chess.specs.declared.moves.Move.{Move}
use Rattle.pgn_text.specs.Public.GameTexts.{GameText, IsGameText, ShowsGame, tag_in}
use Rattle.pgn_text.specs.Public.Marks.{ReadableGame, MarkedPiece}
use Rattle.pgn_text.specs.Public.Parts.{Part}
use Rattle.pgn_game.specs.Public.Openings.{NamedLine, IsClassified}
use Rattle.pgn_game.specs.Public.Replays.{Replay, IsMainReplay}
use Rattle.pgn_game.specs.Public.Starts.{fen_tag}
use Rattle.pgn_criteria.specs.Public.Meeting.{heading_of}
use Rattle.pgn_extract.specs.Public.Aims.{Aim, GameId, LineId, IsEntry}
use Rattle.pgn_extract.specs.Public.Choices.{is_chosen}
use Rattle.pgn_extract.specs.Public.Columns.{shows_annotations, shows_opening}
use Rattle.pgn_extract.specs.Public.Index.{mark, titled}
use Rattle.pgn_extract.specs.Public.Rows.{RowPlace, place_of, IsRow}
use Rattle.pgn_extract.specs.declared.settings.EntryLine.{EntryLine}
use Rattle.pgn_extract.specs.declared.settings.EntryLine.TheVariants.{Marked, InColumns}
use Rattle.pgn_extract.specs.declared.settings.Fields.{Fields}

-- what the line of an entry shows: something after its mark and its ply, or a row in their place
pub data Shown : Type 0 where
  AfterPly : List ℕ → Shown
  AsRow : List ℕ → Shown

-- an entry: a game, a ply of its main line, and what its line shows
pub record Entry : Type 0 where
  pub id : GameId
  pub ply : ℕ
  pub shown : Shown

-- the line of an entry after a mark
abbrev pub shown_line : List ℕ → ℕ → Shown → List ℕ
shown_line marked ply (AfterPly text) = marked ++ 32 ∷ decimal ply ++ (text ++ 10 ∷ [])
shown_line marked ply (AsRow text) = text

-- its line: `N@O P` and what it shows, after the name of its file where lines have one; or its row
abbrev pub entry_line : Option (List ℕ) → Entry → List ℕ
entry_line name entry =
    shown_line (titled (codes ":") name ++ mark entry.id) entry.ply entry.shown

-- the lines of entries
abbrev pub listing : Option (List ℕ) → List Entry → List ℕ
listing name [] = []
listing name (entry ∷ more) = entry_line name entry ++ listing name more

-- what is shown of the position after so many plies of a main line, where its text is asked for: a
-- blank, and its text in FEN
abbrev pub IsFenField : Bool → Replay → ℕ → List ℕ → Type 0
IsFenField false replay ply shown = shown ≡ []
IsFenField true replay ply shown =
    (position : State) × (text : List ℕ) × (slice_get replay.positions ply ≡ Some position)
    × IsFen position text × (shown ≡ 32 ∷ text)

-- the text of the move that is played after so many plies of a main line: its standard text, and
-- `-` where none is played
abbrev pub IsNextMove : List State → List Move → ℕ → List ℕ → Type 0
IsNextMove positions played ply text =
    MatchOption (slice_get played ply) (text ≡ codes "-") (λ m. (position : State)
    × (slice_get positions ply ≡ Some position) × IsSan position m text)

-- what is shown of that move where it is asked for: a blank, and its text
abbrev pub IsNextField : Bool → Replay → ℕ → List ℕ → Type 0
IsNextField false replay ply shown = shown ≡ []
IsNextField true replay ply shown = (text : List ℕ)
    × IsNextMove replay.positions replay.played ply text × (shown ≡ 32 ∷ text)

-- neither is asked for, so that the line ends after the ply
abbrev pub is_plain : Fields → Bool
is_plain fields = not fields.fen && not fields.next

-- what a line shows after a ply of a main line: the position there, and then the move
abbrev pub AreFields : Fields → Replay → ℕ → List ℕ → Type 0
AreFields fields replay ply shown =
    (fen : List ℕ) × (next : List ℕ) × IsFenField fields.fen replay ply fen
    × IsNextField fields.next replay ply next × (shown ≡ fen ++ next)

-- the line of an entry shows annotations
abbrev pub has_annotations : EntryLine → Bool
has_annotations (Marked fields) = false
has_annotations (InColumns row) = list_any shows_annotations row.columns.items

-- and something of openings
abbrev pub has_opening : EntryLine → Bool
has_opening (Marked fields) = false
has_opening (InColumns row) = list_any shows_opening row.columns.items

-- what is shown of the line that an entry is of, where each line of a game is listed: a blank, and
-- its number
abbrev pub line_field : Option LineId → List ℕ
line_field line = unwrap_or (option_map (λ own. 32 ∷ decimal own.number) line) []

-- what the line of an entry shows of its place
abbrev pub IsShownBy : EntryLine → RowPlace → Shown → Type 0
IsShownBy (Marked fields) place shown =
    (text : List ℕ) × AreFields fields place.replay place.ply text
    × (shown ≡ AfterPly (line_field place.line ++ text))
IsShownBy (InColumns row) place shown =
    (text : List ℕ) × IsRow row place text × (shown ≡ AsRow text)

-- what is shown of a ply of the main line of a game
abbrev pub IsShownOf : Aim → GameId → GameText → Replay → ℕ → Shown → Type 0
IsShownOf aim id game replay ply shown =
    IsShownBy aim.line (place_of aim.name aim.openings id aim.of_line game replay ply) shown

-- the game is the one that these parts make, read by itself
abbrev pub IsGameOf : List Part → GameText → Type 0
IsGameOf parts game = IsGameText game × ShowsGame game 0 parts

-- the game counts as the other one: where lines of openings are given, with the tags of its
-- opening
abbrev pub CountsAs : Option (List NamedLine) → GameText → GameText → Type 0
CountsAs None game other = other ≡ game
CountsAs (Some lines) game other = IsGameText other × IsClassified lines game other

-- the game as which these parts count: the one that they make; where lines of openings are given,
-- with the tags of its opening
abbrev pub IsCounted : Option (List NamedLine) → List Part → GameText → Type 0
IsCounted None parts game = IsGameOf parts game
IsCounted (Some lines) parts game =
    (own : GameText) × IsGameOf parts own × CountsAs (Some lines) own game

-- the main line of the game is sound, and this is its replay
abbrev pub IsMainReplayOf : GameText → Replay → Type 0
IsMainReplayOf game replay = IsMainReplay (tag_in fen_tag game.tags) game.elements replay

-- the entry names a sound game that is chosen, by its place among the pieces and the offset of its
-- first byte, and a ply of its main line that is listed, and shows what is asked for of the ply
pub record IsPlyOfGame (aim : Aim) (number : ℕ) (pieces : List MarkedPiece) (entry : Entry) : Type 0
  where
    pub place : ℕ
    pub parts : List Part
    pub game : GameText
    pub replay : Replay
    pub piece : slice_get pieces place
        ≡ Some (record { offset = entry.id.offset; kind = ReadableGame parts })
    pub numbered : entry.id.number ≡ number + place
    pub chosen : is_chosen aim.chosen entry.id ≡ true
    pub is_game : IsCounted aim.openings parts game
    pub is_replay : IsMainReplayOf game replay
    pub within : entry.ply < length replay.positions
    pub listed : IsEntry aim (heading_of game) replay entry.ply
    pub shows : IsShownOf aim entry.id game replay entry.ply entry.shown

-- the first entry is of an earlier game, or of the same and at a lower ply
abbrev pub IsEarlier : Entry → Entry → Type 0
IsEarlier first second = (first.id.number < second.id.number)
    ⊎ ((first.id.number ≡ second.id.number) × (first.ply < second.ply))

-- each entry is earlier than all after it, so none is there twice
abbrev pub Ascend : List Entry → Type 0
Ascend [] = Unit {0}
Ascend (entry ∷ more) = ((later : Entry) → Contains more later → IsEarlier entry later)
    × Ascend more

-- the entries of pieces that are numbered from a number on: exactly the plies of the chosen sound
-- games among them that are listed, each once, in the order of the games and their plies
pub record AreEntries (aim : Aim) (number : ℕ) (pieces : List MarkedPiece)
    (entries : List Entry) : Type 0 where
  pub exact : (entry : Entry) → (Contains entries entry ↔ IsPlyOfGame aim number pieces entry)
  pub ascend : Ascend entries

-- of entries, those of the games whose number is at least `least`
abbrev pub entries_at_least : ℕ → List Entry → List Entry
entries_at_least least entries = filter (λ entry. nat_le least entry.id.number) entries
