-- The main line of a game, whose positions are asked one after the other: what is known where it
-- stands, and what a finder hands on.
use Rattle.std.specs.Prelude.{◌≡◌, ◌↔◌, ◌<◌, ◌≤◌, ◌+◌, ◌++◌, ◌∷◌, ℕ, Bool, true, false, List, []}
use Rattle.std.specs.Prelude.{length, Option, None, Some, IsTrue}
use Rattle.chess.specs.Public.Positions.{State}
use Rattle.pgn_text.specs.Public.GameTexts.{GameText, tag_in}
use Rattle.pgn_game.specs.Public.Faults.{Fault, IsFault}
use Rattle.pgn_game.specs.Public.Openings.{NamedLine}
use Rattle.pgn_game.specs.Public.Replays.{Replay, IsReplay, IsSoundGame}
use Rattle.pgn_game.specs.Public.Starts.{fen_tag}
use Rattle.pgn_game.specs.declared.replays.replayer.Lines.TheVariants.{Main}
use Rattle.pgn_criteria.specs.Public.Meeting.{heading_of}
use Rattle.pgn_extract.specs.Public.Aims.{Aim, GameId, LineId, IsMet, IsWanted, IsEntry, aim_of}
use Rattle.pgn_extract.specs.Public.GameReports.{plies_of, AreChosen, AreListed}
use Rattle.pgn_extract.specs.Public.Listing.{Entry, Shown, AreFields, IsShownOf}
use Rattle.pgn_extract.specs.Public.Listing.{shown_line, is_plain, IsFenField, IsNextField}
use Rattle.pgn_extract.specs.declared.entries.line_maker.LineMaker.{LineMaker}
use Rattle.pgn_extract.specs.declared.entries.line_maker.LineMaker.TheVariants as maker
use Rattle.pgn_extract.specs.declared.entries.row_maker.PartColumn.{PartColumn}
use Rattle.pgn_extract.specs.declared.entries.row_maker.RowMaker.{RowMaker}
use Rattle.pgn_extract.specs.declared.entries.row_maker.RowPart.{RowPart}
use Rattle.pgn_extract.specs.declared.rows.column.PlyColumn.{PlyColumn}
use Rattle.pgn_extract.specs.declared.rows.column.PlyColumn.TheVariants.{OfPosition, Next}
use Rattle.pgn_extract.specs.declared.rows.column.PositionColumn.TheVariants.{Fen}
use Rattle.pgn_extract.specs.declared.settings.EntryLine.{EntryLine}
use Rattle.pgn_extract.specs.declared.settings.EntryLine.TheVariants.{Marked, InColumns}
use Rattle.pgn_extract.specs.declared.settings.Fields.{Fields}
use Rattle.pgn_extract.specs.declared.settings.Settings.{Settings}
use Rattle.pgn_extract.specs.declared.entries.Search.{Search}
use Rattle.pgn_extract.specs.declared.entries.finding.Finder.{Finder}
use Rattle.pgn_extract.specs.Private.Finding.{IsOfGame, named_mark}
use Rattle.pgn_extract.specs.Private.AnnotationLists.{lists_in}
use Rattle.pgn_extract.specs.Private.RowTexts.{IsPartText, ArePartTexts, MakesRows, columns_of}
use Rattle.pgn_extract.specs.Private.RowTexts.{EachColumn, need_line}
use Rattle.pgn_extract.specs.Public.Rows.{IsPlyCell}

-- so it is of each replay of the game that has these positions, then this one, and then others
abbrev pub EachReplay : GameText → List State → State → (Replay → Type 0) → Type 0
EachReplay game before P So =
    (replay : Replay) → IsOfGame game replay → (rest : List State)
    → replay.positions ≡ before ++ P ∷ rest → So replay

-- each replay of the game has these positions, then this one, and then others
abbrev pub Stands : GameText → List State → State → Type 0
Stands game before P =
    (replay : Replay) → IsOfGame game replay
    → (rest : List State) × (replay.positions ≡ before ++ P ∷ rest)

-- so it is of each game whose line stands there, if the line asks what the aim asks: these
-- positions are passed, and this one is reached
abbrev pub Where : (Aim → GameText → List State → State → Type 0)
    → (Aim → GameText → List State → State → Type 0) → Type 0
Where At So =
    (aim : Aim) (game : GameText) (before : List State) (P : State)
    → At aim game before P → So aim game before P

-- this tells whether the position that is reached meets the criteria
abbrev pub MeetsHere : Bool → Aim → GameText → List State → State → Type 0
MeetsHere met aim game before P =
    EachReplay game before P
    (λ replay. IsTrue met ↔ IsMet aim.criteria (heading_of game) replay (length before))

-- this is what is shown there of the fields
abbrev pub ShowsFields : Fields → List ℕ → Aim → GameText → List State → State → Type 0
ShowsFields fields shown aim game before P =
    aim.line ≡ Marked fields
    → EachReplay game before P (λ replay. AreFields fields replay (length before) shown)

-- the line of an entry is the mark and the ply alone
abbrev pub is_bare : EntryLine → Bool
is_bare (Marked fields) = is_plain fields
is_bare (InColumns row) = false

-- more is shown than the mark and the ply
abbrev pub ShowsMore : Aim → Type 0
ShowsMore aim = is_bare aim.line ≡ false

-- this is the value that the column shows there
abbrev pub ShowsValue : PlyColumn → List ℕ → Aim → GameText → List State → State → Type 0
ShowsValue column value aim game before P =
    ShowsMore aim
    → EachReplay game before P (λ replay. IsPlyCell column replay (length before) value)

-- this is what a maker of rows writes there for a column, and these are the texts of several parts
abbrev pub ShowsPart : RowMaker → PartColumn → List ℕ → Aim → GameText → List State → State → Type 0
ShowsPart rows column text aim game before P =
    ShowsMore aim
    → EachReplay game before P (λ replay.
    IsPartText rows.row.now.format (lists_in rows.annotations) column replay (length before) text)

abbrev pub ShowsParts : RowMaker → List RowPart → List (List ℕ) → Aim → GameText → List State
    → State → Type 0
ShowsParts rows parts texts aim game before P =
    ShowsMore aim
    → EachReplay game before P (λ replay.
    ArePartTexts rows.row.now.format (lists_in rows.annotations) (columns_of parts) replay
    (length before) texts)

-- this is shown there of the text of the position, where it is asked for, and of the next move
abbrev pub ShowsFen : Bool → List ℕ → Aim → GameText → List State → State → Type 0
ShowsFen asked shown aim game before P =
    (asked ≡ true → ShowsMore aim)
    → EachReplay game before P (λ replay. IsFenField asked replay (length before) shown)

abbrev pub ShowsNext : Bool → List ℕ → Aim → GameText → List State → State → Type 0
ShowsNext asked shown aim game before P =
    (asked ≡ true → ShowsMore aim)
    → EachReplay game before P (λ replay. IsNextField asked replay (length before) shown)

-- the lines that a maker makes
abbrev pub made_line : LineMaker → EntryLine
made_line (maker.Fields fields own) = Marked fields
made_line (maker.Rows rows) = InColumns rows.row.now

-- and the line of a game that they are of, where each line is listed
abbrev pub line_made : LineMaker → Option LineId
line_made (maker.Fields fields own) = own
line_made (maker.Rows rows) = rows.line

-- it makes those of this game under this name and by these lines of openings
abbrev pub MakesLines : LineMaker → Option (List ℕ) → Option (List NamedLine) → GameId → GameText
    → Type 0
MakesLines (maker.Fields fields own) name openings id game = Unit {0}
MakesLines (maker.Rows rows) name openings id game = MakesRows rows name openings id game

-- a line that shows these columns is enough for it
abbrev pub IsEnoughFor : (PlyColumn → Type 0) → LineMaker → Type 0
IsEnoughFor Shows (maker.Fields fields own) =
    (fields.fen ≡ true → Shows (OfPosition Fen)) × (fields.next ≡ true → Shows Next)
IsEnoughFor Shows (maker.Rows rows) = EachColumn Shows rows.parts.items

-- the whole main line is kept for it
abbrev pub keeps_line : LineMaker → Bool
keeps_line (maker.Fields fields own) = false
keeps_line (maker.Rows rows) = need_line rows.parts.items

-- it makes what the aim asks for
pub record Makes (lines : LineMaker) (aim : Aim) (id : GameId) (game : GameText) : Type 0 where
  pub line : aim.line ≡ made_line lines
  pub of_line : aim.of_line ≡ line_made lines
  pub of_game : MakesLines lines aim.name aim.openings id game

-- this is shown there
abbrev pub ShowsLine : Shown → GameId → Aim → GameText → List State → State → Type 0
ShowsLine shown id aim game before P =
    EachReplay game before P (λ replay. IsShownOf aim id game replay (length before) shown)

-- the main line of the game has this fault
abbrev pub HasFault : Fault → Aim → GameText → List State → State → Type 0
HasFault fault aim game before P = IsFault Main (tag_in fen_tag game.tags) game.elements fault

-- none of so many positions after the one that is reached is wanted
abbrev pub NoneOf : ℕ → Aim → GameText → List State → State → Type 0
NoneOf count aim game before P =
    EachReplay game before P (λ replay.
    (n : ℕ) → length before < n → n ≤ length before + count → n < length replay.positions
    → IsWanted aim (heading_of game) replay n → ⊥)

-- none of all that follow is
abbrev pub NoneAfter : Aim → GameText → List State → State → Type 0
NoneAfter aim game before P =
    EachReplay game before P (λ replay.
    (n : ℕ) → length before < n → n < length replay.positions
    → IsWanted aim (heading_of game) replay n → ⊥)

-- none of the positions that are passed is wanted
abbrev pub NoneBefore : Aim → GameText → List State → Type 0
NoneBefore aim game before =
    (replay : Replay) → IsOfGame game replay → (n : ℕ) → n < length before
    → IsWanted aim (heading_of game) replay n → ⊥

-- the line goes on, past positions that are not wanted; or it is sound and at its end, or none is
-- wanted that follows, or no more is asked for
abbrev pub GoesTo : (Aim → GameText → List State → State → Type 0) → Bool → Bool
    → Aim → GameText → List State → State → Type 0
GoesTo At on true aim game before P =
    (passed : List State) × (next : State) × At aim game (before ++ P ∷ passed) next
    × NoneOf (length passed) aim game before P
GoesTo At on false aim game before P =
    IsSoundGame Main (tag_in fen_tag game.tags) game.elements
    × (on ≡ true → NoneAfter aim game before P)

-- nothing is met where it stands and after
abbrev pub IsNeverMet : Aim → GameText → List State → State → Type 0
IsNeverMet aim game before P =
    EachReplay game before P (λ replay.
    (n : ℕ) → length before ≤ n → n < length replay.positions
    → IsMet aim.criteria (heading_of game) replay n → ⊥)

-- the entries at these positions are found and handed on; once it isn't on, no later ply is an
-- entry
pub record Finds (aim : Aim) (id : GameId) (game : GameText) (Got : List Entry → Type 0)
    (asked : List State) (on : Bool) : Type 0 where
  pub found : List Entry
  pub got : Got found
  pub completes : (replay : Replay) → IsOfGame game replay → (rest : List State)
      → replay.positions ≡ asked ++ rest → (later : List Entry)
      → AreChosen id (IsEntry aim (heading_of game) replay) (IsShownOf aim id game replay)
      (plies_of (length asked) rest) later
      → AreListed aim id game replay (found ++ later)
  pub quiet : on ≡ true → aim.first ≡ true → (replay : Replay) → IsOfGame game replay
      → (rest : List State) → replay.positions ≡ asked ++ rest
      → (n : ℕ) → n < length asked → IsWanted aim (heading_of game) replay n → ⊥
  pub shut : on ≡ false → (replay : Replay) → IsOfGame game replay → (rest : List State)
      → replay.positions ≡ asked ++ rest
      → (n : ℕ) → length asked ≤ n → n < length replay.positions
      → IsEntry aim (heading_of game) replay n → ⊥

-- what a finder looks for, under whatever name and by whatever lines of openings
abbrev pub aim_with : Finder → Option (List ℕ) → Option (List NamedLine) → Aim
aim_with finder name openings =
    record (aim_of finder.settings.now) {
      min_ply = finder.least;
      first = finder.first;
      line = made_line finder.lines;
      of_line = line_made finder.lines;
      name = name;
      openings = openings;
    }

-- at the position that is reached no entry is left out
abbrev pub Asks : {S : Type 0} → (S → List Entry → S → Type 0) → Finder
    → (Aim → GameText → List State → State → Type 0) → S → S → Bool → Bool → Type 0
Asks {S} Gets finder At old new on still =
    (name : Option (List ℕ)) (openings : Option (List NamedLine)) (id : GameId) (game : GameText)
    (before : List State) (P : State)
    → At (aim_with finder name openings) game before P
    → MakesLines finder.lines name openings id game
    → (start : S)
    → Finds (aim_with finder name openings) id game (λ got. Gets start got old) before on
    → Finds (aim_with finder name openings) id game (λ got. Gets start got new)
    (before ++ P ∷ []) still

-- each game at whose start the line stands has this fault
abbrev pub Fails : (Aim → GameText → List State → State → Type 0) → Finder → Fault → Type 0
Fails At finder fault =
    (name : Option (List ℕ)) (openings : Option (List NamedLine)) (game : GameText) (P : State)
    → At (aim_with finder name openings) game [] P
    → HasFault fault (aim_with finder name openings) game [] P

-- the main line of the game is sound, and its entries are handed on
abbrev pub HandsOn : Aim → GameId → GameText → (List Entry → Type 0) → Type 0
HandsOn aim id game Got =
    (replay : Replay) × IsReplay Main (tag_in fen_tag game.tags) game.elements replay
    × (entries : List Entry) × AreListed aim id game replay entries × Got entries

-- the line of an entry after the mark of its game, and the lines of several
abbrev pub marked_line : List ℕ → Entry → List ℕ
marked_line mark entry = shown_line mark entry.ply entry.shown

abbrev pub marked_lines : List ℕ → List Entry → List ℕ
marked_lines mark [] = []
marked_lines mark (entry ∷ more) = marked_line mark entry ++ marked_lines mark more

-- one was handed on, or one before
abbrev pub or_some : Bool → List Entry → Bool
or_some found [] = found
or_some found (entry ∷ more) = true

-- the ply of one before, or of the first that was handed on
abbrev pub first_ply : Option ℕ → List Entry → Option ℕ
first_ply (Some ply) entries = Some ply
first_ply None [] = None
first_ply None (entry ∷ more) = Some entry.ply

-- of a line of a game the plies from a least one on are looked for
abbrev pub aim_at : Aim → Option LineId → ℕ → Aim
aim_at aim line least = record aim { of_line = line; min_ply = least }

-- it looks for what is asked of the game, or of a line of one, and makes the lines of it; that it
-- is sound may be known
pub record IsFinderOf (asked : Settings) (id : GameId) (game : GameText) (search : Search)
    (finder : Finder) : Type 0 where
  pub settings : finder.settings.now ≡ asked
  pub least : finder.least ≡ search.least
  pub first : finder.first ≡ asked.first
  pub line : asked.line ≡ made_line finder.lines
  pub of_line : search.line ≡ line_made finder.lines
  pub makes : MakesLines finder.lines asked.name asked.openings id game
  pub mark : finder.mark.items ≡ named_mark asked.name id
  pub sound : finder.is_sound ≡ search.is_sound
