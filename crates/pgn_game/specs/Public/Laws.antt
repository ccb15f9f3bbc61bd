-- What holds of every game, whatever replays it.
use Rattle.std.specs.Prelude.{◌≡◌, ◌⊎◌, ℕ, ◌+◌, ◌-◌, ◌/◌, ◌%◌, ◌^◌, ◌==◌, ◌<◌, ◌≤◌, List, [], ◌∷◌}
use Rattle.std.specs.Prelude.{◌++◌}
use Rattle.std.specs.Prelude.{◌↔◌, length, Option, Some, IfSome, IsSome, IsTrue, is_some, take}
use Rattle.std.specs.Prelude.{drop, IsPermutation}
use Rattle.std.specs.List.{slice_get, AllByRecursion}
use Rattle.chess.specs.Public.Positions.{State}
use Rattle.chess.specs.Public.Moves.{after, IsPseudoLegal}
use Rattle.chess.specs.Public.San.{IsOnlyNamed}
use Rattle.chess.specs.declared.moves.Move.{Move}
use Rattle.pgn_text.specs.Public.Blocks.{event_line}
use Rattle.pgn_text.specs.Public.Games.{Item, MoveText, GlyphNumber, CommentText, VariationOpen}
use Rattle.pgn_text.specs.Public.Games.{VariationClose}
use Rattle.pgn_text.specs.Public.GameTexts.{GameText, IsGameText, IsPaired, IsResult, ShowsGame}
use Rattle.pgn_text.specs.Public.GameTexts.{tag_in}
use Rattle.pgn_text.specs.Public.Limits.{block_limit}
use Rattle.pgn_text.specs.Public.Parts.{Part}
use Rattle.pgn_text.specs.Public.Strings.{IsContents}
use Rattle.pgn_game.specs.Public.AllLines.{Line, spelled, own_words}
use Rattle.pgn_game.specs.Public.MainLines.{main_words}
use Rattle.pgn_game.specs.Public.Edits.{first_plies}
use Rattle.pgn_game.specs.Public.LineGames.{AreLineTexts, LineGame, LineLayout, line_items}
use Rattle.pgn_game.specs.Public.LineGames.{lines_of}
use Rattle.pgn_game.specs.Public.SearchedLines.{own_ply}
use Rattle.pgn_game.specs.Public.LaterPlies.{later_plies}
use Rattle.pgn_game.specs.Public.TagLines.{in_order, is_among}
use Rattle.pgn_game.specs.Public.Faults.{Fault, IsFault}
use Rattle.pgn_game.specs.Public.Beginnings.{IsGameBeginning}
use Rattle.pgn_game.specs.Public.Openings.{EndsAt, IsOpeningOf, IsOpeningIn}
use Rattle.pgn_game.specs.Public.PackedGames.{PackedGame, FitsRecord, IsPacked, IsRecordOf, head_of}
use Rattle.pgn_game.specs.Public.PackedGames.{numbered_result, record_bytes, pack_bytes}
use Rattle.pgn_game.specs.Public.PackedGames.{longest_name, is_origin}
use Rattle.pgn_game.specs.Public.PlyCodes.{PlyCode, IsCode, FitsCode, moved, code_bytes, code_of}
use Rattle.pgn_game.specs.Public.Replays.{Replay, IsReplay, IsSoundGame}
use Rattle.pgn_game.specs.Public.Exports.{AreMovetextTokens, IsReplayFor, IsExport}
use Rattle.pgn_game.specs.Public.Starts.{IsStart, fen_tag}
use Rattle.pgn_game.specs.Public.TextLines.{IsLaid}
use Rattle.pgn_game.specs.declared.openings.Opening.{Opening}
use Rattle.pgn_game.specs.declared.replays.replayer.Lines.{Lines}
use Rattle.pgn_game.specs.declared.replays.replayer.Lines.TheVariants.{All, Main}
use Rattle.pgn_game.specs.declared.exports.style.Style.{Style}

-- whichever lines are replayed, each move of the main line is the only legal move that its word
-- names in the position before it, and the position after it is the one after that move
abbrev pub EachMoveIsNamed : Type 0
EachMoveIsNamed =
    (lines : Lines) (fen : Option (List ℕ)) (items : List Item) (replay : Replay)
    → IsReplay lines fen items replay
    → (i : ℕ) (m : Move) → slice_get replay.played i ≡ Some m
    → (word : List ℕ) × (now : State) × (slice_get (main_words items 0) i ≡ Some word)
    × (slice_get replay.positions i ≡ Some now)
    × IsOnlyNamed now word m × (slice_get replay.positions (i + 1) ≡ Some (after now m))

-- these lines of a game have one replay at most
abbrev pub GameHasOneReplay : Type 0
GameHasOneReplay =
    (lines : Lines) (fen : Option (List ℕ)) (items : List Item) (replay other : Replay)
    → IsReplay lines fen items replay → IsReplay lines fen items other → replay ≡ other

-- a game has one beginning of so many plies at most
abbrev pub GameHasOneBeginning : Type 0
GameHasOneBeginning =
    (fen : Option (List ℕ)) (items : List Item) (most : ℕ) (beginning other : Replay)
    → IsGameBeginning fen items most beginning → IsGameBeginning fen items most other
    → beginning ≡ other

-- nothing is left, or a move and what stands after it
abbrev pub BeginsWithMove : List Item → Type 0
BeginsWithMove rest = (rest ≡ [])
    ⊎ ((word : List ℕ) × (more : List Item) × (rest ≡ MoveText word ∷ more))

-- the elements up to a ply are a beginning of all: they have so many moves of the main line, end
-- each variation that they begin where all do, and nothing but a move stands after them
abbrev pub FirstPliesAreABeginning : Type 0
FirstPliesAreABeginning =
    (plies : ℕ) (items : List Item) → (rest : List Item)
    × (items ≡ first_plies plies 0 items ++ rest) × BeginsWithMove rest
    × (main_words (first_plies plies 0 items) 0 ≡ take plies (main_words items 0))
    × (IsPaired 0 items → IsPaired 0 (first_plies plies 0 items))

-- the elements after so many plies have the other moves of the main line, and end each variation
-- that they begin where all do
abbrev pub LaterPliesAreTheRest : Type 0
LaterPliesAreTheRest =
    (plies : ℕ) (items : List Item)
    → (main_words (later_plies plies 0 items) 0 ≡ drop plies (main_words items 0))
    × (IsPaired 0 items → IsPaired 0 (later_plies plies 0 items))

-- a replay of a game gives one of these elements from the position on that stands after so many
-- plies: of the same lines, with the positions and the moves from there on
abbrev pub LaterPliesAreReplayed : Type 0
LaterPliesAreReplayed =
    (lines : Lines) (fen contents : Option (List ℕ)) (items : List Item) (replay : Replay)
    (ply : ℕ) (P : State) → IsReplay lines fen items replay
    → slice_get replay.positions ply ≡ Some P → IsStart contents P
    → (own : Replay) × IsReplay lines contents (later_plies ply 0 items) own
    × (own.positions ≡ drop ply replay.positions) × (own.played ≡ drop ply replay.played)

-- the same names stand there, in whatever order
abbrev pub SameNamesInOrder : Type 0
SameNamesInOrder = (order names : List (List ℕ)) (name : List ℕ)
    → is_among (in_order order names) name ≡ is_among names name

-- a game has one opening at most
abbrev pub GameHasOneOpening : Type 0
GameHasOneOpening =
    (ends positions : List State) (opening other : Opening) → IsOpeningOf ends positions opening
    → IsOpeningOf ends positions other → opening ≡ other

-- of a game there is one answer, an opening or none
abbrev pub OpeningIsOneOrNone : Type 0
OpeningIsOneOrNone =
    (ends positions : List State) (answer other : Option Opening)
    → IsOpeningIn ends positions answer → IsOpeningIn ends positions other → answer ≡ other

-- it is an opening exactly where a line ends in a position of the game
abbrev pub OpeningIsThere : Type 0
OpeningIsThere = (ends positions : List State) (answer : Option Opening)
    → IsOpeningIn ends positions answer
    → IsSome answer ↔ ((ply : ℕ) × (line : ℕ) × EndsAt ends positions ply line)

-- the elements but for the parentheses of variations
abbrev pub without_parentheses : List Item → List Item
without_parentheses [] = []
without_parentheses (MoveText word ∷ items) = MoveText word ∷ without_parentheses items
without_parentheses (GlyphNumber number ∷ items) = GlyphNumber number ∷ without_parentheses items
without_parentheses (CommentText text ∷ items) = CommentText text ∷ without_parentheses items
without_parentheses (VariationOpen ∷ items) = without_parentheses items
without_parentheses (VariationClose ∷ items) = without_parentheses items

-- what is the lines' own, one line after the other
abbrev pub own_parts : List LineGame → List Item
own_parts [] = []
own_parts (line ∷ more) = line.own ++ own_parts more

-- each move, NAG and comment of a game is one line's own, and no other's: what is the lines' own is
-- the elements of the game in another order
abbrev pub EachElementIsOfOneLine : Type 0
EachElementIsOfOneLine = (line : Line)
    → IsPermutation (without_parentheses (spelled line)) (own_parts (lines_of line))

-- the words of all moves among the elements
abbrev pub moves_in : List Item → List (List ℕ)
moves_in [] = []
moves_in (MoveText word ∷ items) = word ∷ moves_in items
moves_in (GlyphNumber number ∷ items) = moves_in items
moves_in (CommentText text ∷ items) = moves_in items
moves_in (VariationOpen ∷ items) = moves_in items
moves_in (VariationClose ∷ items) = moves_in items

-- those of a line that lead to its own plies: to the first of them, and to each after it
abbrev pub own_moves : LineGame → List (List ℕ)
own_moves line = drop (own_ply line - 1) (main_words (line_items line) 0)

abbrev pub own_moves_of : List LineGame → List (List ℕ)
own_moves_of [] = []
own_moves_of (line ∷ more) = own_moves line ++ own_moves_of more

-- each move of a game leads to a ply that is one line's own, and no other's
abbrev pub EachPlyIsOfOneLine : Type 0
EachPlyIsOfOneLine = (line : Line)
    → IsPermutation (moves_in (spelled line)) (own_moves_of (lines_of line))

-- in a layout a game has one text of its lines at most
abbrev pub LinesHaveOneText : Type 0
LinesHaveOneText =
    (layout : LineLayout) (game : GameText) (text other : List ℕ)
    → AreLineTexts layout game text → AreLineTexts layout game other → text ≡ other

-- these lines of a game have one fault at most
abbrev pub GameHasOneFault : Type 0
GameHasOneFault =
    (lines : Lines) (fen : Option (List ℕ)) (items : List Item) (fault other : Fault)
    → IsFault lines fen items fault → IsFault lines fen items other → fault ≡ other

-- these lines of no game are sound and faulty
abbrev pub SoundGameHasNoFault : Type 0
SoundGameHasNoFault =
    (lines : Lines) (fen : Option (List ℕ)) (items : List Item) (fault : Fault)
    → IsSoundGame lines fen items → IsFault lines fen items fault → ⊥

-- these lines of a game have a replay or a fault, where its FEN tag has the contents of a string;
-- where all lines are replayed, its parentheses must stand in pairs
abbrev pub GameHasAnAnswer : Type 0
GameHasAnAnswer =
    (lines : Lines) (fen : Option (List ℕ)) (items : List Item) → IfSome fen IsContents
    → (lines ≡ All → IsPaired 0 items)
    → ((replay : Replay) × IsReplay lines fen items replay)
    ⊎ ((fault : Fault) × IsFault lines fen items fault)

-- the number of move texts, with those of variations
abbrev pub move_count : List Item → ℕ
move_count [] = 0
move_count (MoveText word ∷ items) = move_count items + 1
move_count (GlyphNumber number ∷ items) = move_count items
move_count (CommentText text ∷ items) = move_count items
move_count (VariationOpen ∷ items) = move_count items
move_count (VariationClose ∷ items) = move_count items

-- the words of the main line, counted by how many variations are open, are those of the line that
-- the elements spell, without its variations
abbrev pub MainLineIsTheLine : Type 0
MainLineIsTheLine = (line : Line) → main_words (spelled line) 0 ≡ own_words line

-- whichever lines are replayed, the main line has a ply for each move text that stands in no
-- variation
abbrev pub EachMainMoveIsAPly : Type 0
EachMainMoveIsAPly =
    (lines : Lines) (fen : Option (List ℕ)) (items : List Item) (replay : Replay)
    → IsReplay lines fen items replay → length (main_words items 0) ≡ length replay.played

-- where all lines are replayed, each move text has a turn
abbrev pub EachMoveHasATurn : Type 0
EachMoveHasATurn =
    (fen : Option (List ℕ)) (items : List Item) (replay : Replay) → IsReplay All fen items replay
    → length replay.turns ≡ move_count items

-- in each style the movetext of a game that is replayed has tokens, from the position that the game
-- starts from; where the style leaves variations out, a replay of the main line is enough
abbrev pub MovetextHasTokens : Type 0
MovetextHasTokens =
    (style : Style) (fen : Option (List ℕ)) (items : List Item) (replay : Replay) (result : List ℕ)
    → IsPaired 0 items → IsReplayFor style fen items replay
    → (start : State) × (tokens : List (List ℕ)) × IsStart fen start
    × AreMovetextTokens style start items result tokens

-- in a style a game has one export at most
abbrev pub GameHasOneExport : Type 0
GameHasOneExport = (style : Style) (game : GameText) (text other : List ℕ)
    → IsExport style game text → IsExport style game other → text ≡ other

-- in each style a game that is replayed has an export; where the style leaves variations out, a
-- replay of the main line is enough
abbrev pub GameHasAnExport : Type 0
GameHasAnExport =
    (style : Style) (game : GameText) (replay : Replay) → IsGameText game
    → IsReplayFor style (tag_in fen_tag game.tags) game.elements replay
    → (text : List ℕ) × IsExport style game text

-- a line of the text begins with these bytes
abbrev pub BeginsLine : List ℕ → List ℕ → Type 0
BeginsLine text rest = (text ≡ rest) ⊎ ((before : List ℕ) × (text ≡ before ++ 10 ∷ rest))

-- a line that begins with these bytes is read as an escape, or as an event line, which begins a new
-- block (PGN 6)
abbrev pub IsMisread : List ℕ → Type 0
IsMisread rest = (more : List ℕ) × ((rest ≡ 37 ∷ more) ⊎ (rest ≡ event_line ++ more))

-- no line of a movetext is, whatever its comments say
abbrev pub NoLineIsMisread : Type 0
NoLineIsMisread =
    (style : Style) (start : State) (items : List Item) (result : List ℕ) (tokens : List (List ℕ))
    (width : ℕ) (movetext rest : List ℕ) → IsResult result
    → AreMovetextTokens style start items result tokens → IsLaid width tokens movetext
    → BeginsLine movetext rest → IsMisread rest → ⊥

-- the export of a game begins with an event line, no other of its lines is one, and none is an
-- escape
pub record IsReadAsOne (text : List ℕ) : Type 0 where
  pub first : (more : List ℕ) × (text ≡ event_line ++ more)
  pub only : (before rest more : List ℕ) → text ≡ before ++ 10 ∷ rest → rest ≡ event_line ++ more
      → ⊥
  pub no_escape : (rest more : List ℕ) → BeginsLine text rest → rest ≡ 37 ∷ more → ⊥

abbrev pub ExportIsReadAsOne : Type 0
ExportIsReadAsOne = (style : Style) (game : GameText) (text : List ℕ) → IsGameText game
    → IsExport style game text → IsReadAsOne text

-- each three bytes spell a code that has this spelling
abbrev pub ThreeBytesAreACode : Type 0
ThreeBytesAreACode = (a b d : ℕ) → a < 256 → b < 256 → d < 256
    → FitsCode (code_of a b d) × (code_bytes (code_of a b d) ≡ a ∷ b ∷ d ∷ [])

-- and the code that a code's bytes spell is that code
abbrev pub CodeIsReadBack : Type 0
CodeIsReadBack = (c : PlyCode) (a b d : ℕ) → FitsCode c → code_bytes c ≡ a ∷ b ∷ d ∷ []
    → code_of a b d ≡ c

-- a move has one code at most
abbrev pub MoveHasOneCode : Type 0
MoveHasOneCode = (P : State) (m : Move) (c other : PlyCode) → IsCode P m c → IsCode P m other
    → c ≡ other

-- the code of a pseudo-legal move, and so of each legal one, has a spelling
abbrev pub CodeOfAMoveFits : Type 0
CodeOfAMoveFits = (P : State) (m : Move) (c : PlyCode) → IsPseudoLegal P m → IsCode P m c
    → FitsCode c

-- the code of a pseudo-legal move moves the men as the move does
abbrev pub CodeMovesAsItsMove : Type 0
CodeMovesAsItsMove = (P : State) (m : Move) (c : PlyCode) → IsPseudoLegal P m → IsCode P m c
    → moved P.men c ≡ (after P m).men

-- a replayed game has one record at most under a name, a number and an offset
abbrev pub GameHasOneRecord : Type 0
GameHasOneRecord =
    (name : Option (List ℕ)) (number offset : ℕ) (game : GameText) (replay : Replay)
    (packed other : PackedGame)
    → IsPacked name number offset game replay packed → IsPacked name number offset game replay other
    → packed ≡ other

-- a game whose main line is sound has a record, as long as it may be
abbrev pub SoundGameHasARecord : Type 0
SoundGameHasARecord =
    (name : Option (List ℕ)) (number offset : ℕ) (game : GameText)
    → IsSoundGame Main (tag_in fen_tag game.tags) game.elements
    → (bytes : List ℕ) × IsRecordOf name number offset game bytes

-- and one at most
abbrev pub GameHasOneSpelling : Type 0
GameHasOneSpelling =
    (name : Option (List ℕ)) (number offset : ℕ) (game : GameText) (bytes other : List ℕ)
    → IsRecordOf name number offset game bytes → IsRecordOf name number offset game other
    → bytes ≡ other

-- a game of a block always fits in a record, where its mark fits in 64 bits, a run may meet it
-- there, and its name is short
abbrev pub GameOfABlockFits : Type 0
GameOfABlockFits =
    (name : Option (List ℕ)) (number offset : ℕ) (game : GameText) (parts : List Part)
    (replay : Replay) (packed : PackedGame)
    → IsGameText game → ShowsGame game game.at parts → length game.text ≤ block_limit
    → IsReplay Main (tag_in fen_tag game.tags) game.elements replay
    → IsPacked name number offset game replay packed
    → IfSome name (λ own. length own ≤ longest_name) → number < 2 ^ 64 → offset < 2 ^ 64
    → IsTrue (is_origin number offset name) → FitsRecord packed

-- the head of a record shows how many tags its game has, whether it has a name, its result and the
-- marks of its start
pub record ShowsHead (game : PackedGame) (head : ℕ) : Type 0 where
  pub count : head / 32 ≡ length game.tags
  pub named : (head / 16 % 2 == 1) ≡ is_some game.name
  pub result : numbered_result (head / 4 % 4) ≡ game.result
  pub check : (head % 2 == 1) ≡ game.check
  pub stuck : (head / 2 % 2 == 1) ≡ game.stuck

abbrev pub HeadIsReadBack : Type 0
HeadIsReadBack = (game : PackedGame) → FitsRecord game → ShowsHead game (head_of game)

-- in front of bytes stands the record of one game at most, and it ends in one place
abbrev pub RecordHasOneReading : Type 0
RecordHasOneReading =
    (game other : PackedGame) (rest more : List ℕ) → FitsRecord game → FitsRecord other
    → record_bytes game ++ rest ≡ record_bytes other ++ more
    → (game ≡ other) × (rest ≡ more)

-- bytes are the pack of one list of games at most
abbrev pub PackHasOneReading : Type 0
PackHasOneReading =
    (games others : List PackedGame) → AllByRecursion FitsRecord games
    → AllByRecursion FitsRecord others
    → pack_bytes games ≡ pack_bytes others → games ≡ others
