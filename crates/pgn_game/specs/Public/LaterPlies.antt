-- A game from a position of its main line on: it begins with that position, and goes on with what
-- stands after it.
use Rattle.std.specs.Prelude.{◌≡◌, ℕ, ◌+◌, ◌-◌, ◌==◌, ◌≤◌, ◌&&◌, if◌then◌else◌, List, [], ◌∷◌}
use Rattle.std.specs.Prelude.{Some, codes}
use Rattle.std.specs.List.{slice_get}
use Rattle.chess.specs.Public.Fen.{IsFen}
use Rattle.chess.specs.Public.Positions.{State}
use Rattle.pgn_text.specs.Public.GameTexts.{GameText, IsGameText, tag_in}
use Rattle.pgn_text.specs.Public.Games.{Item, MoveText, GlyphNumber, CommentText, VariationOpen}
use Rattle.pgn_text.specs.Public.Games.{VariationClose}
use Rattle.pgn_game.specs.Public.Edits.{EditedTag, IsEditedBy}
use Rattle.pgn_game.specs.Public.Replays.{Replay, IsReplay}
use Rattle.pgn_game.specs.Public.Starts.{fen_tag}
use Rattle.pgn_game.specs.declared.replays.replayer.Lines.TheVariants.{Main}

-- the elements after so many moves of the main line, where so many variations are open before the
-- elements: the comments in front of the next move of the main line, and all from that move on
abbrev pub later_plies : ℕ → ℕ → List Item → List Item
later_plies plies depth [] = []
later_plies plies depth (MoveText word ∷ items) =
    if depth == 0 then
    (if plies == 0 then MoveText word ∷ items else later_plies (plies - 1) depth items)
    else later_plies plies depth items
later_plies plies depth (GlyphNumber number ∷ items) = later_plies plies depth items
later_plies plies depth (CommentText text ∷ items) =
    if (depth == 0 && plies == 0) then CommentText text ∷ later_plies plies depth items
    else later_plies plies depth items
later_plies plies depth (VariationOpen ∷ items) = later_plies plies (depth + 1) items
later_plies plies depth (VariationClose ∷ items) = later_plies plies (depth - 1) items

-- the tags of a game that begins with the position of this text (PGN 9.7)
abbrev pub start_tags : List ℕ → List EditedTag
start_tags fen = record { name = fen_tag; contents = Some fen }
    ∷ record { name = codes "SetUp"; contents = Some (codes "1") } ∷ []

-- a game may begin with the position: the two counts in its text have seven digits at most, so the
-- text is read back
pub record MayBeStart (P : State) : Type 0 where
  pub clock : P.halfmove_clock ≤ 9999999
  pub number : P.fullmove_number ≤ 9999999

-- the position stands after so many plies of the game's main line
abbrev pub IsPositionAt : GameText → ℕ → State → Type 0
IsPositionAt game ply P =
    (replay : Replay) × IsReplay Main (tag_in fen_tag game.tags) game.elements replay
    × (slice_get replay.positions ply ≡ Some P)

-- the other game begins with the position, which its tags give, and has the elements after so many
-- plies of the game; it has all else as the game has it
abbrev pub BeginsAt : State → ℕ → GameText → GameText → Type 0
BeginsAt P ply game other =
    (fen : List ℕ) × IsFen P fen
    × IsEditedBy (start_tags fen) (record game { elements = later_plies ply 0 game.elements }) other

-- the other game is the game from the position on, which stands after so many plies; the game stays
-- as it is where that is its own start, or where no game may begin with it
abbrev pub IsLaterFrom : State → ℕ → GameText → GameText → Type 0
IsLaterFrom P ply game other =
    ((1 ≤ ply) × MayBeStart P → IsGameText other × BeginsAt P ply game other)
    × (((1 ≤ ply) × MayBeStart P → ⊥) → other ≡ game)

-- the other game is the game from the position on that stands after so many plies
abbrev pub IsLater : ℕ → GameText → GameText → Type 0
IsLater ply game other =
    (P : State) × IsPositionAt game ply P × IsLaterFrom P ply game other
