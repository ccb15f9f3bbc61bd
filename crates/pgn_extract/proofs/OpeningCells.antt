-- The cell of the ply of an opening: there is one, and one at most.
use Rattle.std.proofs.Common.{◌≡◌, ℕ, List, [], Option, Some, None, refl, sym, ap, ◌∙◌, subst}
use Rattle.std.specs.List.{slice_get}
use Rattle.chess.specs.Public.Placements.{AreOnBoard}
use Rattle.chess.specs.Public.Positions.{State}
use Rattle.pgn_text.specs.Public.GameTexts.{GameText}
use Rattle.pgn_game.specs.Public.Openings.{NamedLine, HasOpening, IsOpeningIn, ends_of}
use Rattle.pgn_game.specs.Public.Replays.{Replay}
use Rattle.pgn_game.specs.declared.openings.Opening.{Opening}
use Rattle.pgn_game.specs.declared.replays.replayer.Lines.TheVariants.{Main}
use Rattle.pgn_game.proofs.laws.OneOpening.{one_or_none}
use Rattle.pgn_game.specs.Public.PackReading.{RawRecord}
use Rattle.pgn_game.specs.Public.PackedGames.{PackedGame}
use Rattle.pgn_extract.specs.Private.Finding.{IsOfGame}
use Rattle.pgn_extract.specs.Private.Packed.{EachOfRecord, IsOfRecord}
use Rattle.pgn_extract.specs.Public.Rows.{IsOpeningBy, IsOpeningCell, opening_cell}
use Rattle.pgn_extract.proofs.OneMain.{one_main}
use Rattle.pgn_extract.proofs.SomeCounted.{some_opening}

one_opening_by : (openings : Option (List NamedLine)) (positions : List State)
    (a b : Option Opening) → IsOpeningBy openings positions a → IsOpeningBy openings positions b
    → a ≡ b
one_opening_by None positions a b first other = first ∙ sym other
one_opening_by (Some lines) positions a b first other =
    one_or_none (ends_of lines) positions a b first other

pub one_opening_cell : (openings : Option (List NamedLine)) (positions : List State)
    (x y : List ℕ) → IsOpeningCell openings positions x → IsOpeningCell openings positions y
    → x ≡ y
one_opening_cell openings positions x y (a, is, first) (b, also, other) =
    first ∙ ap opening_cell (one_opening_by openings positions a b is also) ∙ sym other

pub some_opening_cell : (openings : Option (List NamedLine)) (positions : List State)
    → ((i : ℕ) (P : State) → slice_get positions i ≡ Some P → AreOnBoard P.men)
    → (cell : List ℕ) × IsOpeningCell openings positions cell
some_opening_cell None positions on_board = ([], (None, refl, refl))
some_opening_cell (Some lines) positions on_board =
    let found = some_opening (ends_of lines) [] positions None on_board
    (λ ply line there. cc) in (opening_cell found.0, (found.0, found.1, refl))

-- the opening of a sound game is that of each of its replays
pub opening_there : (lines : List NamedLine) (game : GameText) (opening : Option Opening)
    → HasOpening lines game opening → (replay : Replay) → IsOfGame game replay
    → IsOpeningBy (Some lines) replay.positions opening
opening_there lines game opening (other, is, found) replay of =
    subst (λ ps. IsOpeningIn (ends_of lines) ps opening)
    (one_main game other replay (Main, is) of).0 found

-- and that of a record that of each replay of the games that have it
pub opening_of_record : (raw : RawRecord) (lines : List NamedLine) (opening : Option Opening)
    → EachOfRecord raw (λ game replay packed. IsOpeningBy (Some lines) replay.positions opening)
    → (game : GameText) (replay : Replay) (packed : PackedGame)
    → IsOfRecord raw game replay packed → (other : Replay) → IsOfGame game other
    → IsOpeningBy (Some lines) other.positions opening
opening_of_record raw lines opening found game replay packed own other of =
    subst (λ ps. IsOpeningIn (ends_of lines) ps opening)
    (one_main game replay other (Main, own.is_replay) of).0 (found game replay packed own)
