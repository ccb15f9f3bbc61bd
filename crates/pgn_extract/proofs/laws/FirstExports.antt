-- What is exported is the same whether the first of each game is asked for or all: a game has an
-- entry exactly where it has a first.
use Rattle.pgn_extract.proofs.Common.{ℕ, ◌+◌, ◌<◌, true, false, Bool, List, [], ◌∷◌}
use Rattle.pgn_extract.proofs.Common.{length, arith, inl, inr, PieceKind, ReadableGame}
use Rattle.pgn_extract.proofs.Common.{UnreadableRest, TooLongBlock, MarkedPiece, GameText, Replay}
use Rattle.pgn_extract.proofs.Common.{Aim, GameId, IsWanted, AreExports, HasEntry, IsGameExport}
use Rattle.pgn_extract.proofs.Common.{IsPieceExport, IsTextOf, IsWritten, faulty, sound, selected}
use Rattle.pgn_extract.proofs.Common.{unselected, written_lines, IsReplayOf, id_of, is_chosen}
use Rattle.pgn_extract.proofs.Common.{heading_of, Form, Standard, AsItStands, Line, Record}
use Rattle.pgn_extract.proofs.Common.{EachLine, FromEntry, LineOfEach}
use Rattle.pgn_extract.specs.Public.Laws.{FirstChangesNoExport, with_first}
use Rattle.pgn_extract.proofs.ChoiceFacts.{choice_of}
use Rattle.pgn_extract.proofs.Decided.{all_decided}
use Rattle.pgn_extract.proofs.Exported.{selected_by}
use Rattle.pgn_extract.proofs.SomeReport.{none_before}

-- the text of a game is the same whether the first of its entries is asked for or all
text_of_any : (aim : Aim) (id : GameId) (game : GameText) (text : List ℕ) (form : Form)
    (first other : Bool) → IsTextOf form (with_first first aim) id game text
    → IsTextOf form (with_first other aim) id game text
text_of_any aim id game text Standard first other own = own
text_of_any aim id game text FromEntry first other own = own
text_of_any aim id game text EachLine first other own = own
text_of_any aim id game text (LineOfEach notation) first other own = own
text_of_any aim id game text AsItStands first other own = own
text_of_any aim id game text (Line notation) first other own = own
text_of_any aim id game text Record first other own = own

module _ (aim : Aim) (id : GameId) (game : GameText) (replay : Replay)
    (is : IsReplayOf (written_lines aim) game replay) where
  -- of the plies up to one that is wanted there is a first
  first_wanted : (ply : ℕ) → ply < length replay.positions
      → IsWanted aim (heading_of game) replay ply
      → HasEntry (with_first true aim) (heading_of game) replay
  first_wanted ply less wanted =
      elim (none_before aim (heading_of game) replay ply (λ n below.
      all_decided aim (written_lines aim) game replay is n (omega arith))) [
        | inl none ↦ (ply, less, (wanted, λ only before earlier holds. none before earlier holds))
        | inr (n, below, earlier, least) ↦ (n, omega arith, (earlier, λ only. least))
      ]

  some_first : HasEntry (with_first false aim) (heading_of game) replay
      → HasEntry (with_first true aim) (heading_of game) replay
  some_first (ply, less, entry) = first_wanted ply less entry.0

  first_of_all : HasEntry (with_first true aim) (heading_of game) replay
      → HasEntry (with_first false aim) (heading_of game) replay
  first_of_all (ply, less, entry) = (ply, less, (entry.0, λ only. absurd (cc)))

  written_all : (text : List ℕ) → IsWritten (with_first true aim) id game replay text
      → IsWritten (with_first false aim) id game replay text
  written_all text (selected has own) =
      selected (selected_by aim.select _ _ first_of_all some_first has)
      (text_of_any aim id game text aim.form true false own)
  written_all text (unselected none empty) =
      unselected (λ has. none (selected_by aim.select _ _ some_first first_of_all has)) empty

  written_first : (text : List ℕ) → IsWritten (with_first false aim) id game replay text
      → IsWritten (with_first true aim) id game replay text
  written_first text (selected has own) =
      selected (selected_by aim.select _ _ some_first first_of_all has)
      (text_of_any aim id game text aim.form false true own)
  written_first text (unselected none empty) =
      unselected (λ has. none (selected_by aim.select _ _ first_of_all some_first has)) empty

module _ (aim : Aim) where
  game_all : (id : GameId) (game : GameText) (text : List ℕ)
      → IsGameExport (with_first true aim) id game text
      → IsGameExport (with_first false aim) id game text
  game_all id game text (sound replay is written) =
      sound replay is (written_all aim id game replay is text written)
  game_all id game text (faulty fault is empty) = faulty fault is empty

  game_first : (id : GameId) (game : GameText) (text : List ℕ)
      → IsGameExport (with_first false aim) id game text
      → IsGameExport (with_first true aim) id game text
  game_first id game text (sound replay is written) =
      sound replay is (written_first aim id game replay is text written)
  game_first id game text (faulty fault is empty) = faulty fault is empty

  piece_all : (id : GameId) (kind : PieceKind) (text : List ℕ)
      → IsPieceExport (with_first true aim) id kind text
      → IsPieceExport (with_first false aim) id kind text
  piece_all id (ReadableGame parts) text (game, is, of) = (game, is, game_all id game text of)
  piece_all id (UnreadableRest bytes) text of = of
  piece_all id TooLongBlock text of = of

  piece_first : (id : GameId) (kind : PieceKind) (text : List ℕ)
      → IsPieceExport (with_first false aim) id kind text
      → IsPieceExport (with_first true aim) id kind text
  piece_first id (ReadableGame parts) text (game, is, of) = (game, is, game_first id game text of)
  piece_first id (UnreadableRest bytes) text of = of
  piece_first id TooLongBlock text of = of

  exports_all : (number : ℕ) (pieces : List MarkedPiece) (text : List ℕ)
      → AreExports (with_first true aim) number pieces text
      → AreExports (with_first false aim) number pieces text
  exports_all number [] text none = none
  exports_all number (piece ∷ more) text (own, rest, parted, is, others) = (
    own,
    rest,
    parted,
    choice_of (is_chosen aim.chosen (id_of number piece))
        (piece_all (id_of number piece) piece.kind own) (λ none. none) is,
    exports_all (number + 1) more rest others,
  )

  exports_first : (number : ℕ) (pieces : List MarkedPiece) (text : List ℕ)
      → AreExports (with_first false aim) number pieces text
      → AreExports (with_first true aim) number pieces text
  exports_first number [] text none = none
  exports_first number (piece ∷ more) text (own, rest, parted, is, others) = (
    own,
    rest,
    parted,
    choice_of (is_chosen aim.chosen (id_of number piece))
        (piece_first (id_of number piece) piece.kind own) (λ none. none) is,
    exports_first (number + 1) more rest others,
  )

pub first_changes_none : FirstChangesNoExport
first_changes_none aim number pieces text =
    (exports_all aim number pieces text, exports_first aim number pieces text)
