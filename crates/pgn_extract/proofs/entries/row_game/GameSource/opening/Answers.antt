-- The opening of a record is that of the game in it.
use Rattle.std.proofs.Common.{sym, subst, IfOk}
use Rattle.pgn_extract.proofs.Common.{GameText, Replay}
use Rattle.pgn_extract.specs.Private.Finding.{IsOfGame}
use Rattle.pgn_extract.specs.Private.RowGames.{IsGameIn, openings_of}
use Rattle.pgn_extract.specs.Public.Rows.{IsOpeningBy}
use Rattle.pgn_extract.specs.declared.entries.row_game.GameSource.{GameSource}
use Rattle.pgn_extract.proofs.entries.row_game.GameSource.opening.Goals as goal

pub returns-in-Record : goal.returns-in-Record
returns-in-Record c =
    subst (λ (source : GameSource). IfOk c.opening_in.result (λ opening. (game : GameText)
    → IsGameIn source game → (replay : Replay) → IsOfGame game replay
    → IsOpeningBy (openings_of source) replay.positions opening)) (sym c.in-Record.is)
    c.opening_in.ensures
