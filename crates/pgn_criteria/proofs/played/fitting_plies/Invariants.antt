use Rattle.pgn_criteria.proofs.Common.{◌↔◌, List, length, IsTrue, State, Replay, tag_in, fen_tag}
use Rattle.chess.specs.declared.moves.Move.{Move as OneMove}
use Rattle.pgn_criteria.specs.Shared.PlayedTo.{IsPlayedTo}
use Rattle.pgn_criteria.specs.Private.Told.{AllAbout, AreToldOf, StartsWith}
use Rattle.pgn_criteria.specs.declared.played.About.TheVariants.{Last}
use Rattle.pgn_criteria.proofs.played.fitting_plies.Given as goal

abbrev pub invariant-loop-fits : goal.invariant-loop-fits
invariant-loop-fits l = record {
  before : List State;
  played : List OneMove;
  to : IsPlayedTo (tag_in fen_tag l.game.tags) l.game.elements l.line before played;
  told : AreToldOf l.alternative (length before) (StartsWith before played) l.fits.items;
  reached : (replay : Replay) → StartsWith before played replay
      → IsTrue l.is_reached ↔ AllAbout Last replay (length before) l.alternative.moves;
}

abbrev pub decreases-loop-fits : goal.decreases-loop-fits
decreases-loop-fits l = length l.line.words
