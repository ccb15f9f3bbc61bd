use Rattle.std.specs.Prelude.{IfSome}
use Rattle.pgn_criteria.proofs.Common.{List, length, State, Replay}
use Rattle.chess.specs.Public.Moves.{IsLegal}
use Rattle.chess.specs.declared.moves.Move.{Move as OneMove}
use Rattle.pgn_criteria.specs.Public.Turns.{HasLed}
use Rattle.pgn_criteria.specs.Private.Told.{AreToldOf, EachColumn, StartsWith}
use Rattle.pgn_criteria.proofs.CodedPlays.{IsCodedTo}
use Rattle.pgn_criteria.proofs.by_codes.bits_of_codes.Given as goal

abbrev pub invariant-loop-fits : goal.invariant-loop-fits
invariant-loop-fits l = record {
  passed : List State;
  played : List OneMove;
  to : IsCodedTo l.fn.start l.plies passed played l.here l.left;
  told : EachColumn l.alternatives
      (λ a told. AreToldOf a.now (length passed) (StartsWith passed played) told) l.fits.items;
  led : (replay : Replay) → StartsWith passed played replay
      → HasLed replay (length passed) l.before l.last;
  legal : IfSome l.last (IsLegal l.before);
}

abbrev pub decreases-loop-fits : goal.decreases-loop-fits
decreases-loop-fits l = length l.left
