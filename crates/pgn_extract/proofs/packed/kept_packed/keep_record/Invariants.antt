use Rattle.std.specs.Prelude.{◌≡◌, List, length}
use Rattle.chess.specs.Public.Positions.{State}
use Rattle.pgn_extract.specs.Private.KeptLines.{AreFirst}
use Rattle.pgn_extract.specs.Private.KeptPacked.{IsStartOf}
use Rattle.pgn_extract.specs.Private.Packed.{EachOfRecord}
use Rattle.pgn_extract.proofs.entries.KeptMoves.{TellsFirst}
use Rattle.pgn_criteria.proofs.CodedPlays.{IsCodedTo}
use Rattle.pgn_extract.proofs.packed.kept_packed.keep_record.Given as goal

abbrev pub invariant-loop-first : goal.invariant-loop-first
invariant-loop-first g l = record {
  starts : IsStartOf l.raw l.start;
  passed : List State;
  to : IsCodedTo l.start l.raw.plies passed l.played.items l.here l.left;
  size : length l.met.items ≡ length passed;
  first : AreFirst l.first.items passed;
  told : EachOfRecord l.raw (λ game replay packed.
      TellsFirst (g.Q.Question.Asks l.question) game l.met.items);
}

abbrev pub decreases-loop-first : goal.decreases-loop-first
decreases-loop-first g l = length l.left
