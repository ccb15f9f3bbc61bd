use Rattle.pgn_criteria.proofs.Common.{◌≡◌, ◌≤◌, ℕ, false, Replay, FitsAt}
use Rattle.chess.specs.Public.Sets.{has_bit}
use Rattle.pgn_criteria.specs.Public.Turns.{IsTurn}
use Rattle.pgn_criteria.proofs.ColumnFacts.{FirstBits}
use Rattle.pgn_criteria.proofs.told.add_bits.Given as goal

abbrev pub invariant-loop-alternative : goal.invariant-loop-alternative
invariant-loop-alternative l = record {
  at : l.place ≡ l.alternative-index;
  none : (i : ℕ) → l.place ≤ i → has_bit l.own i ≡ false;
  told : (replay : Replay) (ply : ℕ)
      → IsTurn replay ply l.turn.before.now l.turn.last.now l.turn.position.now l.turn.next.now
      → FirstBits l.alternatives (λ a. FitsAt replay a.now ply) l.place l.own;
}
