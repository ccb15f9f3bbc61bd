use Rattle.std.proofs.Common.{◌↔◌, ◌<◌, ◌^◌, ℕ}
use Rattle.pgn_criteria.specs.Private.Items.{Has, IsAfter}
use Rattle.pgn_criteria.proofs.rank.advance.Given as goal

abbrev pub invariant-loop-place : goal.invariant-loop-place
invariant-loop-place l = record {
  low : l.next < 2 ^ 9;
  after : (place : ℕ) → Has l.next place ↔ IsAfter l.class l.squares l.reached l.place place;
}
