use Rattle.pgn_criteria.proofs.Common.{◌≡◌, ◌+◌, ◌/◌, length, codes_in, map, State, Replay}
use Rattle.pgn_criteria.proofs.Common.{move_seen, stated}
use Rattle.pgn_criteria.specs.Public.Prefilters.{IsPlayedBy}
use Rattle.pgn_criteria.specs.Public.Walks.{IsSightOf}
use Rattle.pgn_criteria.specs.Private.Told.{AllAbout}
use Rattle.pgn_criteria.specs.declared.played.About.TheVariants.{Last, Next}
use Rattle.pgn_criteria.proofs.KeptFacts.{AreKept, IsWalkedTo}
use Rattle.pgn_criteria.proofs.walked.keep_moves.Given as goal

abbrev pub invariant-loop-is : goal.invariant-loop-is
invariant-loop-is l = record {
  size : length l.told ≡ length l.fn.told;
  place : l.ply + length l.left / 3 ≡ length l.plies / 3;
  so_far : (P : State) (replay : Replay) → IsSightOf P l.start
      → IsPlayedBy P (codes_in l.plies) replay → IsWalkedTo replay l.walk l.left l.ply
      × AreKept (λ k. AllAbout Next replay k
      (map (stated (move_seen (λ text. text.items))) l.conditions)) (λ k. AllAbout Last replay k
      (map (stated (move_seen (λ text. text.items))) l.conditions)) l.ply (l.ply + 1) l.fn.told
      l.told;
}

abbrev pub decreases-loop-is : goal.decreases-loop-is
decreases-loop-is l = length l.left
