use Rattle.pgn_criteria.proofs.Common.{ℕ, drop, map, Replay, move_seen, stated}
use Rattle.pgn_criteria.specs.Private.Told.{AllAbout}
use Rattle.pgn_criteria.proofs.walked.about_that.Given as goal

abbrev pub invariant-loop-condition : goal.invariant-loop-condition
invariant-loop-condition l = (replay : Replay) (ply : ℕ) → AllAbout l.about replay ply
    (map (stated (move_seen (λ text. text.items))) (drop l.condition-index l.conditions))
    → AllAbout l.about replay ply (map (stated (move_seen (λ text. text.items))) l.conditions)
