use Rattle.pgn_criteria.proofs.Common.{◌↔◌, ℕ, drop, map, Replay, move_seen, stated}
use Rattle.pgn_criteria.specs.Private.Told.{AllAbout, IsAbout}
use Rattle.pgn_criteria.proofs.played.are_about.Given as goal

abbrev pub invariant-loop-condition : goal.invariant-loop-condition
invariant-loop-condition l =
    (replay : Replay) (ply : ℕ) → IsAbout l.about replay ply l.position l.m
    → AllAbout l.about replay ply
    (map (stated (move_seen (λ text. text.items))) (drop l.condition-index l.conditions))
    ↔ AllAbout l.about replay ply (map (stated (move_seen (λ text. text.items))) l.conditions)
