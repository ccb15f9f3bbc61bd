use Rattle.pgn_criteria.proofs.Common.{◌↔◌, ℕ, List, State, codes_in, drop, map, Replay, move_seen}
use Rattle.pgn_criteria.proofs.Common.{slice_get, stated}
use Rattle.chess.specs.declared.moves.Move.{Move}
use Rattle.pgn_game.specs.Public.CodeLines.{AreLegalMoves}
use Rattle.pgn_game.specs.Public.PlyCodes.{AreCodes}
use Rattle.pgn_criteria.specs.Public.Walks.{IsSightOf}
use Rattle.pgn_criteria.specs.Private.Told.{AllAbout, IsAbout}
use Rattle.pgn_criteria.proofs.walked.stays.Given as goal

abbrev pub invariant-loop-condition : goal.invariant-loop-condition
invariant-loop-condition l =
    (P : State) (moves : List Move) (replay : Replay) (ply : ℕ) → IsSightOf P l.walk
    → AreLegalMoves P moves → AreCodes P moves (codes_in l.left)
    → IsAbout l.about replay ply P (slice_get moves 0)
    → AllAbout l.about replay ply
    (map (stated (move_seen (λ text. text.items))) (drop l.condition-index l.conditions))
    ↔ AllAbout l.about replay ply (map (stated (move_seen (λ text. text.items))) l.conditions)
