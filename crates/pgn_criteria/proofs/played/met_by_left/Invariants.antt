use Rattle.pgn_criteria.proofs.Common.{◌≤◌, ◌-◌, length, map, take, Replay, Heading, AreMet, tag_in}
use Rattle.pgn_criteria.proofs.Common.{fen_tag}
use Rattle.pgn_game.specs.Public.Replays.{IsReplay}
use Rattle.pgn_game.specs.declared.replays.replayer.Lines.TheVariants.{Main}
use Rattle.pgn_criteria.specs.Private.Stages.{AllOfGame, EachIs}
use Rattle.pgn_criteria.proofs.played.met_by_left.Given as goal

abbrev pub invariant-loop-at : goal.invariant-loop-at
invariant-loop-at l = record {
  within : l.at ≤ length l.left;
  met : (replay : Replay) → IsReplay Main (tag_in fen_tag l.game.tags) l.game.elements replay
      → (heading : Heading)
      → EachIs (AllOfGame heading replay) (map (λ a. a.now) (take l.at l.left))
      → AreMet heading replay (map (λ a. a.now) (take l.at l.left)) l.met.items;
}

abbrev pub decreases-loop-at : goal.decreases-loop-at
decreases-loop-at l = length l.left - l.at
