use Rattle.pgn_criteria.proofs.Common.{◌≤◌, ◌-◌, length, map, take, Replay, Heading, AreMet}
use Rattle.pgn_game.specs.Public.CodeLines.{IsCodedLine, IsLegalLine}
use Rattle.pgn_criteria.specs.Private.Stages.{AllOfGame, EachIs}
use Rattle.pgn_criteria.proofs.by_codes.met_by_codes.Given as goal

abbrev pub invariant-loop-at : goal.invariant-loop-at
invariant-loop-at l = record {
  within : l.at ≤ length l.left;
  met : (line : Replay) → IsLegalLine l.start line → IsCodedLine l.start l.plies line.played
      → (heading : Heading)
      → EachIs (AllOfGame heading line) (map (λ a. a.now) (take l.at l.left))
      → AreMet heading line (map (λ a. a.now) (take l.at l.left)) l.met.items;
}

abbrev pub decreases-loop-at : goal.decreases-loop-at
decreases-loop-at l = length l.left - l.at
