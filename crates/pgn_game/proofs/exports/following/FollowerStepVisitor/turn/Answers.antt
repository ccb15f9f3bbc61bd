-- The place is found anew at a turn of the main line, and stays at one of a variation.
use Rattle.pgn_game.proofs.Common.{refl}
use Rattle.pgn_game.proofs.exports.following.FollowerStepVisitor.turn.Goals as goal
use Rattle.pgn_game.proofs.exports.following.FollowerStepVisitor.turn.Goals.{then-not-inside}
use Rattle.pgn_game.proofs.exports.following.FollowerStepVisitor.turn.Goals.{else-not-inside}

pub returns-clause-turned : goal.returns-clause-turned
returns-clause-turned g c =
    let (says, after, does) = c.in_ok-turn.ensures.turned in
    elim c.if-not-inside.branch [
      | then-not-inside w ↦ rw w.self-is (
        says,
        after,
        record {
          inner = does;
          place = rw w.if-not-inside.true (rw after at w.line_after-self.ensures);
          same = refl;
        },
      )
      | else-not-inside w ↦ rw w.self-is (
        says,
        after,
        record {
          inner = does;
          place = rw w.if-not-inside.false refl;
          same = refl;
        },
      )
    ]
