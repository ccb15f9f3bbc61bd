-- The line of the opening names the game; without one, and where it is faulty, it stays.
use Rattle.pgn_game.proofs.Common.{None, Some}
use Rattle.pgn_game.proofs.NoOpening.{none_there, none_of_faulty, as_it_stands}
use Rattle.pgn_game.proofs.openings.Openings.classified.Goals as goal
use Rattle.pgn_game.proofs.openings.Openings.classified.Goals.{in-Some+in_ok-game-in-Some, in-None}

pub returns-in-Ok-clause-counts : goal.returns-in-Ok-clause-counts
returns-in-Ok-clause-counts c =
    let lines = c.args.self.now in
    let game = c.args.game in
    elim c.match-line.branch [
      | in-Some+in_ok-game-in-Some w ↦ rw w.game-is (
          let (line, at, good, is) = w.in_ok-game-in-Some.ensures in
          let has = rw w.in-Some.is at c.in-Ok.ensures.0 in
          (Some line, (w.in-Some.opening, has, at, good), is))
      | in-None w ↦ rw w.game-is (
        None,
        none_there lines game (rw w.in-None.is at c.in-Ok.ensures.0),
        as_it_stands game,
      )
    ]

pub returns-in-Err-BadPosition-clause-counts : goal.returns-in-Err-BadPosition-clause-counts
returns-in-Err-BadPosition-clause-counts c = (
  None,
  none_of_faulty c.args.self.now c.args.game _
      (rw c.in-Err-BadPosition.field-0-is at c.in-Err-BadPosition.ensures),
  as_it_stands c.args.game,
)

pub returns-in-Err-Illegal-clause-counts : goal.returns-in-Err-Illegal-clause-counts
returns-in-Err-Illegal-clause-counts c = (
  None,
  none_of_faulty c.args.self.now c.args.game _
      (rw c.in-Err-Illegal.field-0-is at c.in-Err-Illegal.ensures),
  as_it_stands c.args.game,
)

pub returns-clause-counts : goal.returns-clause-counts
returns-clause-counts c = (
  None,
  none_of_faulty c.args.self.now c.args.game _
      (rw c.in-Err-Ambiguous.field-0-is at c.in-Err-Ambiguous.ensures),
  as_it_stands c.args.game,
)
