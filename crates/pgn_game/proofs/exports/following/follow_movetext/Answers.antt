-- The writer within goes along the steps as it does alone, and the line is found at their turns.
use Rattle.pgn_game.proofs.Common.{[], ◌∷◌, refl}
use Rattle.pgn_game.specs.Public.Openings.{ends_of}
use Rattle.pgn_game.specs.Private.MovetextWalks.{WritesStep}
use Rattle.pgn_game.proofs.exports.MovetextFacts.{written_movetext}
use Rattle.pgn_game.proofs.openings.Following.{none_at_first}
use Rattle.pgn_game.proofs.openings.LineFacts.{went_along}
use Rattle.pgn_game.proofs.replays.MainSteps.{main_of, main_steps}
use Rattle.pgn_game.proofs.exports.following.follow_movetext.Goals as goal

pub returns-clause-text : goal.returns-clause-text
returns-clause-text c =
    let (steps, walks, visits) = c.in_ok-walk_lines.ensures.walked in
    let first = c.new-follower.result in
    let last = c.walk_lines.new.visitor in
    let went = went_along WritesStep first steps last visits in
    let (movetext, is, all) =
    written_movetext c.args.style.now c.args.start.now c.args.game.now steps []
    c.put_last.new.out.items first.inner last.inner
    (rw c.new-follower.ensures.inner (rw c.in_ok-room.ensures.items at c.new-writer.ensures))
    c.walk_lines.ensures.paired walks went.inner
    (rw c.result.ensures at c.in_ok-put_last.ensures.text) in
    rw all is

pub returns-clause-line : goal.returns-clause-line
returns-clause-line c =
    let (steps, walks, visits) = c.in_ok-walk_lines.ensures.walked in
    let start = c.args.start.now in
    let went = went_along WritesStep c.new-follower.result steps c.walk_lines.new.visitor visits in
    let main = main_steps c.args.style.now.variations start c.args.game.now.elements steps walks in
    let place = rw c.new-follower.ensures.openings at went.place in (
      record { positions = start ∷ main_of steps; played = main.0; turns = [] },
      record {
        start = start;
        is_start = c.requires;
        line = main.1;
        turns = refl;
      },
      place (start ∷ [])
          (c.new-follower.ensures.place [] (none_at_first (ends_of c.args.openings.now))),
    )
