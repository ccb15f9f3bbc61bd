use Rattle.pgn_game.proofs.replays.PlayedFacts.{plays_word}
use Rattle.pgn_game.proofs.replays.PlayedFacts.{has_ended}
use Rattle.pgn_game.proofs.replays.played_line.MainLine.next_move.Goals as goal

pub returns-in-Some : goal.returns-in-Some
returns-in-Some c =
    let at = c.loop-self.invariant in
    plays_word c.loop-self.self-inside.walk c.step.new.self c.args.self.now
    c.loop-self.self-inside.rest.now _ c.in-len1-up.len_at_least at.words at.position at.plies
    c.in-Some.m (rw c.in-Some.is at c.in_ok-m.ensures.stepped)

pub returns : goal.returns
returns c =
    let at = c.loop-self.invariant in
    has_ended c.loop-self.self-inside.walk c.loop-self.self-inside.rest.now c.args.self.now
    c.in_default.len_below at.words at.position at.plies
