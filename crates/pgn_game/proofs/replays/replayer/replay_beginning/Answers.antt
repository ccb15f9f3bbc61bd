use Rattle.pgn_game.proofs.Common.{inr, IfSome_then, MatchResult-weaker}
use Rattle.pgn_game.proofs.Common.{fault_of}
use Rattle.pgn_game.proofs.replays.replayer.replay_beginning.Goals as goal

pub returns : goal.returns
returns c =
    let start = c.in_ok-start.start in
    let is_start = rw c.tags.ensures.tags at c.in_ok-start.ensures in
    MatchResult-weaker c.play_beginning.result c.play_beginning.ensures
    (λ beginning line. record {
      start = start;
      is_start = is_start;
      line = rw (← c.elements.ensures.elements) line;
    })
    (λ fault reports. IfSome_then (fault_of fault) reports
    (λ f met.
    inr (
      start,
      is_start,
      rw (← c.elements.ensures.elements) met,
    )))
