use Rattle.pgn_game.proofs.Common.{[], refl, inr, IfSome_then, MatchResult-weaker}
use Rattle.pgn_game.proofs.Common.{fault_of}
use Rattle.pgn_game.proofs.replays.replayer.count_plies.Goals as goal

pub returns : goal.returns
returns c =
    let start = c.in_ok-start.start in
    let is_start = rw c.tags.ensures.tags at c.in_ok-start.ensures in
    MatchResult-weaker c.count_main_line.result c.count_main_line.ensures
    (λ plies (positions, played, line, count). (
      record { positions = positions; played = played; turns = [] },
      record {
        start = start;
        is_start = is_start;
        line = rw (← c.elements.ensures.elements) line;
        turns = refl;
      },
      count,
    ))
    (λ fault reports. IfSome_then (fault_of fault) reports
    (λ f met.
    inr (
      start,
      is_start,
      rw (← c.elements.ensures.elements) met,
    )))
