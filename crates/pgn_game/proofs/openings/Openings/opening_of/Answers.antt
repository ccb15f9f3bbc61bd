use Rattle.pgn_game.proofs.Common.{[], refl, inr, IfSome_then, MatchResult-weaker, fault_of, Main}
use Rattle.pgn_game.proofs.Common.{Replay, IsReplay, tag_in, fen_tag}
use Rattle.pgn_game.proofs.openings.Openings.opening_of.Goals as goal

pub returns : goal.returns
returns c =
    let start = c.in_ok-start.start in
    let is_start = rw c.tags.ensures.tags at c.in_ok-start.ensures in
    MatchResult-weaker c.follow.result c.follow.ensures
    (λ found (positions, played, line, is, plies).
    let replay : Replay = record { positions = positions; played = played; turns = [] } in
    let replays : IsReplay Main (tag_in fen_tag c.args.game.now.tags) c.args.game.now.elements
    replay = record {
      start = start;
      is_start = is_start;
      line = rw (← c.elements.ensures.elements) line;
      turns = refl;
    } in ((replay, replays, is), (replay, replays, plies)))
    (λ fault reports. IfSome_then (fault_of fault) reports
    (λ f met. inr (start, is_start, rw (← c.elements.ensures.elements) met)))
