use Rattle.pgn_game.proofs.Common.{sym, subst, inr, MatchResult, IfSome, IfSome_then}
use Rattle.pgn_game.proofs.Common.{MatchResult-weaker, tag_in, ArePlayed}
use Rattle.pgn_game.proofs.Common.{fen_tag, HaveFault, IsFault, IsReplay}
use Rattle.pgn_game.proofs.Common.{fault_of}
use Rattle.pgn_game.proofs.replays.replayer.replay.Goals as goal

pub returns-in-Main : goal.returns-in-Main
returns-in-Main c =
    let start = c.in_ok-start.start in
    let fen = tag_in fen_tag c.args.raw.now.tags in
    let is_start = rw c.tags.ensures.tags at c.in_ok-start.ensures in
    subst (λ lines.
    MatchResult c.play_main_line.result (IsReplay lines fen c.args.raw.now.elements) (λ fault.
    IfSome (fault_of fault) (IsFault lines fen c.args.raw.now.elements)))
    (sym c.in-Main.is)
    (MatchResult-weaker c.play_main_line.result c.play_main_line.ensures
    (λ replayed line. record {
      start = start;
      is_start = is_start;
      line = rw (← c.elements.ensures.elements) line.0;
      turns = line.1;
    })
    (λ fault reports. IfSome_then (fault_of fault) reports
    (λ f met.
    inr (
      start,
      is_start,
      rw (← c.elements.ensures.elements) met,
    ))))

pub returns-in-All : goal.returns-in-All
returns-in-All c =
    let start = c.in_ok-start.start in
    let fen = tag_in fen_tag c.args.raw.now.tags in
    let is_start = rw c.tags.ensures.tags at c.in_ok-start.ensures in
    let elements = c.elements-in-All.ensures.elements in
    subst (λ lines.
    MatchResult c.play_all_lines.result (IsReplay lines fen c.args.raw.now.elements) (λ fault.
    IfSome (fault_of fault) (IsFault lines fen c.args.raw.now.elements)))
    (sym c.in-All.is)
    (MatchResult-weaker c.play_all_lines.result c.play_all_lines.ensures
    (λ replayed line. record {
      start = start;
      is_start = is_start;
      line = rw (← elements) line.0;
      turns = subst (λ items. ArePlayed start items replayed.turns) elements line.1;
    })
    (λ fault reports. IfSome_then (fault_of fault) reports
    (λ f met. inr (start, is_start, subst (λ items. HaveFault start items f) elements met))))
