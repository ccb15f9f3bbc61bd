use Rattle.std.proofs.Common.{List, [], refl, subst, sym, inr}
use Rattle.pgn_game.proofs.Common.{IfSome_then, MatchResult-weaker, err_from_is_err_and}
use Rattle.pgn_game.proofs.Common.{tag_in, Item, ArePlayed, fen_tag}
use Rattle.pgn_game.proofs.Common.{HaveFault, IsSoundGame, fault_of}
use Rattle.pgn_game.proofs.AnAnswer.{played_sound}
use Rattle.pgn_game.proofs.replays.replayer.check_lines.Goals as goal

pub returns-in_err-count_main_line-in-Main : goal.returns-in_err-count_main_line-in-Main
returns-in_err-count_main_line-in-Main c =
    let fen = tag_in fen_tag c.args.raw.now.tags in
    let items = c.args.raw.now.elements in
    let start = c.in_ok-start.start in
    let is_start = rw c.tags.ensures.tags at c.in_ok-start.ensures in
    let p = err_from_is_err_and c.from_residual-in_err-count_main_line-in-Main.result
    c.from_residual-in_err-count_main_line-in-Main.ensures.1 in
    rw c.in-Main.is (rw (p.1, p.2) (IfSome_then (fault_of
    c.in_err-count_main_line-in-Main.field-0.0) c.in_err-count_main_line-in-Main.ensures (λ f met.
    inr (start, is_start, rw (← c.elements.ensures.elements) met))))

pub returns-in_ok-count_main_line-in-Main : goal.returns-in_ok-count_main_line-in-Main
returns-in_ok-count_main_line-in-Main c =
    let fen = tag_in fen_tag c.args.raw.now.tags in
    let items = c.args.raw.now.elements in
    let start = c.in_ok-start.start in
    let is_start = rw c.tags.ensures.tags at c.in_ok-start.ensures in
    let (positions, played, line, count) = c.in_ok-count_main_line-in-Main.ensures in
    subst (λ lines. IsSoundGame lines fen items) (sym c.in-Main.is) (
      record { positions = positions; played = played; turns = [] },
      record {
        start = start;
        is_start = is_start;
        line = rw (← c.elements.ensures.elements) line;
        turns = refl;
      },
    )

pub returns-in-All : goal.returns-in-All
returns-in-All c =
    let fen = tag_in fen_tag c.args.raw.now.tags in
    let items = c.args.raw.now.elements in
    let start = c.in_ok-start.start in
    let is_start = rw c.tags.ensures.tags at c.in_ok-start.ensures in
    let elements = c.elements-in-All.ensures.elements in
    rw c.in-All.is (MatchResult-weaker c.check_all_lines.result c.check_all_lines.ensures (λ _
    turned. played_sound fen start items turned.0 is_start (subst (λ (xs : List Item). ArePlayed
    start xs turned.0) elements turned.1)) (λ fault reports. IfSome_then (fault_of fault) reports (λ
    f met. inr (start, is_start, subst (λ (xs : List Item). HaveFault start xs f) elements met))))
