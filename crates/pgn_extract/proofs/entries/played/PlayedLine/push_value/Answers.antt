use Rattle.pgn_extract.proofs.Common.{[], decimal, sym, ap, subst, append-nil}
use Rattle.pgn_extract.proofs.Common.{IfSome_then}
use Rattle.pgn_extract.proofs.Common.{on_ok_weaker, MatchResult-weaker}
use Rattle.pgn_extract.specs.Private.Lines.{ShowsValue}
use Rattle.pgn_extract.specs.Public.Rows.{IsPositionCell}
use Rattle.pgn_extract.specs.declared.rows.column.PlyColumn.{PlyColumn}
use Rattle.pgn_extract.proofs.entries.PlainTexts.{decimal_plain}
use Rattle.pgn_extract.proofs.entries.PlayedFacts.{shows_ply, shows_position, shows_next, fails_at}
use Rattle.pgn_extract.proofs.entries.UciTexts.{shows_next_uci}
use Rattle.pgn_extract.proofs.entries.played.PlayedLine.push_value.Goals as goal

pub returns-in_ok-push_number-in-Ply-clause-shown :
    goal.returns-in_ok-push_number-in-Ply-clause-shown
returns-in_ok-push_number-in-Ply-clause-shown g c =
    let line = c.args.self.now.line in
    let Asks = g.Q.Question.Asks c.args.self.now.question in
    let value = decimal c.plies.result in (
      value,
      decimal_plain c.plies.result,
      λ aim game before P at. subst (λ (k : PlyColumn). ShowsValue k value aim game before P)
          (sym c.in-Ply.is)
          (shows_ply line Asks value (ap decimal c.plies.ensures) aim game before P at),
      c.in_ok-push_number-in-Ply.ensures,
    )

pub returns-in_ok-push_position_value-in-OfPosition-clause-shown :
    goal.returns-in_ok-push_position_value-in-OfPosition-clause-shown
returns-in_ok-push_position_value-in-OfPosition-clause-shown g c =
    let line = c.args.self.now.line in
    let Asks = g.Q.Question.Asks c.args.self.now.question in
    let (value, plain, is, items) = c.in_ok-push_position_value-in-OfPosition.ensures in (
      value,
      plain,
      λ aim game before P at. subst (λ (k : PlyColumn). ShowsValue k value aim game before P)
          (sym c.in-OfPosition.is)
          (shows_position line Asks c.in-OfPosition.own value
          (subst (λ Q. IsPositionCell c.in-OfPosition.own Q value) c.position.ensures is)
          aim game before P at),
      items,
    )

pub returns-in-Next-clause-shown : goal.returns-in-Next-clause-shown
returns-in-Next-clause-shown g c =
    let line = c.args.self.now.line in
    let Asks = g.Q.Question.Asks c.args.self.now.question in
    on_ok_weaker c.push_next_value.result
    (λ (value, plain, is, items). (
      value,
      plain,
      λ aim game before P at. subst (λ (k : PlyColumn). ShowsValue k value aim game before P)
          (sym c.in-Next.is) (shows_next line Asks value is aim game before P at),
      items,
    ))
    c.push_next_value.ensures.shown

pub returns-in-Next-clause-fault : goal.returns-in-Next-clause-fault
returns-in-Next-clause-fault g c =
    let line = c.args.self.now.line in
    let Asks = g.Q.Question.Asks c.args.self.now.question in
    let old = c.args.text.now.items in
    MatchResult-weaker c.push_next_value.result c.push_next_value.ensures.fault (λ done none. tt)
    (λ fault met. IfSome_then _ met
    (fails_at line Asks old [] old c.push_next_value.new.text.items (sym (append-nil old))))

pub returns-in-NextUci-clause-shown : goal.returns-in-NextUci-clause-shown
returns-in-NextUci-clause-shown g c =
    let line = c.args.self.now.line in
    let Asks = g.Q.Question.Asks c.args.self.now.question in
    on_ok_weaker c.push_next_uci.result
    (λ (value, plain, is, items). (
      value,
      plain,
      λ aim game before P at. subst (λ (k : PlyColumn). ShowsValue k value aim game before P)
          (sym c.in-NextUci.is) (shows_next_uci line Asks value is aim game before P at),
      items,
    ))
    c.push_next_uci.ensures.shown

pub returns-in-NextUci-clause-fault : goal.returns-in-NextUci-clause-fault
returns-in-NextUci-clause-fault g c =
    let line = c.args.self.now.line in
    let Asks = g.Q.Question.Asks c.args.self.now.question in
    let old = c.args.text.now.items in
    MatchResult-weaker c.push_next_uci.result c.push_next_uci.ensures.fault (λ done none. tt)
    (λ fault met. IfSome_then _ met
    (fails_at line Asks old [] old c.push_next_uci.new.text.items (sym (append-nil old))))
