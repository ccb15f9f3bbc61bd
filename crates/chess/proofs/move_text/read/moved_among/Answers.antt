use Rattle.chess.proofs.Common.{said_by}
use Rattle.chess.proofs.NamedFacts.{said_only, said_none, said_several, none_given, some_given}
use Rattle.chess.proofs.move_text.read.moved_among.Goals as goal

pub returns-in_default : goal.returns-in_default
returns-in_default g c =
    said_none c.args.position.now (said_by c.args.said.now) c.candidate_origins.result
    c.candidate_origins.ensures c.in_default.ensures

pub returns-then-is_some : goal.returns-then-is_some
returns-then-is_some g c =
    let second =
    some_given _ _ c.next_origin-2.result c.is_some.result c.next_origin-2.ensures
    c.is_some.ensures c.if-is_some.true in
    said_several c.args.position.now (said_by c.args.said.now) _ _ _ _ _ c.candidate_origins.ensures
    c.in-Some.ensures second.1

pub returns : goal.returns
returns g c =
    let P = c.args.position.now in
    let said = said_by c.args.said.now in
    let none =
    none_given _ _ c.next_origin-2.result c.is_some.result c.next_origin-2.ensures
    c.is_some.ensures c.if-is_some.false in
    rw c.from.ensures (said_only P said _ _ _ c.candidate_origins.ensures c.in-Some.ensures none)
