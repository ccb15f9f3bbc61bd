use Rattle.chess.proofs.Common.{sym, subst, IsPseudoLegal, IsLegal}
use Rattle.chess.proofs.Common.{said_by}
use Rattle.chess.proofs.PlaceFacts.{true_not_false}
use Rattle.chess.proofs.LoopFacts.{taken_none}
use Rattle.chess.proofs.move_text.CandidateFacts.{none_said, not_said, the_said}
use Rattle.chess.proofs.move_text.read.moved_by.Goals as goal

pub returns-in_default : goal.returns-in_default
returns-in_default g c =
    none_said c.args.position.now (said_by c.args.said.now) c.args.candidates c.requires
    (taken_none c.args.candidates c.take_first.new.self c.take_first.result c.take_first.ensures
    c.in_default.is)

pub exposes_king-requires-clause-pseudo_legal : goal.exposes_king-requires-clause-pseudo_legal
exposes_king-requires-clause-pseudo_legal g c =
    let capture_square =
    rw c.in-Some.is at c.take_first.ensures in
    subst (IsPseudoLegal c.args.position.now) (sym c.from-m.ensures)
    ((c.requires c.in-Some.from).0 capture_square.1).1.rules

pub exposes_king-requires-clause-man : goal.exposes_king-requires-clause-man
exposes_king-requires-clause-man g c =
    let capture_square =
    rw c.in-Some.is at c.take_first.ensures in
    rw (
      c.from-m.ensures,
      c.side.ensures,
      c.kind.ensures,
    ) ((c.requires c.in-Some.from).0 capture_square.1).1.here

pub returns-then-exposes_king : goal.returns-then-exposes_king
returns-then-exposes_king g c =
    let P = c.args.position.now in
    not_said P (said_by c.args.said.now) c.args.candidates c.take_first.new.self c.in-Some.from
    c.requires
    (rw c.in-Some.is at c.take_first.ensures)
    (λ some. true_not_false c.has_some.result (c.has_some.ensures.1 some) c.if-has_some.false)
    (λ legal.
    (subst (IsLegal P) (sym c.from-m.ensures) legal).safe
    (c.exposes_king.ensures.0 c.if-exposes_king.true))

pub returns : goal.returns
returns g c =
    let P = c.args.position.now in
    let said = said_by c.args.said.now in
    let capture_square =
    rw c.in-Some.is at c.take_first.ensures in
    let legal : IsLegal P c.from-m.result = record {
      pseudo_legal =
          subst (IsPseudoLegal P) (sym c.from-m.ensures)
          ((c.requires c.in-Some.from).0 capture_square.1).1.rules;
      safe = λ check. true_not_false c.exposes_king.result (c.exposes_king.ensures.1 check)
          c.if-exposes_king.false;
      unbarred = rw (c.from-m.ensures) tt;
    } in
    rw c.from-m.ensures (the_said P said c.args.candidates c.take_first.new.self c.in-Some.from
    c.requires capture_square (λ some. true_not_false c.has_some.result (c.has_some.ensures.1 some)
    c.if-has_some.false) (subst (IsLegal P) c.from-m.ensures legal))
