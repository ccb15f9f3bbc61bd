use Rattle.chess.proofs.Common.{◌≡◌, ap, sym, subst, refl, None, Some, Ok, Err}
use Rattle.chess.proofs.Common.{IsPseudoLegal, IsLegal, HasRival, kind_said, said_by}
use Rattle.chess.proofs.Common.{move_from, Pawn, Move}
use Rattle.chess.specs.declared.move_text.SanError.TheVariants.{None as NoMove}
use Rattle.chess.proofs.PlaceFacts.{true_not_false}
use Rattle.chess.proofs.LoopFacts.{taken_none}
use Rattle.chess.proofs.NamedFacts.{named_said, read_no_castling}
use Rattle.chess.proofs.move_text.CandidateFacts.{none_said, not_said, the_said, no_rival}
use Rattle.chess.proofs.move_text.play.play_candidate.Goals as goal

pub returns-in_default-clause-answer : goal.returns-in_default-clause-answer
returns-in_default-clause-answer g c =
    let P = c.args.position.now in
    let said = said_by c.args.said.now in
    named_said P c.args.text.now None (Some said) said (Err NoMove)
    (read_no_castling c.args.text.now c.args.said.now c.requires.read) refl c.requires.read refl
    (none_said P said c.args.candidates c.requires.candidates
    (taken_none c.args.candidates c.take_first.new.self c.take_first.result c.take_first.ensures
    c.in_default.is))

pub try_move-requires-clause-pseudo_legal : goal.try_move-requires-clause-pseudo_legal
try_move-requires-clause-pseudo_legal g c =
    let capture_square =
    rw c.in-Some.is at c.take_first.ensures in
    subst (IsPseudoLegal c.args.position.now) (sym c.from-m.ensures)
    ((c.requires.candidates c.in-Some.from).0 capture_square.1).1.rules

pub try_move-requires-clause-man : goal.try_move-requires-clause-man
try_move-requires-clause-man g c =
    let capture_square =
    rw c.in-Some.is at c.take_first.ensures in
    rw (
      c.from-m.ensures,
      c.side.ensures,
      c.kind.ensures,
    ) ((c.requires.candidates c.in-Some.from).0 capture_square.1).1.here

pub returns-then-not-try_move-clause-answer : goal.returns-then-not-try_move-clause-answer
returns-then-not-try_move-clause-answer g c =
    let P = c.args.position.now in
    let said = said_by c.args.said.now in
    named_said P c.args.text.now None (Some said) said (Err NoMove)
    (read_no_castling c.args.text.now c.args.said.now c.requires.read) refl c.requires.read refl
    (not_said P said c.args.candidates c.take_first.new.self c.in-Some.from c.requires.candidates
    (rw c.in-Some.is at c.take_first.ensures)
    (λ some. true_not_false c.has_some.result (c.has_some.ensures.1 some) c.if-has_some.false)
    (λ legal.
    true_not_false c.try_move.result
    (c.try_move.ensures.legal.1 (subst (IsLegal P) (sym c.from-m.ensures) legal))
    c.if-not-try_move.true))

pub returns-clause-answer : goal.returns-clause-answer
returns-clause-answer g c =
    let P = c.args.position.now in
    let said = said_by c.args.said.now in
    named_said P c.args.text.now None (Some said) said (Ok c.from-m.result)
    (read_no_castling c.args.text.now c.args.said.now c.requires.read) refl c.requires.read refl
    (rw (← c.from-m.ensures) at (the_said P said c.args.candidates c.take_first.new.self
    c.in-Some.from c.requires.candidates (rw c.in-Some.is at c.take_first.ensures) (λ some.
    true_not_false c.has_some.result (c.has_some.ensures.1 some) c.if-has_some.false) (subst
    (IsLegal P) c.from-m.ensures (c.try_move.ensures.legal.0 c.if-not-try_move.false))))

pub returns-clause-written : goal.returns-clause-written
returns-clause-written g c =
    let P = c.args.position.now in
    let said = said_by c.args.said.now in
    let capture_square =
    rw c.in-Some.is at c.take_first.ensures in
    let candidate = ((c.requires.candidates c.in-Some.from).0 capture_square.1).1 in
    let lone : (kind_said said.letter ≡ Pawn → ⊥)
    → ¬ HasRival P (move_from said c.in-Some.from) (λ s. Unit {0}) = λ piece.
    no_rival P said c.args.candidates c.take_first.new.self c.in-Some.from c.invariant.ensures piece
    (c.requires.asked piece) c.requires.candidates capture_square
    (λ some. true_not_false c.has_some.result (c.has_some.ensures.1 some) c.if-has_some.false) in
    c.write.ensures P (ap (λ (m : Move). m.castle) c.from-m.ensures)
    (rw (c.from-m.ensures, c.side.ensures, c.kind.ensures) candidate.here) c.takes-takes.ensures
    (rw (c.from-m.ensures, c.kind.ensures) lone) c.if-not-try_move.ensures.moved
