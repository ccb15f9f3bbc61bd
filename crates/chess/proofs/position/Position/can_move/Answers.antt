use Rattle.chess.proofs.Common.{◌≡◌, subst, true, false, Option, Some, refl, Place, IsTakenFirst}
use Rattle.chess.proofs.Common.{IsMover, CanLeave}
use Rattle.chess.proofs.PlaceFacts.{true_not_false}
use Rattle.chess.proofs.LoopFacts.{fewer, left_more, left_none}
use Rattle.chess.proofs.position.Position.can_move.Goals as goal

pub loop-from-preserved : goal.loop-from-preserved
loop-from-preserved g c =
    left_more (λ s. IsMover c.args.self.now c.args.kind s) (λ s.
    IsMover c.args.self.now c.args.kind s × CanLeave c.args.self.now s)
    c.loop-from.left c.take_first.new.self c.in-Some.from
    c.loop-from.invariant
    (rw c.in-Some.is at c.take_first.ensures)
    (λ moves.
    true_not_false c.can_leave.result (c.can_leave.ensures.1 moves.1) c.if-can_leave.false)

pub returns-then-can_leave : goal.returns-then-can_leave
returns-then-can_leave g c =
    let capture_square : IsTakenFirst c.loop-from.left c.take_first.new.self (Some c.in-Some.from) =
    subst (λ (o : Option Place). IsTakenFirst c.loop-from.left c.take_first.new.self o) c.in-Some.is
    c.take_first.ensures in (
      (λ e. (
        c.in-Some.from,
        capture_square.0,
        c.loop-from.invariant.within c.in-Some.from capture_square.0 capture_square.1,
        c.can_leave.ensures.0 c.if-can_leave.true,
      )),
      (λ h. refl),
    )

pub returns : goal.returns
returns g c = (
  (λ e. let f : false ≡ true = e in absurd (cc)),
  (λ h. absurd (left_none (λ s. IsMover c.args.self.now c.args.kind s) (λ s.
      IsMover c.args.self.now c.args.kind s × CanLeave c.args.self.now s)
      c.loop-from.left c.take_first.new.self c.loop-from.invariant
      (rw c.in_default.is at c.take_first.ensures) h.0 h.1 (h.2, h.3))),
)

pub loop-from-smaller : goal.loop-from-smaller
loop-from-smaller g c =
    fewer c.loop-from.left c.take_first.new.self c.in-Some.from
    (rw c.in-Some.is at c.take_first.ensures)
