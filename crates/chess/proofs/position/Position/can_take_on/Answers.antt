use Rattle.chess.proofs.Common.{◌≡◌, true, false, refl}
use Rattle.chess.proofs.PlaceFacts.{true_not_false}
use Rattle.chess.proofs.LoopFacts.{fewer, left_start, left_more, left_none}
use Rattle.chess.proofs.EnPassantFacts.{IsBeside, IsTakenFrom, taken_from, takes_from}
use Rattle.chess.proofs.position.Position.can_take_on.Goals as goal

pub loop-from-init : goal.loop-from-init
loop-from-init g c =
    let P = c.args.self.now in
    let square = c.args.square in
    left_start (IsBeside P square) (IsTakenFrom P square) c.attackers_from-left.result
    (λ s on from. (c.attackers_from-left.ensures s).1 (
      on,
      rw c.side.ensures ((c.all.ensures s).1 (on, on), from.0.0, from.0.1),
    ))
    (λ s on in_set.
    let is = ((c.attackers_from-left.ensures s).0 in_set).1 in
    rw (← c.side.ensures) (is.1, is.2))

pub loop-from-preserved : goal.loop-from-preserved
loop-from-preserved g c =
    left_more (IsBeside c.args.self.now c.args.square) (IsTakenFrom c.args.self.now c.args.square)
    c.loop-from.left c.take_first.new.self c.in-Some.from c.loop-from.invariant
    (rw c.in-Some.is at c.take_first.ensures)
    (λ from. true_not_false c.can_go_plainly.result (c.can_go_plainly.ensures.1 from.1)
    c.if-can_go_plainly.false)

pub returns-then-can_go_plainly : goal.returns-then-can_go_plainly
returns-then-can_go_plainly g c =
    let first = rw c.in-Some.is at c.take_first.ensures in
    let beside = c.loop-from.invariant.within c.in-Some.from first.0 first.1 in (
      (λ e. (
        _,
        takes_from c.args.self.now c.args.square c.in-Some.from c.requires
            (beside, c.can_go_plainly.ensures.0 c.if-can_go_plainly.true),
      )),
      (λ h. refl),
    )

pub returns : goal.returns
returns g c = (
  (λ e. let f : false ≡ true = e in absurd (cc)),
  (λ taken. absurd (left_none (IsBeside c.args.self.now c.args.square)
      (IsTakenFrom c.args.self.now c.args.square) c.loop-from.left c.take_first.new.self
      c.loop-from.invariant (rw c.in_default.is at c.take_first.ensures) taken.0.from
      taken.1.legal.pseudo_legal.from
      (taken_from c.args.self.now c.args.square taken.0 c.invariant.ensures c.requires taken.1))),
)

pub loop-from-smaller : goal.loop-from-smaller
loop-from-smaller g c =
    fewer c.loop-from.left c.take_first.new.self c.in-Some.from
    (rw c.in-Some.is at c.take_first.ensures)
