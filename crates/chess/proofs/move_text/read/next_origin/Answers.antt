use Rattle.chess.proofs.Common.{◌≡◌, sym, subst, true, IsLegal, is_in}
use Rattle.chess.proofs.Common.{CanGoSaid, said_by}
use Rattle.chess.proofs.PlaceFacts.{true_not_false}
use Rattle.chess.proofs.LoopFacts.{fewer, left_start, left_more, left_none}
use Rattle.chess.proofs.NamedFacts.{next_found}
use Rattle.chess.proofs.move_text.read.next_origin.Goals as goal

pub loop-from-init : goal.loop-from-init
loop-from-init g c =
    left_start (λ s. is_in c.args.squares s ≡ true) (λ s. (is_in c.args.squares s ≡ true)
    × CanGoSaid c.args.position.now (said_by c.args.said.now) s) c.args.squares
    (λ s on holds. holds.0) (λ s on here. here)

pub loop-from-preserved : goal.loop-from-preserved
loop-from-preserved g c =
    left_more (λ s. is_in c.args.squares s ≡ true) (λ s. (is_in c.args.squares s ≡ true)
    × CanGoSaid c.args.position.now (said_by c.args.said.now) s)
    c.loop-from.left c.take_first.new.self c.in-Some.from c.loop-from.invariant
    (rw c.in-Some.is at c.take_first.ensures)
    (λ holds.
    true_not_false c.is_legal.result
    (c.is_legal.ensures.1 (subst (IsLegal c.args.position.now) (sym c.from.ensures) holds.1))
    c.if-is_legal.false)

pub returns : goal.returns
returns g c s on here fits =
    left_none (λ s. is_in c.args.squares s ≡ true) (λ s. (is_in c.args.squares s ≡ true)
    × CanGoSaid c.args.position.now (said_by c.args.said.now) s)
    c.loop-from.left c.take_first.new.self c.loop-from.invariant
    (rw c.in_default.is at c.take_first.ensures)
    s on (here, fits)

pub returns-then-is_legal : goal.returns-then-is_legal
returns-then-is_legal g c =
    next_found (CanGoSaid c.args.position.now (said_by c.args.said.now)) c.args.squares
    c.loop-from.left c.take_first.new.self c.in-Some.from
    c.loop-from.invariant
    (rw c.in-Some.is at c.take_first.ensures)
    (subst (IsLegal c.args.position.now) c.from.ensures (c.is_legal.ensures.0 c.if-is_legal.true))

pub loop-from-smaller : goal.loop-from-smaller
loop-from-smaller g c =
    fewer c.loop-from.left c.take_first.new.self c.in-Some.from
    (rw c.in-Some.is at c.take_first.ensures)
