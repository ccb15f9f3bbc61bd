use Rattle.chess.proofs.Common.{◌≡◌, true, false, refl}
use Rattle.chess.proofs.PlaceFacts.{true_not_false}
use Rattle.chess.proofs.LoopFacts.{fewer, left_more, left_none}
use Rattle.chess.proofs.board.AttackerFacts.{IsOpenFrom, seek_start, found_open}
use Rattle.chess.proofs.board.attack_tables.has_unblocked.Goals as goal

pub loop-square-init : goal.loop-square-init
loop-square-init c =
    seek_start c.args.target c.args.squares c.args.occupied c.of_bitboard-left.result
    c.of_bitboard-left.ensures

pub loop-square-preserved : goal.loop-square-preserved
loop-square-preserved c =
    left_more _ (IsOpenFrom c.args.target c.args.squares c.args.occupied) c.loop-square.left
    c.take_first.new.self c.in-Some.square
    c.loop-square.invariant
    (rw c.in-Some.is at c.take_first.ensures)
    (λ free.
    true_not_false c.is_unblocked.result (c.is_unblocked.ensures.1 free.1)
    c.if-is_unblocked.false)

pub returns-then-is_unblocked : goal.returns-then-is_unblocked
returns-then-is_unblocked c p men =
    let capture_square =
    rw c.in-Some.is at c.take_first.ensures in
    let free = (found_open p c.args.target c.args.squares c.args.occupied c.in-Some.square men).0 (
      c.loop-square.invariant.within c.in-Some.square capture_square.0 capture_square.1,
      c.is_unblocked.ensures.0 c.if-is_unblocked.true,
    ) in
    ((λ e. (c.in-Some.square, capture_square.0, free.0, free.1)), (λ h. refl))

pub returns : goal.returns
returns c p men = (
  (λ e. let f : false ≡ true = e in absurd (cc)),
  (λ h. absurd
      (left_none _ (IsOpenFrom c.args.target c.args.squares c.args.occupied) c.loop-square.left
      c.take_first.new.self
      c.loop-square.invariant
      (rw c.in_default.is at c.take_first.ensures)
      h.0 h.1 ((found_open p c.args.target c.args.squares c.args.occupied h.0 men).1 (h.2, h.3)))),
)

pub loop-square-smaller : goal.loop-square-smaller
loop-square-smaller c =
    fewer c.loop-square.left c.take_first.new.self c.in-Some.square
    (rw c.in-Some.is at c.take_first.ensures)
