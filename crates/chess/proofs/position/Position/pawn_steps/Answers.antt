use Rattle.chess.proofs.Common.{None, IsMover}
use Rattle.chess.proofs.Common.{Pawn}
use Rattle.chess.proofs.LoopFacts.{fewer, left_start, left_more}
use Rattle.chess.proofs.position.Position.pawn_steps.Goals as goal

pub loop-from-init : goal.loop-from-init
loop-from-init g c =
    let P = c.args.self.now in
    left_start (IsMover P Pawn) (λ s. ⊥) c.squares_of-left.result (λ s on clash. absurd clash)
    (λ s on in_set.
    rw (← c.side.ensures) ((c.squares_of-left.ensures s).0 in_set).1)

pub loop-from-preserved : goal.loop-from-preserved
loop-from-preserved g c =
    left_more (IsMover c.args.self.now Pawn) (λ s.
    ⊥) c.loop-from.left c.take_first.new.self c.in-Some.from c.loop-from.invariant
    (rw c.in-Some.is at c.take_first.ensures)
    (λ clash. clash)

pub ahead_of_pawn-to-requires : goal.ahead_of_pawn-to-requires
ahead_of_pawn-to-requires g c = let capture_square = c.in-Some.ensures in
    c.loop-from.invariant.within c.in-Some.from capture_square.0 capture_square.1

pub can_step-requires : goal.can_step-requires
can_step-requires g c =
    let capture_square = c.in-Some.ensures in
    record {
      pawn = c.loop-from.invariant.within c.in-Some.from capture_square.0 capture_square.1;
      step = (
        c.ahead_of_pawn-to.ensures.file,
        c.ahead_of_pawn-to.ensures.rank,
        c.is_empty.ensures.0 c.if-is_empty.true,
      );
      stays = rw (← c.side-then-is_empty.ensures) (c.promotes.ensures.0 c.if-promotes.true);
    }

pub returns-then-promotes : goal.returns-then-promotes
returns-then-promotes g c =
    λ e. (c.in-Some.from, c.ahead_of_pawn-to.result, (None, None, c.can_step.ensures e))

pub loop-from-smaller : goal.loop-from-smaller
loop-from-smaller g c =
    fewer c.loop-from.left c.take_first.new.self c.in-Some.from
    (rw c.in-Some.is at c.take_first.ensures)
