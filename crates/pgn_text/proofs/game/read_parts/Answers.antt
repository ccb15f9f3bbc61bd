use Rattle.pgn_text.proofs.Common.{inl, arith, state_of, depth_limit}
use Rattle.pgn_text.proofs.PartsAt.{no_part_at_end}
use Rattle.pgn_text.proofs.game.PlainLemmas.{kept_plain}
use Rattle.pgn_text.proofs.game.ReadLemmas.{kept_start, kept_more, kept_whites, kept_dots}
use Rattle.pgn_text.proofs.game.ReadLemmas.{kept_stuck, kept_end}
use Rattle.pgn_text.proofs.game.read_parts.Goals as goal

pub loop-at-init : goal.loop-at-init
loop-at-init g c =
    kept_start (g.K.TokenVisitor.kept c.args.visitor.now) depth_limit c.args.file_start
    c.args.block.now
    c.args.begin (state_of c.start-progress.result)
    c.requires.place c.start-progress.ensures

pub loop-at-preserved-in-Part : goal.loop-at-preserved-in-Part
loop-at-preserved-in-Part g c =
    kept_whites (kept_more c.loop-at.invariant (rw c.in-Part.is at c.in_ok-end.ensures))
    c.run_end-at.ensures

pub loop-at-preserved-in-Move : goal.loop-at-preserved-in-Move
loop-at-preserved-in-Move g c =
    let move = rw c.in-Move.is at c.in_ok-end.ensures in
    kept_plain (kept_whites (kept_more c.loop-at.invariant move.0) c.run_end.ensures) move.1 move.2
    c.in_ok-at-in-Move.ensures.1 c.in_ok-at-in-Move.ensures.2

pub loop-at-preserved : goal.loop-at-preserved
loop-at-preserved g c =
    let number = rw c.in-Number.is at c.in_ok-end.ensures in
    kept_whites
    (kept_dots number.1 (kept_more c.loop-at.invariant number.0) c.run_end-dots.ensures)
    c.run_end-at-in-Number.ensures

pub run_end-requires-then-is_in : goal.run_end-requires-then-is_in
run_end-requires-then-is_in g c =
    (c.in_ok-last-in-Number.ensures c.args.file_start).0.here.found.within

pub loop-at-preserved-then-is_in : goal.loop-at-preserved-then-is_in
loop-at-preserved-then-is_in g c =
    let number = rw c.in-Number.is at c.in_ok-end.ensures in
    let move = c.in_ok-last-in-Number.ensures c.args.file_start in
    kept_plain
    (kept_whites
    (kept_more
    (kept_whites
    (kept_dots number.1 (kept_more c.loop-at.invariant number.0) c.run_end-dots.ensures)
    c.run_end-at-in-Number.ensures) move.0) c.run_end-then-is_in.ensures) move.1 move.2
    c.in_ok-at-in-Number.ensures.1 c.in_ok-at-in-Number.ensures.2

pub loop-at-smaller-then-is_in : goal.loop-at-smaller-then-is_in
loop-at-smaller-then-is_in g c =
    let number = rw c.in-Number.is at c.in_ok-end.ensures in
    let move = c.in_ok-last-in-Number.ensures c.args.file_start in
    let plain = c.in_ok-at-in-Number.ensures.1 in
    omega (
      arith,
      number.0.here.found.forward,
      c.run_end-dots.ensures.forward,
      c.run_end-at-in-Number.ensures.forward,
      move.0.here.found.forward,
      c.run_end-then-is_in.ensures.forward,
      plain.forward,
      plain.within,
    )

pub returns-in-Result : goal.returns-in-Result
returns-in-Result g c =
    kept_end c.loop-at.invariant c.requires.outside (rw c.in-Result.is at c.in_ok-end.ensures)

pub returns-in-Stuck : goal.returns-in-Stuck
returns-in-Stuck g c = kept_stuck c.loop-at.invariant (rw c.in-Stuck.is at c.in_ok-end.ensures)

pub returns : goal.returns
returns g c =
    kept_stuck c.loop-at.invariant
    (inl (no_part_at_end c.args.file_start c.args.block.now c.loop-at.at (omega arith)))
