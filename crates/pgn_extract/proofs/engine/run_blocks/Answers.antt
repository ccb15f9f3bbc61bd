use Rattle.pgn_extract.proofs.Common.{Err, ap, subst, refl, inl, inr, both_ways, false_from_ne_true}
use Rattle.pgn_extract.proofs.Common.{Reads, ReadError}
use Rattle.pgn_extract.proofs.engine.RunProgress.{faulty_fits, progress_start, nearer}
use Rattle.pgn_extract.proofs.engine.RunProgress.{progress_more}
use Rattle.pgn_extract.proofs.engine.RunProgress.{block_breaks, all_written, flush_breaks}
use Rattle.pgn_extract.proofs.engine.RunProgress.{read_breaks}
use Rattle.pgn_extract.proofs.engine.run_blocks.Goals as goal

pub loop-block-init : goal.loop-block-init
loop-block-init g c = (
  progress_start _ _ _ _ c.new-blocks.ensures c.requires.offset,
  c.requires.sound.0,
  c.requires.sound.1,
  c.requires.sound.2,
)

pub overflow_add-faulty : goal.overflow_add-faulty
overflow_add-faulty g c =
    let gives = rw (c.in-Ok-Some.is, c.in-Ok-Some.field-0-is) at c.next.follows.holds-at-none in
    let work = c.new-work.ensures in
    let done = rw (work.settings, work.number, work.block) at c.in-Ok.ensures.done in
    faulty_fits
    (progress_more c.loop-block.invariant.0 gives.2.1 gives.1 gives.2.2.1
    (done gives.2.0 gives.2.2.0))

pub loop-block-smaller : goal.loop-block-smaller
loop-block-smaller g c =
    let gives = rw (c.in-Ok-Some.is, c.in-Ok-Some.field-0-is) at c.next.follows.holds-at-none in
    nearer c.loop-block.invariant.0 gives.2.1

pub loop-block-preserved : goal.loop-block-preserved
loop-block-preserved g c =
    let gives = rw (c.in-Ok-Some.is, c.in-Ok-Some.field-0-is) at c.next.follows.holds-at-none in
    let work = c.new-work.ensures in
    let done = rw (work.settings, work.number, work.block) at c.in-Ok.ensures.done in (
      progress_more c.loop-block.invariant.0 gives.2.1 gives.1 gives.2.2.1
          (done gives.2.0 gives.2.2.0),
      false_from_ne_true _ (λ is. let k =
          c.in-Ok-Some.ensures.fault.1 (c.loop-block.invariant.1, is) in cc),
      false_from_ne_true _ (λ is. let k = c.in-Ok.ensures.faults.write.1 (inl is) in cc),
      false_from_ne_true _ (λ is. let k = c.in-Ok.ensures.faults.write.1 (inr is) in cc),
    )

pub returns-in-Err-put_block-clause-stopped : goal.returns-in-Err-put_block-clause-stopped
returns-in-Err-put_block-clause-stopped g c =
    let gives = rw (c.in-Ok-Some.is, c.in-Ok-Some.field-0-is) at c.next.follows.holds-at-none in
    let work = c.new-work.ensures in
    let stopped = rw (work.settings, work.number, work.block) at c.in-Err-put_block.ensures.stopped
    in
    block_breaks c.loop-block.invariant.0 _ gives.2.1 gives.1 gives.2.2.1
    (stopped gives.2.0 gives.2.2.0) c.in-Err-put_block.ensures.only

pub returns-in-Ok-finish_both-clause-done : goal.returns-in-Ok-finish_both-clause-done
returns-in-Ok-finish_both-clause-done g c =
    let gives = rw (c.in-Ok-None.is, c.in-Ok-None.field-0-is) at c.next.follows.holds-at-none in (
      all_written c.loop-block.invariant.0 gives.2.0 (subst (Reads _ _ _ _) gives.2.1 gives.1)
          c.finish_both.ensures.kept.0 c.finish_both.ensures.kept.1 refl refl,
      c.in-Ok-finish_both.ensures.flushed.0,
      c.in-Ok-finish_both.ensures.flushed.1,
    )

pub returns-in-Err-finish_both-clause-stopped : goal.returns-in-Err-finish_both-clause-stopped
returns-in-Err-finish_both-clause-stopped g c =
    let gives = rw (c.in-Ok-None.is, c.in-Ok-None.field-0-is) at c.next.follows.holds-at-none in
    flush_breaks c.loop-block.invariant.0 _ gives.2.0 (subst (Reads _ _ _ _) gives.2.1 gives.1)
    c.finish_both.ensures.kept.0 c.finish_both.ensures.kept.1 c.in-Err-finish_both.ensures.only

pub returns-in-Err-clause-stopped : goal.returns-in-Err-clause-stopped
returns-in-Err-clause-stopped g c =
    let gives = rw c.in-Err.is at c.next.follows.holds-at-none in
    rw c.of_read.ensures
    (read_breaks c.loop-block.invariant.0 gives.0 _ gives.1 gives.2.1
    (λ is. elim (c.in-Err.ensures.failed.0 (ap (λ (e : ReadError). Err e) is)) [
      | inl bad ↦ both_ways _ c.loop-block.invariant.0.sound.0 bad
      | inr bad ↦ both_ways _ c.loop-block.invariant.1 bad.1
    ])
    gives.2.2)
