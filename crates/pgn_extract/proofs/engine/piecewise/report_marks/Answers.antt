use Rattle.pgn_extract.proofs.Common.{◌∙◌, refl, err_from_is_err_and, aim_of, game_id}
use Rattle.pgn_extract.proofs.BlockWritten.{front_none, written_soundly}
use Rattle.pgn_extract.proofs.engine.Indexed.{indexed_none, indexed_more, indexed_passed}
use Rattle.pgn_extract.proofs.engine.Indexed.{indexed_begun}
use Rattle.pgn_extract.proofs.engine.Indexed.{indexed_all}
use Rattle.pgn_extract.proofs.engine.piecewise.report_marks.Goals as goal

pub loop-mark-init : goal.loop-mark-init
loop-mark-init g c = (
  indexed_none (aim_of c.args.work.settings.now) _ c.args.bytes.now _
      (game_id c.args.work.number c.args.work.block.offset) _ _
      (c.into_iter-mark-iterator.ensures.into_iter_gives ∙ c.marks-mark-items.ensures)
      c.clear.ensures.output c.clear.ensures.faults c.clear.ensures.counts.0
      c.clear.ensures.counts.1,
  c.requires.sound.0,
  c.requires.sound.1,
)

pub loop-mark-preserved : goal.loop-mark-preserved
loop-mark-preserved g c =
    let sound = written_soundly c.in_ok-put_large.ensures.faults in (
      indexed_passed
          (indexed_more c.loop-mark.invariant.0 c.args.bytes.now c.in-Some.mark
          (c.into_iter-mark-iterator.ensures.into_iter_gives
          ∙ c.marks-mark-items.ensures) c.requires.mode c.in-Some.ensures.steps refl
          c.in_ok-add_mark.ensures)
          c.in_ok-put_large.ensures.ok,
      sound.0,
      sound.1,
    )

pub returns-in_err-add_mark-clause-stopped : goal.returns-in_err-add_mark-clause-stopped
returns-in_err-add_mark-clause-stopped g c =
    let p = err_from_is_err_and c.from_residual.result c.from_residual.ensures.1 in
    rw p.1
    (indexed_begun c.loop-mark.invariant.0 c.args.bytes.now
    (c.into_iter-mark-iterator.ensures.into_iter_gives
    ∙ c.marks-mark-items.ensures) c.requires.size (front_none _ _) (front_none _ _))

pub returns-in_err-put_large-clause-stopped : goal.returns-in_err-put_large-clause-stopped
returns-in_err-put_large-clause-stopped g c =
    let p = err_from_is_err_and c.from_residual-in_err-put_large.result
    c.from_residual-in_err-put_large.ensures.1 in
    rw p.1
    (indexed_begun
    (indexed_more c.loop-mark.invariant.0 c.args.bytes.now c.in-Some.mark
    (c.into_iter-mark-iterator.ensures.into_iter_gives
    ∙ c.marks-mark-items.ensures) c.requires.mode c.in-Some.ensures.steps refl
    c.in_ok-add_mark.ensures)
    c.args.bytes.now (c.into_iter-mark-iterator.ensures.into_iter_gives
    ∙ c.marks-mark-items.ensures) c.requires.size
    c.in_err-put_large.ensures.err.0 c.in_err-put_large.ensures.err.1)

pub returns-clause-done : goal.returns-clause-done
returns-clause-done g c =
    indexed_all c.loop-mark.invariant.0 c.args.bytes.now
    (c.into_iter-mark-iterator.ensures.into_iter_gives
    ∙ c.marks-mark-items.ensures) c.requires.size c.in-None.ensures.steps.0
