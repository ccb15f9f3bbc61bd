use Rattle.pgn_extract.proofs.Common.{◌∙◌, refl, inl, inr, err_from_is_err_and, aim_of, game_id}
use Rattle.pgn_extract.proofs.BlockWritten.{front_none, written_soundly}
use Rattle.pgn_extract.proofs.engine.Listed.{listed_none, listed_passing, listed_passed}
use Rattle.pgn_extract.proofs.engine.Listed.{listed_begun, listed_begun_in, listed_all}
use Rattle.pgn_extract.proofs.engine.piecewise.report_games.Goals as goal

pub loop-piece-init : goal.loop-piece-init
loop-piece-init g c = (
  listed_none (aim_of c.args.work.settings.now) _ c.args.bytes.now _
      (game_id c.args.work.number c.args.work.block.offset) _ _
      (c.into_iter-piece-iterator.ensures.into_iter_gives ∙ c.games-piece-items.ensures)
      c.clear.ensures.output c.clear.ensures.faults c.clear.ensures.counts.0
      c.clear.ensures.counts.1,
  c.requires.sound.0,
  c.requires.sound.1,
)

pub loop-piece-preserved : goal.loop-piece-preserved
loop-piece-preserved g c =
    let takes = rw c.in_ok-piece.was at c.in-Some.ensures.steps in
    let begins = c.into_iter-piece-iterator.ensures.into_iter_gives ∙ c.games-piece-items.ensures in
    let more = listed_passing c.loop-piece.invariant.0 c.args.bytes.now _ begins takes refl
    c.in_ok-put_piece.ensures.done in
    let sound = written_soundly c.in_ok-put_large.ensures.faults in
    (listed_passed more c.in_ok-put_large.ensures.ok, sound.0, sound.1)

pub returns-in_err-piece-clause-stopped : goal.returns-in_err-piece-clause-stopped
returns-in_err-piece-clause-stopped g c =
    let p = err_from_is_err_and c.from_residual.result c.from_residual.ensures.1 in
    rw p.1
    (listed_begun c.loop-piece.invariant.0 c.args.bytes.now
    (c.into_iter-piece-iterator.ensures.into_iter_gives
    ∙ c.games-piece-items.ensures) c.requires.size (front_none _ _) (front_none _ _))

pub returns-in_err-put_piece-clause-stopped : goal.returns-in_err-put_piece-clause-stopped
returns-in_err-put_piece-clause-stopped g c =
    let p = err_from_is_err_and c.from_residual-in_err-put_piece.result
    c.from_residual-in_err-put_piece.ensures.1 in
    let takes = rw c.in_ok-piece.was at c.in-Some.ensures.steps in
    let begins = c.into_iter-piece-iterator.ensures.into_iter_gives ∙ c.games-piece-items.ensures in
    let was = c.loop-piece.invariant.0 in
    rw p.1 (elim c.in_err-put_piece.ensures.stopped [
      | inl (output, faults) ↦
          listed_begun was c.args.bytes.now begins c.requires.size output faults
      | inr of ↦ listed_begun_in was c.args.bytes.now _ begins takes refl c.requires.size of
    ])

pub returns-in_err-put_large-clause-stopped : goal.returns-in_err-put_large-clause-stopped
returns-in_err-put_large-clause-stopped g c =
    let p = err_from_is_err_and c.from_residual-in_err-put_large.result
    c.from_residual-in_err-put_large.ensures.1 in
    let takes = rw c.in_ok-piece.was at c.in-Some.ensures.steps in
    rw p.1
    (listed_begun
    (listed_passing c.loop-piece.invariant.0 c.args.bytes.now _
    (c.into_iter-piece-iterator.ensures.into_iter_gives
    ∙ c.games-piece-items.ensures) takes refl c.in_ok-put_piece.ensures.done) c.args.bytes.now
    (c.into_iter-piece-iterator.ensures.into_iter_gives
    ∙ c.games-piece-items.ensures) c.requires.size
    c.in_err-put_large.ensures.err.0 c.in_err-put_large.ensures.err.1)

pub returns-clause-done : goal.returns-clause-done
returns-clause-done g c =
    listed_all c.loop-piece.invariant.0 c.args.bytes.now
    (c.into_iter-piece-iterator.ensures.into_iter_gives
    ∙ c.games-piece-items.ensures) c.requires.size c.in-None.ensures.steps.0
