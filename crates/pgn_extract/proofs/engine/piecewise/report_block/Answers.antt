use Rattle.pgn_extract.proofs.Common.{[], ◌∷◌, refl, arith, err_from_is_err_and, over}
use Rattle.pgn_extract.proofs.Common.{too_long_piece}
use Rattle.pgn_extract.proofs.BlockWritten.{begins_none}
use Rattle.pgn_extract.proofs.engine.Gathered.{gathers_all}
use Rattle.pgn_extract.proofs.engine.piecewise.report_block.Goals as goal

pub returns-in_err-report_too_long-in-TooLong-clause-stopped : goal.returns-in_err-report_too_long-in-TooLong-clause-stopped
returns-in_err-report_too_long-in-TooLong-clause-stopped g c =
    let p = err_from_is_err_and c.from_residual.result c.from_residual.ensures.1 in
    rw p.1 (λ bytes shows. begins_none _ _ _ _ bytes _ _)

pub returns-in_ok-report_too_long-in-TooLong-clause-done : goal.returns-in_ok-report_too_long-in-TooLong-clause-done
returns-in_ok-report_too_long-in-TooLong-clause-done g c = λ bytes shows.
    let long = (rw c.in-TooLong.is at shows).0 in record {
      own = too_long_piece c.args.work.block.offset ∷ [];
      each = over long refl;
      written = gathers_all _ _ c.in_ok-report_too_long-in-TooLong.ensures;
      few = omega arith;
    }
