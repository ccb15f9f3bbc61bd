use Rattle.std.proofs.lemmas.Result.{err_from_is_err_and}
use Rattle.pgn_extract.proofs.BlockWritten.{writes_rest, begins_rest}
use Rattle.pgn_extract.proofs.engine.piecewise.put_block.Goals as goal

pub returns-clause-done : goal.returns-clause-done
returns-clause-done g c = λ bytes shows.
    writes_rest (c.in_ok-report_block.ensures.done bytes shows) c.in_ok-put_report.ensures.ok.0
    c.in_ok-put_report.ensures.ok.1

pub returns-in_err-put_report-clause-stopped : goal.returns-in_err-put_report-clause-stopped
returns-in_err-put_report-clause-stopped g c =
    let p = err_from_is_err_and c.from_residual-in_err-put_report.result
    c.from_residual-in_err-put_report.ensures.1 in
    rw p.1 (λ bytes shows.
    begins_rest (c.in_ok-report_block.ensures.done bytes shows)
    c.in_err-put_report.ensures.err.0 c.in_err-put_report.ensures.err.1)
