use Rattle.pgn_extract.proofs.Common.{ap, ◌∙◌, err_from_is_err_and}
use Rattle.pgn_extract.proofs.app.SeveralFacts.{read_to_end}
use Rattle.pgn_extract.proofs.app.StoppedFiles.{stops_at_line, stops_to_end}
use Rattle.pgn_extract.specs.Public.Several.{order_of}
use Rattle.pgn_extract.proofs.app.files.run_input.Goals as goal

pub returns-clause-read : goal.returns-clause-read
returns-clause-read g c =
    read_to_end (order_of c.args.task.now) (g.I.Read.remaining c.args.input)
    (g.I.Read.remaining c.new-input.result.inner.inner) c.new-input.result.inner.limit
    _ c.in_ok-own.own (g.E.Write.contents c.put_own_summary.new.err.inner)
    (ap (λ input. input.inner.limit) c.new-input.ensures ∙ c.take.ensures.limit)
    (ap (λ input. g.I.Read.remaining input.inner.inner) c.new-input.ensures
    ∙ ap g.I.Read.remaining c.take.ensures.inner)
    c.in_ok-own.ensures.done.0 c.in_ok-put_own_summary.ensures.line

pub returns-in_err-own-clause-stopped : goal.returns-in_err-own-clause-stopped
returns-in_err-own-clause-stopped g c =
    let p = err_from_is_err_and c.from_residual.result c.from_residual.ensures.1 in
    rw p.1
    (rw p.2
    (stops_to_end _ (order_of c.args.task.now) (g.I.Read.remaining c.args.input)
    (g.I.Read.remaining c.new-input.result.inner.inner) c.new-input.result.inner.limit
    _ (ap (λ input. input.inner.limit) c.new-input.ensures ∙ c.take.ensures.limit)
    (ap (λ input. g.I.Read.remaining input.inner.inner) c.new-input.ensures
    ∙ ap g.I.Read.remaining c.take.ensures.inner)
    c.in_err-own.ensures.stopped))

pub returns-in_err-put_own_summary-clause-stopped : goal.returns-in_err-put_own_summary-clause-stopped
returns-in_err-put_own_summary-clause-stopped g c =
    let p = err_from_is_err_and c.from_residual-in_err-put_own_summary.result
    c.from_residual-in_err-put_own_summary.ensures.1 in
    rw p.1
    (rw p.2
    (stops_at_line _ (order_of c.args.task.now) (g.I.Read.remaining c.args.input)
    (g.I.Read.remaining c.new-input.result.inner.inner) c.new-input.result.inner.limit
    _ c.in_ok-own.own _ c.in_err-put_own_summary.ensures.only
    (ap (λ input. input.inner.limit) c.new-input.ensures ∙ c.take.ensures.limit)
    (ap (λ input. g.I.Read.remaining input.inner.inner) c.new-input.ensures
    ∙ ap g.I.Read.remaining c.take.ensures.inner)
    c.in_ok-own.ensures.done.0 c.in_err-put_own_summary.ensures.left))
