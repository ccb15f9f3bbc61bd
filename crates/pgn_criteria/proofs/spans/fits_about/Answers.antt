use Rattle.pgn_criteria.proofs.SpanFacts.{reports_about, no_spans_hold}
use Rattle.pgn_criteria.specs.Private.Stages.{FitsAt}
use Rattle.pgn_criteria.proofs.spans.fits_about.Goals as goal

pub returns-then-is_free_of_spans : goal.returns-then-is_free_of_spans
returns-then-is_free_of_spans c =
    let none = no_spans_hold (FitsAt c.args.replayed.now c.args.alternative.now) c.args.plies
    c.args.alternative.now.spans (c.is_free_of_spans.ensures.0 c.if-is_free_of_spans.true) in
    (λ t. (c.fits_at.ensures.0 t, none), λ fits. c.fits_at.ensures.1 fits.0)

pub returns : goal.returns
returns c =
    let reports =
    reports_about c.args.replayed.now c.args.alternative.now c.args.plies c.run_from-run.result
    c.many_of-many.result c.run_from-run.ensures c.many_of-many.ensures in
    (λ t. reports.0 (c.stands_about.ensures.0 t), λ fits. c.stands_about.ensures.1 (reports.1 fits))
