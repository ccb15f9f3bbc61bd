use Rattle.pgn_criteria.proofs.Common.{◌≡◌, ℕ, [], Option, Some, None, Replay, FitsAt, FitsAbout}
use Rattle.pgn_criteria.proofs.Common.{IsFirstBefore, Conditions}
use Rattle.pgn_criteria.proofs.SpanFacts.{no_spans_hold}
use Rattle.pgn_criteria.proofs.meets.first_of.Goals as goal

-- without `for` and `count` nothing more is asked
first_fits : (replay : Replay) (conditions : Conditions) (from end : ℕ) (found : Option ℕ)
    → conditions.spans ≡ [] → IsFirstBefore (FitsAt replay conditions) from end found
    → IsFirstBefore (FitsAbout replay conditions) from end found
first_fits replay conditions from end None none first = λ n low less fits. first n low less fits.0
first_fits replay conditions from end (Some n) none first = (
  first.0,
  first.1,
  (first.2, no_spans_hold (FitsAt replay conditions) n conditions.spans none),
  λ m low less fits. first.3 m low less fits.0,
)

pub returns-then-is_free_of_spans : goal.returns-then-is_free_of_spans
returns-then-is_free_of_spans c =
    first_fits c.args.replayed.now c.args.alternative.now c.args.from c.args.end c.first_fit.result
    (c.is_free_of_spans.ensures.0 c.if-is_free_of_spans.true)
    c.first_fit.ensures
