use Rattle.chess.specs.Private.SanWords.{said_by}
use Rattle.chess.proofs.PlaceFacts.{true_not_false}
use Rattle.chess.proofs.move_text.RefusalFacts.{none_fitting}
use Rattle.chess.proofs.move_text.refusal.said_refusal.Goals as goal

pub returns-then-has_some : goal.returns-then-has_some
returns-then-has_some g c =
    let some = c.has_some.ensures.0 c.if-has_some.true in
    (some.0, ((c.candidate_origins.ensures some.0).0 some.2).1)

pub returns : goal.returns
returns g c =
    none_fitting c.args.position.now (said_by c.args.said.now) c.fitting_promotion.result
    c.fitting_promotion.ensures
    (λ s on candidates.
    true_not_false c.has_some-2.result
    (c.has_some-2.ensures.1 (s, on, (c.candidate_origins-2.ensures s).1 (on, candidates)))
    c.if-has_some-2.false)
