use Rattle.std.proofs.lemmas.Result.{IfOk-weaker, IfErr-weaker}
use Rattle.pgn_extract.proofs.engine.Dropping.{drops_after, drops_some_after}
use Rattle.pgn_extract.proofs.engine.skip.skip_first.Goals as goal

pub returns-in-Ok-clause-ok : goal.returns-in-Ok-clause-ok
returns-in-Ok-clause-ok g c =
    let passed = c.in-Ok.ensures in
    IfOk-weaker c.drop_first.result _ _ (λ _ drops.
    drops_after passed.bytes.0 passed.bytes.1 passed.bytes.2 passed.moved passed.bound drops)
    c.drop_first.ensures.ok

pub returns-in-Ok-clause-err : goal.returns-in-Ok-clause-err
returns-in-Ok-clause-err g c =
    let passed = c.in-Ok.ensures in
    IfErr-weaker c.drop_first.result _ _ (λ error stops. (
      stops.0,
      drops_some_after passed.bytes.0 passed.bytes.1 passed.bytes.2 passed.moved passed.bound
          stops.1,
    ))
    c.drop_first.ensures.err
