use Rattle.pgn_criteria.proofs.Common.{◌≡◌, ◌<◌, ◌≤◌, ◌+◌, ◌-◌, ℕ, false, get_or, length, sym, ◌∙◌}
use Rattle.pgn_criteria.proofs.Common.{subst, arith, IsRun}
use Rattle.std.proofs.lemmas.List.{get_or-set_other}
use Rattle.pgn_criteria.proofs.ToldFacts.{run_longer, run_none, kept_before, all_kept, none_kept}
use Rattle.pgn_criteria.specs.Private.Stages.{AreSoMany}
use Rattle.pgn_criteria.specs.Private.Told.{IsTold}
use Rattle.pgn_criteria.proofs.played.keep_spans.Goals.{then-fits-ply, else-fits-ply}
use Rattle.pgn_criteria.proofs.played.keep_spans.Goals as goal

pub returns-then-is_free_of_spans : goal.returns-then-is_free_of_spans
returns-then-is_free_of_spans c replay told =
    all_kept c.args.alternative.now c.args.fits.now replay
    (c.is_free_of_spans.ensures.0 c.if-is_free_of_spans.true) told

pub returns-then-many-eq0 : goal.returns-then-many-eq0
returns-then-many-eq0 c replay told =
    none_kept c.args.alternative.now c.args.fits.now replay
    (subst (AreSoMany (IsTold c.args.fits.now)) c.if-many-eq0.true c.count_told-many.ensures) told

pub loop-ply-preserved : goal.loop-ply-preserved
loop-ply-preserved c =
    let old = c.args.fits.now in
    let now = c.loop-ply.fits in
    let at : ℕ = c.loop-ply.ply - 1 in
    let some = c.loop-ply-test.true in
    let few = c.loop-ply.invariant.few in
    let size = c.loop-ply.auto.fits in
    let next : c.loop-ply.ply ≡ at + 1 = omega (arith, some) in
    let within : at < length now = omega (arith, some, few, size) in
    let after : IsRun (IsTold old) (at + 1) c.loop-ply.run =
    subst (λ n. IsRun (IsTold old) n c.loop-ply.run) next c.loop-ply.invariant.run in
    let same : get_or now at false ≡ get_or old at false =
    c.loop-ply.invariant.left at (omega (arith, some)) in
    let both : IsRun (IsTold old) at c.if-fits-ply.run × (c.if-fits-ply.run ≤ c.loop-ply.run + 1) =
    elim c.if-fits-ply.branch [
      | then-fits-ply w ↦ (
        rw w.run-is
            (run_longer (IsTold old) at c.loop-ply.run (sym same ∙ w.if-fits-ply.true) after),
        omega (arith, w.run-is),
      )
      | else-fits-ply w ↦ (
        rw w.run-is (run_none (IsTold old) at (λ t. let is = w.if-fits-ply.false in
            absurd (cc (t, is, same)))),
        omega (arith, w.run-is),
      )
    ] in
    record {
      few = let less = both.1 in omega (arith, less, few, some);
      left = λ k less. get_or-set_other now at k c.stands_about.result false
          (λ e. omega (arith, e, less)) ∙ c.loop-ply.invariant.left k (omega (arith, less));
      run = both.0;
      done = λ replay told. kept_before c.args.alternative.now old now at c.if-fits-ply.run
          c.count_told-many.result c.stands_about.result within both.0 c.count_told-many.ensures
          c.stands_about.ensures replay told
          (λ k up. c.loop-ply.invariant.done replay told k (omega (arith, up, next)));
    }

pub returns : goal.returns
returns c replay told ply =
    c.loop-ply.invariant.done replay told ply (omega (arith, c.loop-ply-test.false))
