use Rattle.pgn_criteria.proofs.Common.{◌≡◌, ◌≤◌, ◌+◌, ◌-◌, Bool, false, get_or, subst, sym, arith}
use Rattle.pgn_criteria.proofs.SpanFacts.{AreFrom, none_from, counted_before, from_first}
use Rattle.pgn_criteria.proofs.SpanFacts.{at_most_one}
use Rattle.pgn_criteria.proofs.ToldFacts.{told_within}
use Rattle.pgn_criteria.specs.Private.Told.{IsTold}
use Rattle.pgn_criteria.proofs.played.count_told.Goals as goal

pub loop-ply-init : goal.loop-ply-init
loop-ply-init c = record {
  few = omega arith;
  from = none_from (IsTold c.args.told.now) _ (told_within c.args.told.now);
}

pub loop-ply-preserved : goal.loop-ply-preserved
loop-ply-preserved c =
    let told = c.args.told.now in
    let is : Bool = get_or told (c.loop-ply.ply - 1) false in
    let back : c.loop-ply.ply ≡ c.loop-ply.ply - 1 + 1 = omega (arith, c.loop-ply-test.true) in
    let small : c.one_if-many.result ≤ 1 =
    subst (λ n. n ≤ 1) (sym c.one_if-many.ensures) (at_most_one is) in
    record {
      few = omega (arith, small, c.loop-ply.invariant.few, c.loop-ply-test.true);
      from = rw c.one_if-many.ensures
          (counted_before (IsTold told) (c.loop-ply.ply - 1) c.loop-ply.many is
          ((λ t. t), (λ t. t))
          (subst (λ n. AreFrom (IsTold told) n c.loop-ply.many) back c.loop-ply.invariant.from));
    }

pub returns : goal.returns
returns c =
    let end : c.loop-ply.ply ≡ 0 = omega (arith, c.loop-ply-test.false) in
    from_first (IsTold c.args.told.now) c.loop-ply.many
    (subst (λ n. AreFrom (IsTold c.args.told.now) n c.loop-ply.many) end
    c.loop-ply.invariant.from)
