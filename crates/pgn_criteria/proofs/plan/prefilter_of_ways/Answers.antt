use Rattle.pgn_criteria.proofs.Common.{◌≡◌, ◌+◌, ◌∷◌, drop, inl, inr, sym, subst, Laid, AllEither}
use Rattle.pgn_criteria.proofs.MeetFacts.{alternatives_from}
use Rattle.pgn_criteria.proofs.plan.prefilter_of_ways.Goals as goal

pub returns-in-Some : goal.returns-in-Some
returns-in-Some c = λ men all.
    let items = c.args.all.now in
    let i = c.loop-ways.ways-index in
    let next : drop i items ≡ c.ways-item.result ∷ drop (i + 1) items =
    alternatives_from items i c.ways-item.result c.loop-ways-test.true c.ways-item.is in
    let here = (subst (AllEither men) next (c.loop-ways.invariant men all)).0 in
    c.in-Some.ensures men
    (elim here [
      | inl straight ↦ inl (subst (Laid men) (sym c.layout.ensures) straight)
      | inr turned ↦ inr (subst (Laid men) (sym c.layout-in-loop-ways.ensures) turned)
    ])

pub loop-ways-preserved : goal.loop-ways-preserved
loop-ways-preserved c = λ men all.
    let items = c.args.all.now in
    let i = c.loop-ways.ways-index in
    let next : drop i items ≡ c.ways-item.result ∷ drop (i + 1) items =
    alternatives_from items i c.ways-item.result c.loop-ways-test.true c.ways-item.is in
    (subst (AllEither men) next (c.loop-ways.invariant men all)).1
