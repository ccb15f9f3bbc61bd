use Rattle.pgn_criteria.proofs.Common.{◌≡◌, ◌≢◌, [], length, true, false, sym, ap, ◌∙◌, refl, ◌==◌}
use Rattle.pgn_criteria.proofs.Common.{no_length, items_of, AreItems}
use Rattle.pgn_criteria.proofs.SetFacts.{items_next, items_fail, items_end, reports_split}
use Rattle.pgn_criteria.proofs.pattern.are_items.Goals as goal

pub returns-in_default : goal.returns-in_default
returns-in_default c =
    let some : c.loop-rest.rest.now ≢ [] = λ none. let e : false ≡ true =
    sym c.loop-rest-test.true ∙ c.is_empty.ensures ∙ ap (λ x. length x == 0) none in cc in
    reports_split (items_of c.args.rank.now) false
    (items_fail c.loop-rest.rest.now (AreItems (items_of c.args.rank.now)) some
    c.in_default.ensures.next c.loop-rest.invariant)

pub loop-rest-preserved : goal.loop-rest-preserved
loop-rest-preserved c =
    items_next c.loop-rest.rest.now c.in-Some.after.now c.in-Some.field-0-0
    (AreItems (items_of c.args.rank.now)) c.in-Some.ensures.next c.loop-rest.invariant

pub returns : goal.returns
returns c =
    reports_split (items_of c.args.rank.now) true
    (items_end c.loop-rest.rest.now true (AreItems (items_of c.args.rank.now)) refl
    (no_length c.loop-rest.rest.now (sym c.is_empty.ensures ∙ c.loop-rest-test.false))
    c.loop-rest.invariant)
