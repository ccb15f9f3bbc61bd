use Rattle.pgn_criteria.proofs.Common.{◌≡◌, ◌≢◌, [], length, true, false, sym, ap, ◌∙◌, arith, ◌==◌}
use Rattle.pgn_criteria.proofs.Common.{no_length, CanBeSplit, items_of}
use Rattle.pgn_criteria.proofs.rank.PlaceFacts.{at_start, item_kept, no_item_fails, none_fails}
use Rattle.pgn_criteria.proofs.rank.PlaceFacts.{whole_reached}
use Rattle.pgn_criteria.proofs.rank.matches_rank.Goals as goal

pub loop-rest-init : goal.loop-rest-init
loop-rest-init c =
    record { low = omega arith; goes_on = at_start c.args.squares.now (items_of c.args.items.now) }

pub returns-in_default : goal.returns-in_default
returns-in_default c =
    let some : c.loop-rest.rest.now ≢ [] = λ none. let e : false ≡ true =
    sym c.loop-rest-test.true ∙ c.is_empty.ensures ∙ ap (λ x. length x == 0) none in cc in
    no_item_fails c.args.squares.now c.loop-rest.reached c.loop-rest.rest.now
    (CanBeSplit (items_of c.args.items.now) c.args.squares.now) some c.in_default.ensures.next
    c.loop-rest.invariant.goes_on

pub returns-then-reached-eq0 : goal.returns-then-reached-eq0
returns-then-reached-eq0 c =
    let whole = CanBeSplit (items_of c.args.items.now) c.args.squares.now in
    none_fails c.args.squares.now c.step-reached.result (items_of c.in-Some.after.now) whole
    c.if-reached-eq0.true
    (item_kept c.args.squares.now c.loop-rest.reached c.step-reached.result c.loop-rest.rest.now
    c.in-Some.after.now c.in-Some.item whole c.in-Some.ensures.next
    c.step-reached.ensures.goes_on c.loop-rest.invariant.goes_on)

pub loop-rest-preserved : goal.loop-rest-preserved
loop-rest-preserved c = record {
  low = c.step-reached.ensures.low;
  goes_on =
      item_kept c.args.squares.now c.loop-rest.reached c.step-reached.result c.loop-rest.rest.now
      c.in-Some.after.now c.in-Some.item
      (CanBeSplit (items_of c.args.items.now) c.args.squares.now) c.in-Some.ensures.next
      c.step-reached.ensures.goes_on c.loop-rest.invariant.goes_on;
}

pub returns : goal.returns
returns c =
    whole_reached c.args.squares.now c.loop-rest.reached c.loop-rest.rest.now c.has_last.result
    (CanBeSplit (items_of c.args.items.now) c.args.squares.now) c.told-squares
    (no_length c.loop-rest.rest.now (sym c.is_empty.ensures ∙ c.loop-rest-test.false))
    c.has_last.ensures c.loop-rest.invariant.goes_on
