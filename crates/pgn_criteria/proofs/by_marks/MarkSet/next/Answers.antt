use Rattle.pgn_criteria.proofs.Common.{◌≡◌, ◌∙◌, arith, refl, sym, nat_tests, codes_in}
use Rattle.pgn_criteria.proofs.ByMarkFacts.{none_on, next_on, next_here, none_end, none_of_none}
use Rattle.pgn_criteria.proofs.StandFacts.{rest_is}
use Rattle.pgn_criteria.proofs.by_marks.MarkSet.next.Goals as goal

pub returns-then-self-eq0 : goal.returns-then-self-eq0
returns-then-self-eq0 c =
    let zero : c.args.self.flags ≡ 0 = let is = c.if-self-eq0.true in grind (arith, nat_tests) in
    rw zero (none_of_none c.args.turn (codes_in c.args.plies.now))

pub loop-rest-init : goal.loop-rest-init
loop-rest-init c =
    let met = c.after_eights-rest.ensures.met c.args.self.flags c.needs-check.ensures c.args.turn in
    record {
      none = met.0;
      found = met.1;
    }

pub loop-rest-preserved : goal.loop-rest-preserved
loop-rest-preserved c =
    let set = c.args.self.flags in
    let side = c.loop-rest.side in
    let rest = c.loop-rest.rest.now in
    record {
      none = λ none.
          c.loop-rest.invariant.none
          (none_on set side rest _ c.in-len3-up.len_at_least (rest_is rest _ refl)
          c.opposite-side.result c.opposite-side.ensures (sym c.has_told.ensures
          ∙ c.if-has_told.false) none);
      found = λ next left later.
          c.loop-rest.invariant.found next left
          (next_on set side rest _ c.in-len3-up.len_at_least (rest_is rest _ refl)
          c.opposite-side.result c.opposite-side.ensures (sym c.has_told.ensures
          ∙ c.if-has_told.false) next left
          later);
    }

pub returns-then-has_told : goal.returns-then-has_told
returns-then-has_told c =
    let rest = c.loop-rest.rest.now in
    c.loop-rest.invariant.found _ _
    (next_here c.args.self.flags c.loop-rest.side rest _ c.in-len3-up.len_at_least
    (rest_is rest _ refl) c.opposite-side.result c.opposite-side.ensures
    (sym c.has_told.ensures ∙ c.if-has_told.true))

pub returns : goal.returns
returns c =
    c.loop-rest.invariant.none
    (none_end c.args.self.flags c.loop-rest.side c.loop-rest.rest.now
    (omega (arith, c.in_default.len_below)))
