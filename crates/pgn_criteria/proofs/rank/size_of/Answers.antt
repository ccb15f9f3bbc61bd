use Rattle.pgn_criteria.proofs.Common.{◌≡◌, ◌+◌, [], List, Option, length, sym, ap, ◌∙◌, arith}
use Rattle.pgn_criteria.proofs.Common.{subst, eqb-true, nil_from_length, Man, CanBeSplit, items_of}
use Rattle.pgn_criteria.proofs.NeedFacts.{count_taken, size_more}
use Rattle.pgn_criteria.proofs.rank.size_of.Goals as goal

pub loop-rest-preserved : goal.loop-rest-preserved
loop-rest-preserved c = record {
  small = omega arith;
  sized = λ left reports own split.
      let next = c.in_ok-count.ensures.next in
      let after = c.in_ok-count.field-0.1.now in
      let count = c.in-Run-default.count in
      let taken =
      count_taken next.text c.in_ok-count.field-0.0 c.in-Run-default.field-0-0 count next.reads
      c.in-Run-default.is-0 in
      let all : (some : List (Option Man)) → CanBeSplit (items_of c.loop-rest.rest.now) some
      → length some ≡ count + left = λ some parted.
      size_more next.text count (items_of after) left taken reports some
      (subst (λ x. CanBeSplit x some) next.cut parted) in
      let sum : c.loop-rest.size + (count + left) ≡ c.loop-rest.size + count + left = omega arith in
      c.loop-rest.invariant.sized (count + left) all own split ∙ sum;
}

pub returns-clause-size : goal.returns-clause-size
returns-clause-size c own split =
    let size : length c.loop-rest.rest.now ≡ 0 =
    eqb-true (length c.loop-rest.rest.now) 0 (sym c.is_empty.ensures ∙ c.loop-rest-test.false)
    in
    let none : c.loop-rest.rest.now ≡ [] = nil_from_length c.loop-rest.rest.now size in
    let sum = c.loop-rest.invariant.sized 0 (λ some parted.
    ap length (subst (λ x. CanBeSplit (items_of x) some) none parted)) own split in
    omega (arith, sum)
