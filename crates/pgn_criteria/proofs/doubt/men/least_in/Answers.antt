use Rattle.pgn_criteria.proofs.Common.{◌≤◌, ◌+◌, List, Option, length, arith, subst, Man}
use Rattle.pgn_criteria.proofs.Common.{CanBeSplit, items_of}
use Rattle.pgn_criteria.proofs.NeedFacts.{least_more}
use Rattle.pgn_criteria.proofs.doubt.men.least_in.Goals as goal

pub returns-in_default : goal.returns-in_default
returns-in_default c own split =
    omega (arith, c.loop-rest.invariant 0 (λ some parted. omega arith) own split)

pub loop-rest-preserved : goal.loop-rest-preserved
loop-rest-preserved c left reports own split =
    let next = c.in-Some.ensures.next in
    let count = c.least_of-count.result in
    let all : (some : List (Option Man)) → CanBeSplit (items_of c.loop-rest.rest.now) some
    → count + left ≤ length some = λ some parted.
    least_more next.text count (items_of c.in-Some.after.now) left (λ it stretch.
    c.least_of-count.ensures next.text it next.reads stretch) reports some
    (subst (λ x. CanBeSplit x some) next.cut parted) in
    let whole = c.loop-rest.invariant (count + left) all own split in
    grind (arith, whole, c.saturating_add-least.ensures)

pub returns : goal.returns
returns c own split = omega (arith, c.loop-rest.invariant 0 (λ some parted. omega arith) own split)
