use Rattle.pgn_extract.proofs.Common.{◌≤◌, ◌-◌, ◌/◌, ℕ, List, length, arith, Side, IsNextMet}
use Rattle.pgn_extract.proofs.Common.{codes_in}
use Rattle.pgn_extract.specs.declared.packed.marked.Marked.{Marked}
use Rattle.pgn_criteria.proofs.CodedLines.{codes_count}
use Rattle.pgn_extract.proofs.packed.WalkedLines.{marks_on, marks_all, next_shorter}
use Rattle.pgn_extract.proofs.packed.marked.MarkedLine.advance.Goals as goal

-- no more codes are left than there are plies
left_fits : (line : Marked) (side : Side) (left : List ℕ)
    → IsNextMet line.marks.flags line.side (codes_in line.left.now) side (codes_in left)
    → length left / 3 ≤ line.plies
left_fits line side left next =
    let less =
    next_shorter line.marks.flags (codes_in line.left.now) line.side side (codes_in left) next in
    let old = codes_count line.left.now in
    let new = codes_count left in
    let all = line.sized in
    omega (arith, less, old, new, all)

pub returns-then-not-is_open-clause-moved : goal.returns-then-not-is_open-clause-moved
returns-then-not-is_open-clause-moved c aim game before P at =
    let line = c.args.self.now in
    marks_all line.marks.flags line.side (codes_in line.left.now) line.ply c.args.is_open aim game
    before P at (λ is_on. let off = c.if-not-is_open.true in absurd (cc))

pub returns-in_default-clause-moved : goal.returns-in_default-clause-moved
returns-in_default-clause-moved c aim game before P at =
    let line = c.args.self.now in
    marks_all line.marks.flags line.side (codes_in line.left.now) line.ply c.args.is_open aim game
    before P at (λ is_on. c.in_default.ensures)

pub returns-clause-moved : goal.returns-clause-moved
returns-clause-moved c aim game before P at =
    let line = c.args.self.now in
    let old = codes_count line.left.now in
    let new = codes_count c.in-Some.left.now in
    marks_on line.marks.flags line.side c.in-Some.side (codes_in line.left.now)
    (codes_in c.in-Some.left.now) line.ply (line.plies - length c.in-Some.left.now / 3)
    c.args.is_open aim game before P at c.in-Some.ensures
    (omega (arith, old, new))

pub overflow_sub-self : goal.overflow_sub-self
overflow_sub-self c = left_fits c.args.self.now c.in-Some.side c.in-Some.left.now c.in-Some.ensures

pub invariant_of-self : goal.invariant_of-self
invariant_of-self c =
    let fits = left_fits c.args.self.now c.in-Some.side c.in-Some.left.now c.in-Some.ensures in
    record { sized = omega (arith, fits) }

pub returns-clause-ends : goal.returns-clause-ends
returns-clause-ends c is =
    let line = c.args.self.now in
    let less = next_shorter line.marks.flags (codes_in line.left.now) line.side c.in-Some.side
    (codes_in c.in-Some.left.now) c.in-Some.ensures in
    let old = codes_count line.left.now in
    let new = codes_count c.in-Some.left.now in
    omega (arith, less, old, new)
