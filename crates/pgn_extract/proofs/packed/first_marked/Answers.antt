use Rattle.std.specs.Prelude.{◌==◌, ◌%◌}
use Rattle.pgn_extract.proofs.Common.{◌≡◌, ◌≤◌, ◌-◌, ◌/◌, ℕ, Bool, true, false, List, length, ap}
use Rattle.pgn_extract.proofs.Common.{subst, arith, Side, has_marks, NoneMeets, IsNextMet, codes_in}
use Rattle.pgn_criteria.proofs.CodedLines.{codes_count}
use Rattle.pgn_extract.proofs.packed.WalkedLines.{none_in, stands_first, stands_next}
use Rattle.pgn_extract.proofs.packed.WalkedLines.{next_shorter}
use Rattle.pgn_extract.proofs.packed.first_marked.Goals as goal

-- what is told of the marks of the record is told of these
told_of : (set : ℕ) (turn : Side) (head : ℕ) (check stuck has r : Bool)
    → check ≡ (head % 2 == 1) → stuck ≡ (head / 2 % 2 == 1) → has ≡ has_marks set turn check stuck
    → has ≡ r → has_marks set turn (head % 2 == 1) (head / 2 % 2 == 1) ≡ r
told_of set turn head check stuck has r in_check is_stuck told is =
    rw (← in_check, ← is_stuck, ← told) is

pub returns-then-has : goal.returns-then-has
returns-then-has c aim plain met =
    let raw = c.args.record.now in
    rw (c.plies-all.ensures)
    (stands_first raw c.args.marks.flags c.args.turn c.requires.starts aim plain met
    (told_of c.args.marks.flags c.args.turn raw.head c.in_check.result
    c.is_stuck.result c.has.result
    true c.in_check.ensures c.is_stuck.ensures c.has.ensures c.if-has.true))

pub returns-in_default : goal.returns-in_default
returns-in_default c aim plain met =
    let raw = c.args.record.now in
    none_in raw c.args.marks.flags c.args.turn c.requires.starts aim plain met
    (told_of c.args.marks.flags c.args.turn raw.head c.in_check.result
    c.is_stuck.result c.has.result
    false c.in_check.ensures c.is_stuck.ensures c.has.ensures c.if-has.false)
    (subst (λ bytes. NoneMeets c.args.marks.flags c.args.turn (codes_in bytes)) c.plies-all.ensures
    c.in_default.ensures)

-- no more codes are left than there are plies
left_fits : (set : ℕ) (turn side : Side) (all left : List ℕ)
    → IsNextMet set turn (codes_in all) side (codes_in left) → length left / 3 ≤ length all / 3
left_fits set turn side all left next =
    let less = next_shorter set (codes_in all) turn side (codes_in left) next in
    let old = codes_count all in
    let new = codes_count left in
    omega (arith, less, old, new)

pub overflow_sub-result : goal.overflow_sub-result
overflow_sub-result c =
    left_fits c.args.marks.flags c.args.turn c.in-Some.side c.plies-all.result.now
    c.in-Some.left.now c.in-Some.ensures

pub invariant_of-result-2 : goal.invariant_of-result-2
invariant_of-result-2 c =
    let fits = left_fits c.args.marks.flags c.args.turn c.in-Some.side c.plies-all.result.now
    c.in-Some.left.now c.in-Some.ensures in
    record { sized = omega (arith, fits) }

pub returns : goal.returns
returns c aim plain met =
    let raw = c.args.record.now in
    let set = c.args.marks.flags in
    let turn = c.args.turn in
    let side = c.in-Some.side in
    let all = c.plies-all.result.now in
    let left = c.in-Some.left.now in
    let fits = left_fits set turn side all left c.in-Some.ensures in
    let same = ap (λ bytes. length bytes / 3) c.plies-all.ensures in
    let count = codes_count raw.plies in
    let less = codes_count left in
    stands_next raw set turn c.requires.starts aim plain met
    (told_of set turn raw.head c.in_check.result c.is_stuck.result c.has.result false
    c.in_check.ensures c.is_stuck.ensures c.has.ensures c.if-has.false)
    side (codes_in left)
    (subst (λ bytes. IsNextMet set turn (codes_in bytes) side (codes_in left)) c.plies-all.ensures
    c.in-Some.ensures)
    (length all / 3 - length left / 3) (omega (arith, fits, same, count, less))
