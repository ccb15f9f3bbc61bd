use Rattle.pgn_criteria.proofs.Common.{◌≡◌, ◌+◌, ◌++◌, ◌∷◌, [], ℕ, List, Vec, Global, length, map}
use Rattle.pgn_criteria.proofs.Common.{take, ap, ◌∙◌, subst, arith, map-append, take-length}
use Rattle.pgn_criteria.proofs.Common.{AreMirrored, seen, PositionCondition}
use Rattle.pgn_criteria.proofs.EitherFacts.{mirrored_more}
use Rattle.pgn_criteria.proofs.MeetFacts.{alternatives_to}
use Rattle.pgn_criteria.proofs.mirror.all_mirrored.Goals as goal

abbrev view : PositionCondition (Vec ℕ Global) → PositionCondition (List ℕ)
view condition = seen (λ text. text.items) condition

pub loop-condition-preserved : goal.loop-condition-preserved
loop-condition-preserved c =
    let all = c.args.conditions.now in
    let i = c.loop-condition.condition-index in
    let before = c.loop-condition.own.items in
    let one = c.in_ok-mirrored.field-0 in
    let condition = c.condition-item.result in
    let owns : map view c.push.new.self.items ≡ map view before ++ (view one ∷ []) =
    ap (map view) c.in_ok-push.ensures.items ∙ map-append view before (one ∷ []) in
    let conditions : map view (take (i + 1) all) ≡ map view (take i all) ++ (view condition ∷ []) =
    ap (map view) (alternatives_to all i condition c.loop-condition-test.true c.condition-item.is)
    ∙ map-append view (take i all) (condition ∷ []) in
    rw owns (rw conditions (mirrored_more (map view before) (map view (take i all)) (view one) (view
    condition) c.loop-condition.invariant c.in_ok-mirrored.ensures))

pub returns : goal.returns
returns c =
    let all = c.args.conditions.now in
    let end : c.loop-condition.condition-index ≡ length all = omega arith in
    subst (λ x. AreMirrored (map view c.loop-condition.own.items) (map view x))
    (ap (λ n. take n all) end ∙ take-length all) c.loop-condition.invariant
