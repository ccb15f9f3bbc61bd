use Rattle.pgn_criteria.proofs.Common.{◌≡◌, ◌∷◌, ◌++◌, [], sym, ap, ◌∙◌, subst, SpellsCriteria}
use Rattle.pgn_criteria.proofs.ParseFacts.{built_start, built_next, built_more, built_end}
use Rattle.pgn_criteria.proofs.ParseFacts.{first_part, rest_shorter}
use Rattle.pgn_criteria.proofs.parse.build.Goals as goal

pub loop-last-init : goal.loop-last-init
loop-last-init c =
    rw c.new-alternatives.ensures.items (rw c.new-last.ensures (built_start c.args.text.now
    c.requires))

pub loop-last-smaller : goal.loop-last-smaller
loop-last-smaller c =
    let parts = rw c.in-Some.is at c.next_part.ensures in
    rest_shorter c.loop-last.rest.now c.next_part.result.0.now c.in-Some.after.now parts

pub add_line-requires : goal.add_line-requires
add_line-requires c =
    built_next c.args.text.now c.loop-last.rest.now c.next_part.result.0.now
    c.loop-last.alternatives.items c.loop-last.last c.loop-last.invariant
    (first_part (λ after. after.now) c.loop-last.rest.now c.next_part.result.0.now
    c.next_part.result.1 c.next_part.ensures)

pub loop-last-preserved : goal.loop-last-preserved
loop-last-preserved c =
    let parts = rw c.in-Some.is at c.next_part.ensures in
    let added = c.in_ok-add_line.ensures in
    built_more c.args.text.now c.loop-last.rest.now c.next_part.result.0.now c.in-Some.after.now
    c.loop-last.alternatives.items c.loop-last.last
    c.add_line.new.alternatives.items c.add_line.new.last c.loop-last.invariant
    (record { own = added.0; is = added.1; same = added.2 }) parts

pub returns-in_default : goal.returns-in_default
returns-in_default c =
    let added = c.in_ok-add_line.ensures in
    let parts = rw c.in_default.is at c.next_part.ensures in
    let view : c.push.new.self.items ≡ c.add_line.new.alternatives.items
    ++ (c.add_line.new.last ∷ []) = c.in_ok-push.ensures.items
    ∙ ap (λ a. c.add_line.new.alternatives.items ++ (a ∷ [])) c.in_ok-own.ensures in
    subst (SpellsCriteria c.args.text.now) (sym view)
    (built_end c.args.text.now c.loop-last.rest.now c.next_part.result.0.now
    c.loop-last.alternatives.items c.loop-last.last
    c.add_line.new.alternatives.items c.add_line.new.last c.loop-last.invariant
    (record { own = added.0; is = added.1; same = added.2 }) parts)
