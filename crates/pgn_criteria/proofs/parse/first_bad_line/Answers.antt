use Rattle.pgn_criteria.specs.Private.Reading.{meaning_seen}
use Rattle.pgn_criteria.proofs.ParseFacts.{up_start, up_more, up_bad, up_end, first_part}
use Rattle.pgn_criteria.proofs.ParseFacts.{rest_shorter}
use Rattle.pgn_criteria.proofs.parse.first_bad_line.Goals as goal

pub loop-after-init : goal.loop-after-init
loop-after-init c = up_start c.args.text.now

pub returns-in_default : goal.returns-in_default
returns-in_default c =
    up_bad c.args.text.now c.loop-after.rest.now c.next_part.result.0.now c.loop-after.number
    c.loop-after.invariant
    (first_part (λ after. after.now) c.loop-after.rest.now c.next_part.result.0.now
    c.next_part.result.1 c.next_part.ensures) c.in_default.ensures

pub returns-in_default-after : goal.returns-in_default-after
returns-in_default-after c =
    up_end c.args.text.now c.loop-after.rest.now c.next_part.result.0.now c.loop-after.number
    (meaning_seen (λ bytes. bytes.now) c.in-Some.field-0) c.loop-after.invariant
    (rw c.in_default-after.is at c.next_part.ensures) c.in-Some.ensures

pub loop-after-smaller : goal.loop-after-smaller
loop-after-smaller c =
    let parts = rw c.in-Some-after.is at c.next_part.ensures in
    rest_shorter c.loop-after.rest.now c.next_part.result.0.now c.in-Some-after.after.now parts

pub loop-after-preserved : goal.loop-after-preserved
loop-after-preserved c =
    let parts = rw c.in-Some-after.is at c.next_part.ensures in
    up_more c.args.text.now c.loop-after.rest.now c.next_part.result.0.now c.in-Some-after.after.now
    c.loop-after.number (meaning_seen (λ bytes. bytes.now) c.in-Some.field-0)
    c.loop-after.invariant parts c.in-Some.ensures
