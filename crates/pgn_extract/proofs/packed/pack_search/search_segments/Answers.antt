use Rattle.pgn_extract.proofs.Common.{arith}
use Rattle.pgn_extract.proofs.Common.{false_from_ne_true}
use Rattle.pgn_extract.proofs.packed.SegmentSearchFacts.{searched_nothing, segment_searched}
use Rattle.pgn_extract.proofs.packed.SegmentSearchFacts.{ends_there}
use Rattle.pgn_extract.proofs.packed.pack_search.search_segments.Goals as goal

pub loop-error-init : goal.loop-error-init
loop-error-init g c =
    (rw c.new-segments.ensures (searched_nothing _ _ _), c.requires.sound.0, c.requires.sound.1)

pub overflow_add-count : goal.overflow_add-count
overflow_add-count g c =
    let gives = rw c.in-Ok-true.field-0-test at c.in-Ok-true.ensures.gives in
    let own = c.in-Ok.ensures.stands.done in
    let done = rw (c.new-records.ensures, c.records.ensures, gives.2) at own in
    let more = segment_searched c.loop-error.invariant.0 c.step.new.self _ _ gives.0
    c.in-Ok.searched.records gives.1 gives.3 c.in-Ok-true.ensures.place
    c.in-Ok-true.ensures.within done in
    let few = more.few in
    let small = more.small in
    omega (arith, few, small)

pub loop-error-preserved : goal.loop-error-preserved
loop-error-preserved g c =
    let gives = rw c.in-Ok-true.field-0-test at c.in-Ok-true.ensures.gives in
    let own = c.in-Ok.ensures.stands.done in
    let done = rw (c.new-records.ensures, c.records.ensures, gives.2) at own in (
      segment_searched c.loop-error.invariant.0 c.step.new.self _ _ gives.0
          c.in-Ok.searched.records gives.1 gives.3 c.in-Ok-true.ensures.place
          c.in-Ok-true.ensures.within done,
      false_from_ne_true _ (λ is. let k = c.in-Ok-true.ensures.fault.1 is in cc),
      false_from_ne_true _ (λ is. let k = c.in-Ok.ensures.write.1 is in cc),
    )

pub returns-clause-stands : goal.returns-clause-stands
returns-clause-stands g c =
    let gives = rw c.in-Ok-false.field-0-test at c.in-Ok-false.ensures.gives in
    ends_there c.loop-error.invariant.0 _ gives.0 gives.1
