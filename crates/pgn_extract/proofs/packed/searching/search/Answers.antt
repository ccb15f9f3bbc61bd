use Rattle.pgn_extract.proofs.Common.{◌∙◌, ◌+◌, ◌≤◌, arith, sym, false_from_ne_true}
use Rattle.pgn_extract.proofs.Common.{err_from_is_err_and, largest_offset, BadPack}
use Rattle.pgn_extract.specs.declared.packed.searching.SearchError.TheVariants.{Write, OutOfMemory}
use Rattle.pgn_extract.proofs.packed.SearchFacts.{searched_none, searched_more, searched_put}
use Rattle.pgn_extract.proofs.packed.SearchFacts.{few_records}
use Rattle.pgn_extract.proofs.packed.SearchFacts.{ends_well, stops_within, stops_here}
use Rattle.pgn_extract.proofs.packed.SearchFacts.{stops_at_game}
use Rattle.pgn_extract.proofs.packed.SearchFacts.{stops_at_step, stopped, stopped_after}
use Rattle.pgn_extract.proofs.packed.searching.search.Goals as goal

pub loop-text-init : goal.loop-text-init
loop-text-init g c = (
  rw (c.new-records.ensures, c.new-text.ensures.items) (searched_none _ _ _),
  c.requires.sound.0,
  c.requires.sound.1,
)

pub overflow_add-count : goal.overflow_add-count
overflow_add-count g c =
    let gives = rw c.in-Ok-true.field-0-test at c.in-Ok-true.ensures.gives in
    let read = c.record.ensures in
    let added = c.in-Ok.ensures.ok in
    let more =
    searched_more c.loop-text.invariant.0 c.step.new.self _ read.0 _ added.0 gives.0 read.1
    read.2 c.in-Ok-true.ensures.place c.in-Ok-true.ensures.within added.1
    (added.2 read.0 read.1 (sym read.3)) in
    let few : c.loop-text.count + 1 ≤ largest_offset = few_records more in
    omega arith

pub loop-text-preserved : goal.loop-text-preserved
loop-text-preserved g c =
    let gives = rw c.in-Ok-true.field-0-test at c.in-Ok-true.ensures.gives in
    let read = c.record.ensures in
    let added = c.in-Ok.ensures.ok in
    let more =
    searched_more c.loop-text.invariant.0 c.step.new.self _ read.0 _ added.0 gives.0 read.1
    read.2 c.in-Ok-true.ensures.place c.in-Ok-true.ensures.within added.1
    (added.2 read.0 read.1 (sym read.3)) in (
      searched_put more _ _ c.in_ok-put_large-in-Ok.ensures.ok,
      false_from_ne_true _ (λ is. let k = c.in-Ok-true.ensures.fault.1 is in cc),
      false_from_ne_true _ (λ is. let k = c.in_ok-put_large-in-Ok.ensures.fault.1 is in cc),
    )

pub returns-in_err-put_large-in-Ok-clause-stands : goal.returns-in_err-put_large-in-Ok-clause-stands
returns-in_err-put_large-in-Ok-clause-stands g c =
    let gives = rw c.in-Ok-true.field-0-test at c.in-Ok-true.ensures.gives in
    let read = c.record.ensures in
    let added = c.in-Ok.ensures.ok in
    let more =
    searched_more c.loop-text.invariant.0 c.step.new.self _ read.0 _ added.0 gives.0 read.1
    read.2 c.in-Ok-true.ensures.place c.in-Ok-true.ensures.within added.1
    (added.2 read.0 read.1 (sym read.3)) in
    let front = c.in_err-put_large-in-Ok.ensures.err in
    let p = err_from_is_err_and c.from_residual.result c.from_residual.ensures.1 in
    rw (p.1, p.2, front.0) (stopped {left' = g.R.Read.remaining c.step.new.input.inner} {out' =
    g.O.Write.contents c.put_large.new.out.inner} Write (stops_within more _ front.1))

pub returns-in-Err-NoGame-clause-stands : goal.returns-in-Err-NoGame-clause-stands
returns-in-Err-NoGame-clause-stands g c =
    let gives = rw c.in-Ok-true.field-0-test at c.in-Ok-true.ensures.gives in
    let read = c.record.ensures in
    let left = c.in-Err-NoGame.ensures.err c.in-Err-NoGame.field-0-is in
    stopped_after c.loop-text.invariant.0 _ (BadPack c.place.result) c.put_rest.result _ _ _
    (c.deref.ensures.value ∙ left.0) c.put_rest.ensures
    (λ last.
    rw c.place.ensures
    (stops_at_game c.loop-text.invariant.0 c.step.new.self _ _ read.0 gives.0
    c.in-Ok-true.ensures.place last read.1 read.2 (left.1 read.0 read.1 (sym read.3))))

pub returns-in-Err-OutOfMemory-clause-stands : goal.returns-in-Err-OutOfMemory-clause-stands
returns-in-Err-OutOfMemory-clause-stands g c =
    stopped OutOfMemory (stops_here c.loop-text.invariant.0)

pub returns-in_err-end-in-Ok-false-clause-stands : goal.returns-in_err-end-in-Ok-false-clause-stands
returns-in_err-end-in-Ok-false-clause-stands g c =
    let front = c.in_err-end-in-Ok-false.ensures.err in
    let p = err_from_is_err_and c.from_residual-in_err-end-in-Ok-false.result
    c.from_residual-in_err-end-in-Ok-false.ensures.1 in
    rw (p.1, p.2, front.0) (stopped {left' = g.R.Read.remaining c.step.new.input.inner} {out' =
    g.O.Write.contents c.end.new.out.inner} Write
    (stops_within c.loop-text.invariant.0 _ (rw (← c.deref-in-Ok-false.ensures.value) front.1)))

pub returns-in-Ok-false-clause-stands : goal.returns-in-Ok-false-clause-stands
returns-in-Ok-false-clause-stands g c =
    let gives = rw c.in-Ok-false.field-0-test at c.in-Ok-false.ensures.gives in
    ends_well c.loop-text.invariant.0 c.step.new.self _ _ gives.0 gives.1 gives.2 gives.3
    (rw (← c.deref-in-Ok-false.ensures.value) c.in_ok-end-in-Ok-false.ensures.ok.0)

pub returns-in-Err-clause-stands : goal.returns-in-Err-clause-stands
returns-in-Err-clause-stands g c =
    stopped_after c.loop-text.invariant.0 _ c.of_records-error.result c.put_rest-in-Err.result _ _ _
    c.deref-in-Err.ensures.value c.put_rest-in-Err.ensures
    (λ last. rw (c.of_records-error.ensures, c.place-in-Err.ensures)
    (stops_at_step c.loop-text.invariant.0 c.step.new.self _ _ _ c.in-Err.ensures.gives
    c.in-Err.ensures.place last))
