use Rattle.std.proofs.lemmas.Result.{err_from_is_err_and}
use Rattle.pgn_text.proofs.Common.{refl, arith, false_from_ne_true, nil_from_length}
use Rattle.pgn_text.proofs.io.EndSearch.{nothing_joined, search_start, cut_found, passed, end_found}
use Rattle.pgn_text.proofs.io.EndSearch.{past_limit, failed_so_far, read_failed, search_more}
use Rattle.pgn_text.proofs.io.blocks.find_end.Goals as goal

pub loop-cut-init : goal.loop-cut-init
loop-cut-init g c = search_start c.requires.held c.requires.sound

pub returns-in-Some-clause-ok : goal.returns-in-Some-clause-ok
returns-in-Some-clause-ok g c = cut_found c.loop-cut.invariant _ c.bytes.ensures c.in-Some.ensures

pub returns-then-goes_on-clause-err : goal.returns-then-goes_on-clause-err
returns-then-goes_on-clause-err g c =
    let more = rw c.if-goes_on.true at c.in_ok-goes_on.ensures.ok in
    let p = passed c.loop-cut.invariant _ c.bytes.ensures c.in_default.ensures c.len.ensures
    c.given_up-front.ensures c.give_up.ensures in
    past_limit p (let room = p.room in let size = c.len-held.ensures in let none =
    c.if-room-eq0.true in omega arith) more

pub returns-then-room-eq0-clause-ok : goal.returns-then-room-eq0-clause-ok
returns-then-room-eq0-clause-ok g c =
    let more = rw c.if-goes_on.false at c.in_ok-goes_on.ensures.ok in
    let p = passed c.loop-cut.invariant _ c.bytes.ensures c.in_default.ensures c.len.ensures
    c.given_up-front.ensures c.give_up.ensures in
    end_found p more.read more.reads (more.end refl).0 (more.end refl).1 refl _ c.len-held.ensures

pub returns-in_err-goes_on-clause-err : goal.returns-in_err-goes_on-clause-err
returns-in_err-goes_on-clause-err g c =
    let p = passed c.loop-cut.invariant _ c.bytes.ensures c.in_default.ensures c.len.ensures
    c.given_up-front.ensures c.give_up.ensures in
    let same = err_from_is_err_and c.from_residual.result c.from_residual.ensures.1 in
    rw (
      same.1,
      same.2,
    ) (read_failed p _ c.in_err-goes_on.ensures.err.0 c.in_err-goes_on.ensures.err.1)

pub returns-then-more-eq0-clause-ok : goal.returns-then-more-eq0-clause-ok
returns-then-more-eq0-clause-ok g c =
    let more = rw c.if-more-eq0.true at c.in_ok-more.ensures.ok in
    let p = passed c.loop-cut.invariant _ c.bytes.ensures c.in_default.ensures c.len.ensures
    c.given_up-front.ensures c.give_up.ensures in
    let nothing = nil_from_length more.read more.counted in
    end_found p more.read more.reads nothing (more.end refl) (nothing_joined more.joined nothing) _
    c.len-held.ensures

pub loop-cut-preserved : goal.loop-cut-preserved
loop-cut-preserved g c =
    let p = passed c.loop-cut.invariant _ c.bytes.ensures c.in_default.ensures c.len.ensures
    c.given_up-front.ensures c.give_up.ensures in
    search_more p c.in_ok-more.ensures.ok
    (false_from_ne_true _ (λ is. let k = c.in_ok-more.ensures.fault.1 is in cc))
    (let room = p.room in let size = c.len-held.ensures in let least = c.min.ensures in let count =
    c.min-count.ensures in omega arith)
    (let few = p.few in let size = c.len-held.ensures in let least = c.min.ensures in let count =
    c.min-count.ensures in omega arith)
    (let size = c.len-held.ensures in let low = c.saturating_sub.ensures in let high =
    c.max-from.ensures in omega arith)

pub returns-in_err-more-clause-err : goal.returns-in_err-more-clause-err
returns-in_err-more-clause-err g c =
    let p = passed c.loop-cut.invariant _ c.bytes.ensures c.in_default.ensures c.len.ensures
    c.given_up-front.ensures c.give_up.ensures in
    let same =
    err_from_is_err_and c.from_residual-in_err-more.result c.from_residual-in_err-more.ensures.1
    in
    rw (
      same.1,
      same.2,
    ) (failed_so_far p _ c.in_err-more.ensures.err.0 c.in_err-more.ensures.err.1
    c.in_err-more.ensures.err.2)
