use Rattle.pgn_criteria.proofs.Common.{◌-◌, length, take, drop, sym, ◌∙◌, slice_index_or}
use Rattle.pgn_criteria.proofs.Common.{first_and_rest, no_bytes}
use Rattle.pgn_criteria.proofs.SetFacts.{open_fails, set_next, set_fails, after_shorter}
use Rattle.pgn_criteria.proofs.rank.next_set.Goals as goal

pub returns-in_default-clause-next : goal.returns-in_default-clause-next
returns-in_default-clause-next c =
    open_fails c.args.text.now (sym c.split_run.ensures.rest
    ∙ no_bytes c.split_run.result.1.now c.in_default.len_below)

pub returns-in_err-class-clause-next : goal.returns-in_err-class-clause-next
returns-in_err-class-clause-next c =
    let rest = c.split_run.result.1.now in
    rw c.from_residual.ensures
    (set_fails c.args.text.now (take (length rest - 1) (drop 1 rest)) (slice_index_or rest 0 0)
    (sym c.split_run.ensures.rest ∙ first_and_rest rest c.in-len1-up.len_at_least)
    (rw (← c.split_run.ensures.run) c.in_err-class.ensures))

pub returns-clause-next : goal.returns-clause-next
returns-clause-next c =
    let rest = c.split_run.result.1.now in
    set_next c.args.text.now (take (length rest - 1) (drop 1 rest)) (slice_index_or rest 0 0)
    c.in_ok-class.class
    (sym c.split_run.ensures.rest ∙ first_and_rest rest c.in-len1-up.len_at_least)
    (rw (← c.split_run.ensures.run) c.in_ok-class.ensures)

pub returns-clause-shorter : goal.returns-clause-shorter
returns-clause-shorter c =
    after_shorter c.args.text.now c.split_run.result.1.now c.split_run.ensures.rest
    c.in-len1-up.len_at_least
