use Rattle.pgn_criteria.proofs.Common.{◌-◌, length, take, drop, sym, ◌∙◌, subst, slice_index_or}
use Rattle.pgn_criteria.proofs.Common.{first_and_rest, HasNoItem}
use Rattle.pgn_criteria.proofs.SetFacts.{byte_next, byte_fails}
use Rattle.pgn_criteria.proofs.rank.next_item.Goals as goal

pub returns-in_err-item-clause-next : goal.returns-in_err-item-clause-next
returns-in_err-item-clause-next c =
    let all = c.args.items.now in
    rw c.from_residual.ensures
    (subst HasNoItem (sym (first_and_rest all c.in-len1-up.len_at_least))
    (byte_fails (slice_index_or all 0 0) (take (length all - 1) (drop 1 all)) c.if-first-eq91.false
    (sym c.item_of.ensures ∙ c.in_err-item.was)))

pub returns-clause-next : goal.returns-clause-next
returns-clause-next c =
    let all = c.args.items.now in
    let after = take (length all - 1) (drop 1 all) in
    rw (← (first_and_rest all c.in-len1-up.len_at_least)) at (byte_next (slice_index_or all 0 0)
    after c.in_ok-item.item c.if-first-eq91.false (sym c.item_of.ensures ∙ c.in_ok-item.was))
