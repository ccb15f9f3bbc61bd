use Rattle.std.proofs.Common.{sym, ◌∙◌}
use Rattle.std.proofs.lemmas.List.Filters.{dedup_is}
use Rattle.pgn_extract.proofs.marks.MarkOrder.{deduped_in_order, same_marks, same_permuted}
use Rattle.pgn_extract.proofs.marks.Marks.of_pairs.Goals as goal

pub invariant_of-result : goal.invariant_of-result
invariant_of-result c =
    let is = dedup_is _ _ _ c.dedup.ensures.filtered in
    rw is (deduped_in_order _ c.sort_unstable.ensures.sorted)

pub returns : goal.returns
returns c = λ id.
    let is = dedup_is _ _ _ c.dedup.ensures.filtered in
    rw is (same_marks _ id ∙ sym (same_permuted _ _ id c.sort_unstable.ensures.permutation))
