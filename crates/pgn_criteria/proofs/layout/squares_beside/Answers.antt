use Rattle.pgn_criteria.proofs.Common.{◌≡◌, true, false, sym, ap, ◌∙◌, arith, is_in, is_in-empty}
use Rattle.pgn_criteria.proofs.layout.squares_beside.Goals as goal

pub loop-rank-init : goal.loop-rank-init
loop-rank-init c = record {
  right = λ s here. let clash : true ≡ false =
      sym here ∙ ap (λ set. is_in set s) c.new-turned.ensures ∙ is_in-empty s in absurd (cc);
  all = λ s on less beyond. let low = on.rank_low in absurd (omega arith);
}
