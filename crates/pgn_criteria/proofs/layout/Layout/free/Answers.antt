use Rattle.pgn_criteria.proofs.Common.{◌≡◌, true, false, sym, ap, ◌∙◌, arith, is_in, is_in-empty}
use Rattle.pgn_criteria.proofs.layout.Layout.free.Goals as goal

pub loop-rank-init : goal.loop-rank-init
loop-rank-init c = record {
  right = λ s here bad. let clash : true ≡ false =
      sym here ∙ ap (λ set. is_in set s) c.new-free.ensures ∙ is_in-empty s in cc;
  all = λ s on less free. let low = on.rank_low in absurd (omega arith);
}
