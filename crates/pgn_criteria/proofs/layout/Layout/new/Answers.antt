use Rattle.pgn_criteria.proofs.Common.{◌≡◌, true, false, sym, ap, ◌∙◌, subst, is_in, is_in-empty}
use Rattle.pgn_criteria.proofs.Common.{AllStand}
use Rattle.pgn_criteria.proofs.layout.Layout.new.Goals as goal

pub returns : goal.returns
returns c men = (
  subst (AllStand men) (sym c.new.ensures.items) tt,
  subst (AllStand men) (sym c.new-2.ensures.items) tt,
  λ s here. let clash : true ≡ false = sym here ∙ ap (λ set. is_in set s) c.new-3.ensures
      ∙ is_in-empty s in cc,
)
