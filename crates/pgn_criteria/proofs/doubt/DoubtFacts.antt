-- Where each side has one king, limits that are kept allow one.
use Rattle.pgn_criteria.proofs.Common.{◌≡◌, ◌↔◌, Bool, true, false, IsTrue, sym, ◌∙◌, subst}
use Rattle.pgn_criteria.proofs.Common.{Placement, king_of, Side, King, FitsSide, count_of, Limits}
use Rattle.pgn_criteria.specs.Public.Materials.{Allows}

pub no_king : (men : Placement) (side : Side) (limits : Limits) (allowed : Bool)
    → (IsTrue allowed ↔ Allows limits.king 1) → allowed ≡ false
    → ((own : Side) → count_of men (king_of own) ≡ 1) → FitsSide men side limits → ⊥
no_king men side limits allowed reports none one fits =
    let e : false ≡ true = sym none ∙ reports.1 (subst (Allows limits.king) (one side) (fits King))
    in
    cc
