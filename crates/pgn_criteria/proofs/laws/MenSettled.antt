-- Whether both sides have as many men of each kind as are allowed is settled.
use Rattle.pgn_criteria.proofs.Common.{ℕ, inl, inr, cases_eq, Placement, Side, White, Black, Kind}
use Rattle.pgn_criteria.proofs.Common.{Settled, settled_not, settled_both, settled_le, Limit}
use Rattle.pgn_criteria.proofs.Common.{Exactly, AtLeast, AtMost, AnyNumber, Limits}
use Rattle.chess.proofs.Searches.{search_kind}
use Rattle.pgn_criteria.specs.Public.Materials.{Allows, count_of, limit_of, FitsSide, FitsMaterial}

settled_limit : (limit : Limit) (count : ℕ) → Settled (Allows limit count)
settled_limit (Exactly n) count = cases_eq count n
settled_limit (AtLeast n) count = settled_le n count
settled_limit (AtMost n) count = settled_le count n
settled_limit AnyNumber count = inl tt

abbrev IsFit : Placement → Side → Limits → Kind → Type 0
IsFit men side limits kind =
    Allows (limit_of limits kind) (count_of men (record { side = side; kind = kind }))

settled_side : (men : Placement) (side : Side) (limits : Limits)
    → Settled (FitsSide men side limits)
settled_side men side limits =
    elim (search_kind (λ kind. IsFit men side limits kind → ⊥) (λ kind. settled_not (fit kind))) [
      | inl found ↦ inr (λ all. found.1 (all found.0))
      | inr none ↦ inl (λ kind.
          elim (fit kind) [ inl is ↦ is | inr other ↦ absurd (none (kind, other)) ])
    ]
  where
    fit : (kind : Kind) → Settled (IsFit men side limits kind)
    fit kind =
        settled_limit (limit_of limits kind) (count_of men (record { side = side; kind = kind }))

pub settled_material : (men : Placement) (white black : Limits)
    → Settled (FitsMaterial men white black)
settled_material men white black =
    settled_both (settled_side men White white) (settled_side men Black black)
