-- Which games are selected: whether a game has an entry shows by the first ply that is looked for.
use Rattle.std.specs.Prelude.{not, is_some}
use Rattle.pgn_extract.proofs.Common.{◌↔◌, ◌⊎◌, Bool, true, false, IsTrue, refl, inl, inr}
use Rattle.pgn_extract.proofs.Common.{false≢true, IsSelected, Select, Matching, Others, Faulty}
use Rattle.pgn_extract.proofs.Common.{ℕ, Option, None, Some, Aim, Heading, HasEntry, Replay}
use Rattle.pgn_extract.specs.Public.Exports.{IsFirstOrNone}

-- a test of a fact is turned round
pub turned : (test : Bool) (P : Type 0) → (IsTrue test ↔ P) → IsTrue (not test) ↔ (P → ⊥)
turned true P holds = (λ no. absurd (false≢true no), λ fails. absurd (fails (holds.0 refl)))
turned false P holds = (λ no is. absurd (false≢true (holds.1 is)), λ fails. refl)

-- a first entry tells that a game has one
pub first_tells : (aim : Aim) (tags : Heading) (replay : Replay) (first : Option ℕ)
    → IsFirstOrNone aim tags replay first → IsTrue (is_some first) ↔ HasEntry aim tags replay
first_tells aim tags replay None none = (
  (λ no. absurd (false≢true no)),
  λ has. absurd (none has.0 has.1 has.2.0),
)
first_tells aim tags replay (Some ply) (within, wanted, least) =
    ((λ _. (ply, within, (wanted, λ only. least))), λ has. refl)

-- a game is selected by a fact that says the same
pub selected_by : (select : Select) (P Q : Type 0) → (P → Q) → (Q → P) → IsSelected select P
    → IsSelected select Q
selected_by Matching P Q to from is = to is
selected_by Others P Q to from is = λ holds. is (from holds)
selected_by Faulty P Q to from is = is

-- and it is selected or not, by a fact that is decided
pub selected_or_not : (select : Select) (P : Type 0) → P ⊎ (P → ⊥)
    → IsSelected select P ⊎ (IsSelected select P → ⊥)
selected_or_not Matching P decided = decided
selected_or_not Others P (inl is) = inr (λ none. none is)
selected_or_not Others P (inr none) = inl none
selected_or_not Faulty P decided = inr (λ is. is)
