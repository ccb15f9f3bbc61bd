-- What is laid out for men whose files are turned.
use Rattle.std.proofs.Common.{◌≡◌, ◌↔◌, true, List, [], ◌∷◌, ◌++◌, sym, ap, ◌∙◌, subst, inl, inr}
use Rattle.pgn_criteria.proofs.Common.{on_board_or_not, Placement, man_at, is_in, IsOnBoard, IsOf}
use Rattle.pgn_criteria.proofs.Common.{AllStand, Laid, beside, flipped_men, Asked, Layout}
use Rattle.chess.specs.Public.Sets.{HoldsExactly}
use Rattle.pgn_criteria.proofs.LayoutFacts.{stand_more}
use Rattle.pgn_criteria.proofs.MirrorFacts.{beside_on, beside_twice, flipped_at, flipped_on}
use Rattle.pgn_criteria.proofs.MirrorFacts.{none_there}

-- what these ask of men, the others ask of them with their files turned
abbrev pub AreTurned : List Asked → List Asked → Type 0
AreTurned own all = (men : Placement) → AllStand men own ↔ AllStand (flipped_men men) all

-- one more of each
pub turned_more : (own all : List Asked) (one asked : Asked) → AreTurned own all
    → one.class ≡ asked.class → one.square ≡ beside asked.square → IsOnBoard asked.square
    → AreTurned (own ++ one ∷ []) (all ++ asked ∷ [])
turned_more own all one asked turned is at on men =
    let here : man_at men one.square ≡ man_at (flipped_men men) asked.square =
    ap (man_at men) at ∙ sym (flipped_at men asked.square on) in
    let left = stand_more men own one in
    let right = stand_more (flipped_men men) all asked in (
      λ stand.
          let both = left.0 stand in
          right.1 (
            (turned men).0 both.0,
            rw (← is) (subst (IsOf one.class) here both.1),
          ),
      λ stand.
          let both = right.0 stand in
          left.1 (
            (turned men).1 both.0,
            subst (IsOf one.class) (sym here)
                (subst (λ c. IsOf c (man_at (flipped_men men) asked.square)) (sym is) both.1),
          ),
    )

-- all that is laid out
pub laid_turned : (own layout : Layout) → AreTurned own.asked.items layout.asked.items
    → AreTurned own.barred.items layout.barred.items
    → HoldsExactly (λ s. is_in layout.empty (beside s) ≡ true) own.empty → (men : Placement)
    → Laid men own ↔ Laid (flipped_men men) layout
laid_turned own layout asked barred empty men = (
  λ laid. (
    (asked men).0 laid.0,
    (barred men).0 laid.1,
    λ s is. elim (on_board_or_not s) [
      | inl on ↦ flipped_at men s on
          ∙ laid.2 (beside s) ((empty (beside s)).1
          (beside_on s on, ap (is_in layout.empty) (beside_twice s on) ∙ is))
      | inr off ↦ none_there (man_at (flipped_men men) s) (λ man here.
          off (flipped_on men s man here))
    ],
  ),
  λ laid. (
    (asked men).1 laid.0,
    (barred men).1 laid.1,
    λ s is.
        let both = (empty s).0 is in
        ap (man_at men) (sym (beside_twice s both.0))
        ∙ sym (flipped_at men (beside s) (beside_on s both.0)) ∙ laid.2 (beside s) both.1,
  ),
)
