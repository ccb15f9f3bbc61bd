-- A placement that is given square by square.
use Rattle.pgn_criteria.proofs.Common.{◌≡◌, ◌+◌, ◌∙◌, ℕ, suc, Option, Some, None, ap, arith, inl}
use Rattle.pgn_criteria.proofs.Common.{inr}
use Rattle.pgn_criteria.proofs.Common.{subst, sym, AreOnBoard, IsOnBoard, Man, Place, Placement}
use Rattle.pgn_criteria.proofs.Common.{man_at, on_board_or_not, square_at, square_at-index_of}
use Rattle.pgn_criteria.proofs.Common.{refl, with_man}
use Rattle.chess.specs.Public.Placements.{first_men, men_of}
use Rattle.chess.specs.Shared.CellFacts.{man_at-men_of, on_board-men_of, same_men}

pub more_men : (cell : ℕ → Option Man) (n next : ℕ) (men new : Placement) (man : Option Man)
    → next ≡ n + 1 → men ≡ first_men cell n → new ≡ with_man men (square_at n) man → man ≡ cell n
    → new ≡ first_men cell next
unfolding first_men
more_men cell n next men new man after so_far put is =
    let last : suc n ≡ next = omega (arith, after) in
    subst (λ k. new ≡ first_men cell k) last
    (put ∙ ap (λ (p : Placement). with_man p (square_at n) man) so_far
    ∙ ap (λ (o : Option Man). with_man (first_men cell n) (square_at n) o) is)

none_off : (p : Placement) (s : Place) → AreOnBoard p → (IsOnBoard s → ⊥) → (o : Option Man)
    → man_at p s ≡ o → man_at p s ≡ None
none_off p s on off None is = is
none_off p s on off (Some man) is = absurd (off (on s man is))

-- the men on all squares are all men
pub whole_men : (men : Placement) → AreOnBoard men
    → men_of (λ n. man_at men (square_at n)) ≡ men
whole_men men on =
    let cell : ℕ → Option Man = λ n. man_at men (square_at n) in
    same_men (men_of cell) men (λ s. elim (on_board_or_not s) [
      | inl there ↦ man_at-men_of cell s there ∙ ap (man_at men) (square_at-index_of s there)
      | inr off ↦
          none_off (men_of cell) s (on_board-men_of cell) off (man_at (men_of cell) s) refl
          ∙ sym (none_off men s on off (man_at men s) refl)
    ])
