-- Castling rights that a move leaves alone.
use Rattle.chess.proofs.Common.{◌≡◌, ◌⊎◌, ◌&&◌, Bool, true, false, not, inl, inr, refl, sym, ◌∙◌}
use Rattle.chess.proofs.Common.{Place, same_square, false_of, has_right, king_from, rook_from}
use Rattle.chess.proofs.Common.{keeps_right, rights_after, CastlingRights, Side, White, Black, Wing}
use Rattle.chess.proofs.Common.{KingSide, QueenSide, Move}
use Rattle.chess.proofs.PlaceFacts.{same_square-then}

-- no king and no rook castles from the square
abbrev pub IsNoHome : Place → Type 0
IsNoHome s = (side : Side) (wing : Wing) → (s ≡ king_from side) ⊎ (s ≡ rook_from side wing) → ⊥

is_kept : (held : Bool) → held ≡ (held && not false && not false && not false)
is_kept true = refl
is_kept false = refl

right_stays : (r : CastlingRights) (m : Move) → IsNoHome m.from → IsNoHome m.to
    → (side : Side) (wing : Wing) → has_right r side wing ≡ keeps_right r m side wing
right_stays r m from to side wing =
    let held = has_right r side wing in
    let king =
    false_of (same_square m.from (king_from side)) (λ e.
    from side wing (inl (same_square-then _ _ e))) in
    let rook =
    false_of (same_square m.from (rook_from side wing)) (λ e.
    from side wing (inr (same_square-then _ _ e))) in
    let lost =
    false_of (same_square m.to (rook_from side wing)) (λ e.
    to side wing (inr (same_square-then _ _ e))) in
    is_kept held ∙ (λ i. held && not (sym king i) && not (sym rook i) && not (sym lost i))

pub rights_stay : (r : CastlingRights) (m : Move) → IsNoHome m.from → IsNoHome m.to
    → r ≡ rights_after r m
rights_stay r m from to = λ i. record {
  white_king_side = right_stays r m from to White KingSide i;
  white_queen_side = right_stays r m from to White QueenSide i;
  black_king_side = right_stays r m from to Black KingSide i;
  black_queen_side = right_stays r m from to Black QueenSide i;
}
