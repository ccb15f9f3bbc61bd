-- Whether a move leaves the own king attacked, by the men as they will stand.
use Rattle.chess.proofs.Common.{◌≡◌, ◌↔◌, ◌∙◌, Bool, sym, subst, Some, None, IsTrue, Place}
use Rattle.chess.proofs.Common.{Placement, with_man, opposite, IsAttacked, State, IsOnlyKing}
use Rattle.chess.proofs.Common.{IsCheck, arriving, capture_square, with_rook, men_after, Man, Move}
use Rattle.chess.proofs.GoesFacts.{IsTried, has_arrived}

-- the men after a move that is no castling
pub men_plainly : (P : State) (m : Move) (man : Man) (t : Place) (board : Placement)
    → m.castle ≡ None → board ≡ P.men
    → Some man ≡ arriving P m.promote m.from → t ≡ capture_square P m
    → with_man (with_man (with_man board t None) m.from None) m.to (Some man) ≡ men_after P m
men_plainly P m man t board plain same arrives taken_there =
    (λ i. with_man (with_man (with_man (same i) (taken_there i) None) m.from None) m.to (arrives i))
    ∙ (λ i. with_rook P.turn (sym plain i)
    (with_man (with_man (with_man P.men (capture_square P m) None) m.from None) m.to
    (arriving P m.promote m.from)))

pub check_after : (P : State) (m : Move) (x : IsTried P m) (man : Man) (t king : Place)
    (board : Placement) (r : Bool) → m.castle ≡ None → board ≡ P.men
    → Some man ≡ arriving P m.promote m.from → t ≡ capture_square P m
    → IsOnlyKing (men_after P m) P.turn king
    → IsTrue r
    ↔ IsAttacked (with_man (with_man (with_man board t None) m.from None) m.to (Some man))
    (opposite man.side) king
    → IsTrue r ↔ IsCheck (men_after P m) P.turn
check_after P m x man t king board r plain same arrives taken_there only attacked =
    let men = men_plainly P m man t board plain same arrives taken_there in
    let own = (has_arrived P m x man (sym arrives)).own in (
      (λ e. (
        king,
        only.here,
        subst (λ side. IsAttacked (men_after P m) (opposite side) king) own
            (subst (λ (p : Placement). IsAttacked p (opposite man.side) king) men (attacked.0 e)),
      )),
      (λ check.
          attacked.1 (rw men (rw own (rw (← (only.only check.0 check.1)) check.2)))),
    )
