-- Whether a side has a move, and whether it is mated or stalemated, is settled where men stand on
-- the board alone.
use Rattle.chess.proofs.Common.{Option, Place, IsOnBoard, AreOnBoard, State, Kind, Wing, Move}
use Rattle.chess.specs.Public.Moves.{IsLegal, CanGo, HasMove, IsMate, IsStalemate}
use Rattle.chess.proofs.Settled.{Settled, settled_like, settled_not, settled_both}
use Rattle.chess.proofs.Settled.{search_option}
use Rattle.chess.proofs.Searches.{search_square, search_wing, search_any_kind}
use Rattle.chess.proofs.LegalSettled.{settled_check, settled_legal}

abbrev moving : Place → Place → Option Kind → Option Wing → Move
moving s t promote castle = record { from = s; to = t; promote = promote; castle = castle }

pub settled_can_go : (P : State) (s t : Place) → AreOnBoard P.men → Settled (CanGo P s t)
settled_can_go P s t on_board =
    settled_like (λ h. (h.0, h.1.0, h.1.1)) (λ h. (h.0, (h.1, h.2)))
    (search_any_kind (λ promote. (castle : Option Wing) × IsLegal P (moving s t promote castle))
    (λ promote. search_option search_wing (λ castle. IsLegal P (moving s t promote castle))
    (λ castle. settled_legal P (moving s t promote castle) on_board)))

settled_has_move : (P : State) → AreOnBoard P.men → Settled (HasMove P)
settled_has_move P on_board =
    settled_like (λ h. (h.0, h.2.0, h.2.2)) (λ h.
    (h.0, h.2.2.pseudo_legal.from, (h.1, h.2.2.pseudo_legal.to, h.2)))
    (search_square (λ s. (t : Place) × IsOnBoard t × CanGo P s t)
    (λ s. search_square (λ t. CanGo P s t) (λ t. settled_can_go P s t on_board)))

pub settled_mate : (P : State) → AreOnBoard P.men → Settled (IsMate P)
settled_mate P on_board =
    settled_both (settled_check P.men P.turn on_board) (settled_not (settled_has_move P on_board))

pub settled_stalemate : (P : State) → AreOnBoard P.men → Settled (IsStalemate P)
settled_stalemate P on_board =
    settled_both (settled_not (settled_check P.men P.turn on_board))
    (settled_not (settled_has_move P on_board))
