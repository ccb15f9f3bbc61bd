-- Men that attack a square, found from the square outwards.
use Rattle.chess.proofs.Common.{◌≡◌, ◌⊎◌, ◌<◌, ◌^◌, bit_and, w64, ℕ, true, inl, inr, ap, refl, sym}
use Rattle.chess.proofs.Common.{◌∙◌, arith, Some, ◌&&◌, trailing_zeros, and_parts, and_from, eq-eqb}
use Rattle.chess.proofs.Common.{and_le_l, bit_at-trailing_zeros, Place, IsOnBoard, index_of}
use Rattle.chess.proofs.Common.{square_at, index_of-square_at, on_board-square_at, Placement}
use Rattle.chess.proofs.Common.{AreOnBoard, IsAttacked, Reaches, has_bit, IsMan, IsAttackedBy}
use Rattle.chess.proofs.Common.{IsAttackedStraight, IsAttackedDiagonal, Side, Kind, King, Queen}
use Rattle.chess.proofs.Common.{Rook, Bishop, Knight, Pawn}
use Rattle.chess.specs.Private.Bitboards.{DoMeet}
use Rattle.chess.proofs.PlaceFacts.{true_not_false, man_of}
use Rattle.chess.proofs.AxisSteps.{straight_or_not}
use Rattle.chess.proofs.board.FillFacts.{bit_of_both, no_bit}

-- ---- words that meet

pub common_square : (a b : ℕ) → a < 2 ^ 64 → (bit_and a b ≡ 0 → ⊥) → DoMeet a b
common_square a b fits some =
    let less = and_le_l a b in
    let found = bit_at-trailing_zeros w64 (bit_and a b) (omega arith) (omega arith) in
    let at = trailing_zeros w64 (bit_and a b) in
    let both : (has_bit a at && has_bit b at) ≡ true =
    sym (bit_of_both a b at) ∙ eq-eqb _ 1 found.1 in
    let place = index_of-square_at at found.0 in (
      square_at at,
      on_board-square_at at found.0,
      ap (has_bit a) place ∙ (and_parts _ _ both).0,
      ap (has_bit b) place ∙ (and_parts _ _ both).1,
    )

pub no_common_square : (a b : ℕ) → bit_and a b ≡ 0 → DoMeet a b → ⊥
no_common_square a b none h =
    true_not_false _ (bit_of_both a b (index_of h.0)
    ∙ and_from _ _ h.2 h.3) (ap (λ w. has_bit w (index_of h.0)) none ∙ no_bit (index_of h.0))

-- ---- the men that attack

-- who attacks a square is one of these
abbrev pub IsAttackedAtAll : Placement → Side → Place → Type 0
IsAttackedAtAll p side t = IsAttackedBy p side Knight t
    ⊎ (IsAttackedBy p side King t
    ⊎ (IsAttackedBy p side Pawn t ⊎ (IsAttackedStraight p side t ⊎ IsAttackedDiagonal p side t)))

pub attacked_of : (p : Placement) (side : Side) (other : Kind) (t : Place)
    → IsAttackedBy p side other t
    → IsAttacked p side t
attacked_of p side other t h =
    record {
      from = h.0;
      man = record { side = side; kind = other };
      here = h.2;
      own =
          refl;
      reaches = h.3;
    }

pub attacked_straight : (p : Placement) (side : Side) (t : Place) → IsAttackedStraight p side t
    → IsAttacked p side t
attacked_straight p side t h = elim h.2 [
  | inl queen ↦ attacked_of p side Queen t (h.0, h.1, queen, (h.3.0, h.3.2))
  | inr rook ↦ attacked_of p side Rook t (h.0, h.1, rook, h.3)
]

pub attacked_diagonal : (p : Placement) (side : Side) (t : Place) → IsAttackedDiagonal p side t
    → IsAttacked p side t
attacked_diagonal p side t h = elim h.2 [
  | inl queen ↦ attacked_of p side Queen t (h.0, h.1, queen, (h.3.0, h.3.2))
  | inr bishop ↦ attacked_of p side Bishop t (h.0, h.1, bishop, h.3)
]

attack_of_kind : (p : Placement) (side : Side) (other : Kind) (s t : Place) → IsOnBoard s
    → IsMan p side other s → Reaches p side other s t → IsAttackedAtAll p side t
attack_of_kind p side King s t on here reaches = inr (inl (s, on, here, reaches))
attack_of_kind p side Queen s t on here reaches = elim (straight_or_not reaches.0) [
  | inl straight ↦ inr (inr (inr (inl (s, on, inl here, (reaches.0, straight, reaches.1)))))
  | inr diagonal ↦ inr (inr (inr (inr (s, on, inl here, (reaches.0, diagonal, reaches.1)))))
]
attack_of_kind p side Rook s t on here reaches = inr (inr (inr (inl (s, on, inr here, reaches))))
attack_of_kind p side Bishop s t on here reaches = inr (inr (inr (inr (s, on, inr here, reaches))))
attack_of_kind p side Knight s t on here reaches = inl (s, on, here, reaches)
attack_of_kind p side Pawn s t on here reaches = inr (inr (inl (s, on, here, reaches)))

pub attack_at_all : (p : Placement) (side : Side) (t : Place) → AreOnBoard p → IsAttacked p side t
    → IsAttackedAtAll p side t
attack_at_all p side t on h =
    let man : h.man ≡ record { side = side; kind = h.man.kind } =
    man_of h.man (record { side = side; kind = h.man.kind }) h.own refl in
    attack_of_kind p side h.man.kind h.from t (on h.from h.man h.here) (h.here
    ∙ ap Some man) h.reaches
