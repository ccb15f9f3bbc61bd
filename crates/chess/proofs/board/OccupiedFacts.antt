-- The squares of a side's men, from the words of its kinds.
use Rattle.chess.proofs.Common.{◌≡◌, ◌≢◌, ◌↔◌, ◌⊎◌, ◌∙◌, bit_or, bit_and, ℕ, inl, inr, ap, refl}
use Rattle.chess.proofs.Common.{Some, cases_Bool, Place, IsOnBoard, index_of, Placement, IsEmpty}
use Rattle.chess.proofs.Common.{IsOccupiedBy, has_bit, IsBitboardOf, IsMan, square_bitboard, Side}
use Rattle.chess.proofs.Common.{Kind, King, Queen, Rook, Bishop, Knight, Pawn}
use Rattle.chess.proofs.PlaceFacts.{man_of}
use Rattle.chess.proofs.board.FillFacts.{either_bitboard, common_none, common_some}

-- a man of the side is of one of six kinds
abbrev pub IsOfSix : Placement → Side → Place → Type 0
IsOfSix p side s =
    ((((IsMan p side King s ⊎ IsMan p side Queen s) ⊎ IsMan p side Rook s) ⊎ IsMan p side Bishop s)
    ⊎ IsMan p side Knight s) ⊎ IsMan p side Pawn s

of_kind : (p : Placement) (side : Side) (s : Place) (other : Kind) → IsMan p side other s
    → IsOfSix p side s
of_kind p side s King here = inl (inl (inl (inl (inl here))))
of_kind p side s Queen here = inl (inl (inl (inl (inr here))))
of_kind p side s Rook here = inl (inl (inl (inr here)))
of_kind p side s Bishop here = inl (inl (inr here))
of_kind p side s Knight here = inl (inr here)
of_kind p side s Pawn here = inr here

occupied_of : (p : Placement) (side : Side) (s : Place) (other : Kind) → IsMan p side other s
    → IsOccupiedBy p side s
occupied_of p side s other here = (record { side = side; kind = other }, here, refl)

occupied_six : (p : Placement) (side : Side) (s : Place) → IsOfSix p side s → IsOccupiedBy p side s
occupied_six p side s h = elim h [
  | inr pawn ↦ occupied_of p side s Pawn pawn
  | inl h ↦ elim h [
    | inr knight ↦ occupied_of p side s Knight knight
    | inl h ↦ elim h [
      | inr bishop ↦ occupied_of p side s Bishop bishop
      | inl h ↦ elim h [
        | inr rook ↦ occupied_of p side s Rook rook
        | inl h ↦ elim h [
          | inl king ↦ occupied_of p side s King king
          | inr queen ↦ occupied_of p side s Queen
              queen
        ]
      ]
    ]
  ]
]

six_occupied : (p : Placement) (side : Side) (s : Place) → IsOccupiedBy p side s → IsOfSix p side s
six_occupied p side s h =
    let man : h.0 ≡ record { side = side; kind = h.0.kind } =
    man_of h.0 (record { side = side; kind = h.0.kind }) h.2 refl in
    of_kind p side s h.0.kind (h.1 ∙ ap Some man)

pub bitboard_of_occupied : (p : Placement) (side : Side) (a b c d e f : ℕ)
    → IsBitboardOf (IsMan p side King) a → IsBitboardOf (IsMan p side Queen) b
    → IsBitboardOf (IsMan p side Rook) c → IsBitboardOf (IsMan p side Bishop) d
    → IsBitboardOf (IsMan p side Knight) e → IsBitboardOf (IsMan p side Pawn) f
    → IsBitboardOf (IsOccupiedBy p side) (bit_or (bit_or (bit_or (bit_or (bit_or a b) c) d) e) f)
bitboard_of_occupied p side a b c d e f king queen rook bishop knight pawn s on =
    let six =
    either_bitboard _ _ (bit_or (bit_or (bit_or (bit_or a b) c) d) e) f
    (either_bitboard _ _ (bit_or (bit_or (bit_or a b) c) d) e
    (either_bitboard _ _ (bit_or (bit_or a b) c) d
    (either_bitboard _ _ (bit_or a b) c
    (either_bitboard _ _ a b king queen) rook) bishop) knight) pawn s on in
    ((λ bit. occupied_six p side s (six.0 bit)), (λ held. six.1 (six_occupied p side s held)))

-- one square of a bitboard is asked
pub has_square : (A : Place → Type 0) (all bitboard : ℕ) (s : Place) → IsOnBoard s
    → bitboard ≡ square_bitboard s → IsBitboardOf A all
    → (bit_and all bitboard ≢ 0) ↔ A s
has_square A all bitboard s on is are = (
  (λ some. elim (cases_Bool (has_bit all (index_of s))) [
    | inl bit ↦ (are s on).0 bit
    | inr none ↦ absurd (some (common_none all bitboard s is none))
  ]),
  (λ fact zero. common_some all bitboard s is ((are s on).1 fact) zero),
)

-- a square with a man of a side is not empty
pub occupied_not_empty : (p : Placement) (side : Side) (s : Place) → IsOccupiedBy p side s
    → IsEmpty p s → ⊥
occupied_not_empty p side s held empty = let here = held.1 in cc
