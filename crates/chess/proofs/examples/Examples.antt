-- What the definitions say of squares and texts that every player can check.
use Rattle.chess.proofs.Common.{◌≡◌, ℕ, ◌≤◌, true, false, [], ◌∷◌, Some, None, inl, inr, refl, sym}
use Rattle.chess.proofs.Common.{◌∙◌, arith, codes, IsAhead, Placement, man_at, Reaches, IsOnRay}
use Rattle.chess.proofs.Common.{State, king_from, king_to, rook_from, rook_to, IsCheck, HasMove}
use Rattle.chess.proofs.Common.{IsStalemate, Spells, IsCheckSign, mate, check, quiet, fields_of}
use Rattle.chess.proofs.Common.{parted_at, is_shortest, number_from, Man, White, Black, King, Queen}
use Rattle.chess.proofs.Common.{Rook, Knight, Pawn, KingSide, QueenSide, Direction, North}
use Rattle.chess.proofs.AxisSteps.{even_gaps}

-- no way leads from h4 to a5, so no rook or bishop reaches it
h4_a5 : (way : Direction) (k : ℕ)
    → IsAhead way k (record { file = 8; rank = 4 }) (record { file = 1; rank = 5 }) → ⊥
h4_a5 way k a =
    let even =
    even_gaps way k (record { file = 8; rank = 4 }) (record { file = 1; rank = 5 }) a
    (omega arith) (omega arith) in omega (arith, even)

rook_h4_not_a5 : (p : Placement)
    → Reaches p White Rook (record { file = 8; rank = 4 }) (record { file = 1; rank = 5 }) → ⊥
rook_h4_not_a5 p r = h4_a5 r.0 r.2.steps r.2.ahead

-- a knight on h1 reaches f2, and not f3
knight_h1_f2 : (p : Placement)
    → Reaches p White Knight (record { file = 8; rank = 1 }) (record { file = 6; rank = 2 })
knight_h1_f2 p = inr (refl, refl)

knight_h1_not_f3 : (p : Placement)
    → Reaches p White Knight (record { file = 8; rank = 1 }) (record { file = 6; rank = 3 }) → ⊥
knight_h1_not_f3 p r = elim r [
  | inl a ↦ let e : 2 ≡ 1 = a.0 in omega arith
  | inr b ↦ let e : 2 ≡ 1 = b.1 in omega arith
]

-- a king on a1 reaches b2, and not c1
king_a1_b2 : (p : Placement)
    → Reaches p White King (record { file = 1; rank = 1 }) (record { file = 2; rank = 2 })
king_a1_b2 p = (omega arith, omega arith, omega arith)

king_a1_not_c1 : (p : Placement)
    → Reaches p White King (record { file = 1; rank = 1 }) (record { file = 3; rank = 1 }) → ⊥
king_a1_not_c1 p r = let e : 2 ≤ 1 = r.0 in omega arith

-- pawns attack forward: White's a4 the square b5, Black's h4 the square g3
pawn_a4_b5 : (p : Placement)
    → Reaches p White Pawn (record { file = 1; rank = 4 }) (record { file = 2; rank = 5 })
pawn_a4_b5 p = (refl, refl)

pawn_h4_g3 : (p : Placement)
    → Reaches p Black Pawn (record { file = 8; rank = 4 }) (record { file = 7; rank = 3 })
pawn_h4_g3 p = (refl, refl)

-- a man on a3 hides a4 from a rook on a1
a3_hides_a4 : (p : Placement) (man : Man) → man_at p (record { file = 1; rank = 3 }) ≡ Some man
    → IsOnRay p North (record { file = 1; rank = 1 }) (record { file = 1; rank = 4 }) → ⊥
a3_hides_a4 p man here ray =
    let three : ray.steps ≡ 3 = (let e = ray.ahead.1 in omega arith) in
    let empty : man_at p (record { file = 1; rank = 3 }) ≡ None =
    ray.clear 2 (record { file = 1; rank = 3 })
    (record {
      file_low = omega arith;
      file_high = omega arith;
      rank_low =
          omega arith;
      rank_high = omega arith;
    })
    (omega arith) (omega arith) (refl, refl) in
    let both : Some man ≡ None = sym here ∙ empty in cc

-- castling: White's king goes from e1 to g1 and the rook from h1 to f1; Black's king to c8 and the
-- rook from a8 to d8
white_castles : (king_from White ≡ record { file = 5; rank = 1 })
    × (king_to White KingSide ≡ record { file = 7; rank = 1 })
    × (rook_from White KingSide ≡ record { file = 8; rank = 1 })
    × (rook_to White KingSide ≡ record { file = 6; rank = 1 })
white_castles = (refl, refl, refl, refl)

black_castles : (king_to Black QueenSide ≡ record { file = 3; rank = 8 })
    × (rook_from Black QueenSide ≡ record { file = 1; rank = 8 })
    × (rook_to Black QueenSide ≡ record { file = 4; rank = 8 })
black_castles = (refl, refl, refl)

-- the text Qa1-b2# speaks of a queen from a1 to b2
queen_text : Spells (codes "Qa1-b2#")
    (record {
      letter = Some Queen;
      file = Some 1;
      rank = Some 1;
      target =
          record { file = 2; rank = 2 };
      promote = None;
    })
queen_text = record {
  file = (omega arith, omega arith);
  rank = (omega arith, omega arith);
  target = record {
    file_low = omega arith;
    file_high = omega arith;
    rank_low =
        omega arith;
    rank_high = omega arith;
  };
  promote = tt;
  sign = 45 ∷ [];
  sign_is = inr (45, refl, refl);
  equals = false;
  marks = 35 ∷ [];
  marks_are = refl;
  text = refl;
}

-- the text a8Q speaks of a pawn that becomes a queen on a8, without the =
promotion_text_read : Spells (codes "a8Q")
    (record {
      letter = None;
      file = None;
      rank = None;
      target =
          record { file = 1; rank = 8 };
      promote = Some Queen;
    })
promotion_text_read = record {
  file = tt;
  rank = tt;
  target = record {
    file_low = omega arith;
    file_high = omega arith;
    rank_low =
        omega arith;
    rank_high = omega arith;
  };
  promote = inl refl;
  sign = [];
  sign_is = inl refl;
  equals = false;
  marks = [];
  marks_are = refl;
  text = refl;
}

-- FEN: fields are parted by any number of spaces, ranks by slashes; 22K3 is not the shortest text
-- of its rank
three_fields : fields_of (codes "  a b  c ") ≡ codes "a" ∷ codes "b" ∷ codes "c" ∷ []
three_fields = refl

two_ranks : parted_at 47 (codes "8/4k3") ≡ codes "8" ∷ codes "4k3" ∷ []
two_ranks = refl

longer_rank : is_shortest (codes "22K3") ≡ false
longer_rank = refl

shortest_rank : is_shortest (codes "4K3") ≡ true
shortest_rank = refl

a_count : number_from 0 (codes "0012") ≡ 12
a_count = refl

-- ---- mate and stalemate

-- mate is a check without a move, stalemate is neither a check nor a mate; the mark of mate is #,
-- of another check +, and stalemate has none
mate_marked : (P : State) → IsCheck P.men P.turn → ¬ HasMove P → IsCheckSign P (codes "#")
mate_marked P in_check none = mate (in_check, none)

check_marked : (P : State) → IsCheck P.men P.turn → HasMove P → IsCheckSign P (codes "+")
check_marked P in_check some = check in_check (λ mated. mated.1 some)

stalemate_unmarked : (P : State) → IsStalemate P → IsCheckSign P []
stalemate_unmarked P stale = quiet stale.0

stalemate_has_no_move : (P : State) → IsStalemate P → HasMove P → ⊥
stalemate_has_no_move P stale some = stale.1 some

stalemate_is : (P : State) → ¬ IsCheck P.men P.turn → ¬ HasMove P → IsStalemate P
stalemate_is P calm none = (calm, none)
