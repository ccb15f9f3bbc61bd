-- Worked rows of squares, attacks, positions, moves and sets: what the Laws say of single squares.
use Rattle.std.specs.FinMap.{get-empty}
use Rattle.chess.proofs.Common.{◌≡◌, ◌≤◌, ◌+◌, ℕ, true, false, inl, inr, ap, refl, sym, subst, ◌∙◌}
use Rattle.chess.proofs.Common.{arith, Some, None, man_at-same, man_at-other, is_in-empty, Place}
use Rattle.chess.proofs.Common.{IsOnBoard, IsStraight, IsAhead, gap, square_at, index_of}
use Rattle.chess.proofs.Common.{same_square, place_cmp, Placement, no_men, man_at, with_man}
use Rattle.chess.proofs.Common.{opposite, IsOccupiedBy, IsEmpty, Reaches, IsOnRay, IsForward}
use Rattle.chess.proofs.Common.{IsNear, IsJump, IsPawnAttack, IsAttacked, State, king_of, pawn_of}
use Rattle.chess.proofs.Common.{home_rank, pawn_rank, passed_rank, has_right, king_from, king_to}
use Rattle.chess.proofs.Common.{rook_from, rook_to, FitsEnPassant, IsSound, IsPromotion, Promotes}
use Rattle.chess.proofs.Common.{IsBetween, keeps_right, Places, no_places, is_in, HoldsExactly}
use Rattle.chess.proofs.Common.{IsTakenFirst, Man, White, Black, Queen, Rook, Bishop, Knight}
use Rattle.chess.proofs.Common.{KingSide, QueenSide, CastlingRights, Move, North, South, East, West}
use Rattle.chess.proofs.Common.{NorthEast, NorthWest, SouthEast, SouthWest}
use Rattle.chess.specs.Public.Attacks.{IsAttackedFrom}
use Rattle.chess.specs.Public.Moves.{one_more, fullmove_number_after}

abbrev at : ℕ → ℕ → Place
at file rank = record { file = file; rank = rank }

-- ---- squares

-- a1 and h8 are squares of the board, and there is no file or rank 0 or 9
corners : IsOnBoard (at 1 1) × IsOnBoard (at 8 8)
corners = (
  record {
    file_low = omega arith;
    file_high = omega arith;
    rank_low = omega arith;
    rank_high =
        omega arith;
  },
  record {
    file_low = omega arith;
    file_high = omega arith;
    rank_low = omega arith;
    rank_high =
        omega arith;
  },
)

no_file_0 : IsOnBoard (at 0 1) → ⊥
no_file_0 h = let e : 1 ≤ 0 = h.file_low in omega arith

no_file_9 : IsOnBoard (at 9 1) → ⊥
no_file_9 h = let e : 9 ≤ 8 = h.file_high in omega arith

no_rank_0 : IsOnBoard (at 1 0) → ⊥
no_rank_0 h = let e : 1 ≤ 0 = h.rank_low in omega arith

no_rank_9 : IsOnBoard (at 1 9) → ⊥
no_rank_9 h = let e : 9 ≤ 8 = h.rank_high in omega arith

-- from d4 two steps lead to d6, d2, f4, b4, f6, b6, f2 and b2
north_of_d4 : IsAhead North 2 (at 4 4) (at 4 6)
north_of_d4 = (refl, refl)

south_of_d4 : IsAhead South 2 (at 4 4) (at 4 2)
south_of_d4 = (refl, refl)

east_of_d4 : IsAhead East 2 (at 4 4) (at 6 4)
east_of_d4 = (refl, refl)

west_of_d4 : IsAhead West 2 (at 4 4) (at 2 4)
west_of_d4 = (refl, refl)

north_east_of_d4 : IsAhead NorthEast 2 (at 4 4) (at 6 6)
north_east_of_d4 = (refl, refl)

north_west_of_d4 : IsAhead NorthWest 2 (at 4 4) (at 2 6)
north_west_of_d4 = (refl, refl)

south_east_of_d4 : IsAhead SouthEast 2 (at 4 4) (at 6 2)
south_east_of_d4 = (refl, refl)

south_west_of_d4 : IsAhead SouthWest 2 (at 4 4) (at 2 2)
south_west_of_d4 = (refl, refl)

-- four ways are straight, and the diagonals are not
straight_ways : IsStraight North × IsStraight South × IsStraight East × IsStraight West
straight_ways = (tt, tt, tt, tt)

diagonal_ways : (IsStraight NorthEast → ⊥) × (IsStraight NorthWest → ⊥) × (IsStraight SouthEast → ⊥)
    × (IsStraight SouthWest → ⊥)
diagonal_ways = ((λ h. h), (λ h. h), (λ h. h), (λ h. h))

gaps : (gap 3 5 ≡ 2) × (gap 5 3 ≡ 2) × (gap 4 4 ≡ 0)
gaps = (refl, refl, refl)

-- a1, b1, h1, a2 and h8 are the squares 0, 1, 7, 8 and 63
places : (square_at 0 ≡ at 1 1) × (square_at 1 ≡ at 2 1) × (square_at 7 ≡ at 8 1)
    × (square_at 8 ≡ at 1 2) × (square_at 63 ≡ at 8 8)
places = (refl, refl, refl, refl, refl)

indices : (index_of (at 1 1) ≡ 0) × (index_of (at 8 1) ≡ 7) × (index_of (at 1 2) ≡ 8)
    × (index_of (at 8 8) ≡ 63)
indices = (refl, refl, refl, refl)

same_squares : (same_square (at 3 4) (at 3 4) ≡ true) × (same_square (at 3 4) (at 4 3) ≡ false)
    × (same_square (at 3 4) (at 3 5) ≡ false)
same_squares = (refl, refl, refl)

-- ---- placements

sides : (opposite White ≡ Black) × (opposite Black ≡ White)
sides = (refl, refl)

-- one man on e4, and then none
king_e4 : Placement
king_e4 = with_man no_men (at 5 4) (Some (king_of White))

on_e4 : (man_at king_e4 (at 5 4) ≡ Some (king_of White)) × (man_at king_e4 (at 4 5) ≡ None)
unfolding king_e4
on_e4 = (
  man_at-same no_men (at 5 4) (Some (king_of White)),
  man_at-other no_men (at 5 4) (at 4 5) (Some (king_of White)) (λ e. let f : ◌≡◌ {A = ℕ} 4 5 =
      ap (λ (s : Place). s.file) e in omega arith)
      ∙ get-empty place_cmp (at 4 5),
)

gone_from_e4 : man_at (with_man king_e4 (at 5 4) None) (at 5 4) ≡ None
unfolding king_e4
gone_from_e4 = man_at-same king_e4 (at 5 4) None

held_e4 : IsOccupiedBy king_e4 White (at 5 4)
held_e4 = (king_of White, on_e4.0, refl)

-- ---- attacks

-- a king attacks its eight neighbours, and neither its own square nor one two files or two ranks
-- away
king_near : IsNear (at 4 4) (at 5 5) × IsNear (at 4 4) (at 4 3) × IsNear (at 4 4) (at 3 4)
king_near = (
  (omega arith, omega arith, omega arith),
  (omega arith, omega arith, omega arith),
  (omega arith, omega arith, omega arith),
)

king_not_itself : IsNear (at 4 4) (at 4 4) → ⊥
king_not_itself h = let e : 1 ≤ 0 = h.2 in omega arith

king_not_two_files : IsNear (at 4 4) (at 6 4) → ⊥
king_not_two_files h = let e : 2 ≤ 1 = h.0 in omega arith

king_not_two_ranks : IsNear (at 4 4) (at 4 6) → ⊥
king_not_two_ranks h = let e : 2 ≤ 1 = h.1 in omega arith

-- a knight's two jumps
knight_jumps : IsJump (at 7 1) (at 6 3) × IsJump (at 7 1) (at 5 2)
knight_jumps = (inl (refl, refl), inr (refl, refl))

-- pawns go up the board for White and down for Black, and attack no square ahead, beside or back
forward : IsForward White 2 3 × IsForward Black 7 6
forward = (refl, refl)

pawn_not_ahead : IsPawnAttack White (at 4 4) (at 4 5) → ⊥
pawn_not_ahead h = let e : 0 ≡ 1 = h.0 in omega arith

pawn_not_at_rear : IsPawnAttack White (at 4 4) (at 5 3) → ⊥
pawn_not_at_rear h = let e : 3 ≡ 5 = h.1 in omega arith

pawn_not_beside : IsPawnAttack Black (at 4 4) (at 5 4) → ⊥
pawn_not_beside h = let e : 4 ≡ 5 = h.1 in omega arith

-- on the empty board a rook on a1 attacks a8, a bishop h8, and a queen both
rook_a1_a8 : Reaches no_men White Rook (at 1 1) (at 1 8)
rook_a1_a8 = (
  North,
  tt,
  record {
    steps = 7;
    far = omega arith;
    ahead = (refl, refl);
    clear =
        λ j u on some less ahead. get-empty place_cmp u;
  },
)

bishop_a1_h8 : Reaches no_men White Bishop (at 1 1) (at 8 8)
bishop_a1_h8 = (
  NorthEast,
  (λ h. h),
  record {
    steps = 7;
    far = omega arith;
    ahead = (refl, refl);
    clear =
        λ j u on some less ahead. get-empty place_cmp u;
  },
)

queen_a1 : Reaches no_men White Queen (at 1 1) (at 1 8)
    × Reaches no_men White Queen (at 1 1) (at 8 8)
queen_a1 = ((rook_a1_a8.0, rook_a1_a8.2), (bishop_a1_h8.0, bishop_a1_h8.2))

-- no man attacks its own square by a ray
no_steps : (p : Placement) → IsOnRay p North (at 1 1) (at 1 1) → ⊥
no_steps p ray = let far = ray.far in let e : 1 ≡ 1 + ray.steps = ray.ahead.1 in omega arith

-- the king on e4 attacks e5, and White attacks it
e4_e5 : IsAttackedFrom king_e4 (at 5 4) (at 5 5)
e4_e5 = record {
  man = king_of White;
  here = on_e4.0;
  reaches =
      (omega arith, omega arith, omega arith);
}

white_attacks_e5 : IsAttacked king_e4 White (at 5 5)
white_attacks_e5 =
    record {
      from = at 5 4;
      man = king_of White;
      here = on_e4.0;
      own = refl;
      reaches =
          (omega arith, omega arith, omega arith);
    }

-- ---- positions

ranks_of_sides : (home_rank White ≡ 1) × (home_rank Black ≡ 8) × (pawn_rank White ≡ 2)
    × (pawn_rank Black ≡ 7) × (passed_rank White ≡ 3)
    × (passed_rank Black ≡ 6)
ranks_of_sides = (refl, refl, refl, refl, refl, refl)

castling_squares : (king_from Black ≡ at 5 8) × (king_to White QueenSide ≡ at 3 1)
    × (rook_from White QueenSide ≡ at 1 1)
    × (rook_to White QueenSide ≡ at 4 1) × (king_to Black KingSide ≡ at 7 8)
    × (rook_from Black KingSide ≡ at 8 8) × (rook_to Black KingSide ≡ at 6 8)
castling_squares = (refl, refl, refl, refl, refl, refl, refl)

-- each right is its own
one_right : CastlingRights
one_right =
    record {
      white_king_side = true;
      white_queen_side = false;
      black_king_side =
          false;
      black_queen_side = false;
    }

rights_held : (has_right one_right White KingSide ≡ true)
    × (has_right one_right White QueenSide ≡ false) × (has_right one_right Black KingSide ≡ false)
    × (has_right one_right Black QueenSide ≡ false)
unfolding one_right
rights_held = (refl, refl, refl, refl)

-- with White to move d6 fits as an en passant square where d6 and d7 are empty and a pawn of Black
-- stands on d5
d6_fits : (p : Placement) → IsEmpty p (at 4 6) → IsEmpty p (at 4 7)
    → man_at p (at 4 5) ≡ Some (pawn_of Black) → FitsEnPassant p White (at 4 6)
d6_fits p passed origin pawn = record {
  on_board =
      record {
        file_low = omega arith;
        file_high = omega arith;
        rank_low = omega arith;
        rank_high =
            omega arith;
      };
  rank = refl;
  empty = passed;
  origin =
      λ t file rank. subst (IsEmpty p) (sym (λ i. record { file = file i; rank = rank i })) origin;
  pawn = λ t file rank.
      let below : t.rank ≡ 5 = omega arith in
      subst (λ (s : Place). man_at p s
      ≡ Some (pawn_of Black)) (sym (λ i. record { file = file i; rank = below i })) pawn;
}

d6_needs_d6 : (p : Placement) → FitsEnPassant p White (at 4 6) → IsEmpty p (at 4 6)
d6_needs_d6 p fits = fits.empty

d6_needs_d7 : (p : Placement) → FitsEnPassant p White (at 4 6) → IsEmpty p (at 4 7)
d6_needs_d7 p fits = fits.origin (at 4 7) refl refl

d6_needs_d5 : (p : Placement) → FitsEnPassant p White (at 4 6)
    → man_at p (at 4 5) ≡ Some (pawn_of Black)
d6_needs_d5 p fits = fits.pawn (at 4 5) refl refl

e3_needs_e2 : (p : Placement) → FitsEnPassant p Black (at 5 3) → IsEmpty p (at 5 2)
e3_needs_e2 p fits = fits.origin (at 5 2) refl refl

e3_needs_e4 : (p : Placement) → FitsEnPassant p Black (at 5 3)
    → man_at p (at 5 4) ≡ Some (pawn_of White)
e3_needs_e4 p fits = fits.pawn (at 5 4) refl refl

e3_not_for_white : (p : Placement) → FitsEnPassant p White (at 5 3) → ⊥
e3_not_for_white p fits = let e : 3 ≡ 6 = fits.rank in omega arith

-- in a sound position no pawn stands on a1 or h8, and no man on a square that is none
no_pawn_on_a1 : (P : State) → IsSound P → man_at P.men (at 1 1) ≡ Some (pawn_of Black) → ⊥
no_pawn_on_a1 P sound here = (sound.pawns Black (at 1 1) here).0 refl

no_pawn_on_h8 : (P : State) → IsSound P → man_at P.men (at 8 8) ≡ Some (pawn_of White) → ⊥
no_pawn_on_h8 P sound here = (sound.pawns White (at 8 8) here).1 refl

no_man_on_i1 : (P : State) (man : Man) → IsSound P → man_at P.men (at 9 1) ≡ Some man → ⊥
no_man_on_i1 P man sound here = no_file_9 (sound.on_board (at 9 1) man here)

-- ---- moves

-- Promotion is to a queen, a rook, a bishop or a knight, on the other side's home rank
promotions : IsPromotion (Some Queen) × IsPromotion (Some Rook) × IsPromotion (Some Bishop)
    × IsPromotion (Some Knight)
promotions = (inl refl, inr (inl refl), inr (inr (inl refl)), inr (inr (inr refl)))

white_promotes_on_a8 : Promotes White (at 1 8) (Some Queen)
white_promotes_on_a8 = inl (refl, inl refl)

nothing_on_a7 : Promotes White (at 1 7) None
nothing_on_a7 = inr ((λ e. omega (arith, e)), refl)

-- f1 and g1 stand between king and rook on the king's side, b1, c1 and d1 on the other
between : IsBetween KingSide 6 × IsBetween KingSide 7 × IsBetween QueenSide 2
    × IsBetween QueenSide 3 × IsBetween QueenSide 4
between = (
  (omega arith, omega arith),
  (omega arith, omega arith),
  (omega arith, omega arith),
  (omega arith, omega arith),
  (omega arith, omega arith),
)

not_between : (IsBetween KingSide 5 → ⊥) × (IsBetween KingSide 8 → ⊥) × (IsBetween QueenSide 1 → ⊥)
    × (IsBetween QueenSide 5 → ⊥)
not_between = (
  (λ h. let e : 6 ≤ 5 = h.0 in omega arith),
  (λ h. let e : 8 ≤ 7 = h.1 in omega arith),
  (λ h. let e : 2 ≤ 1 = h.0 in omega arith),
  (λ h. let e : 5 ≤ 4 = h.1 in omega arith),
)

-- counts: one more, and none beyond the largest number; the number goes up after Black's move
counts : (one_more 5 ≡ 6) × (one_more 9999999 ≡ 10000000) × (one_more 4294967294 ≡ 4294967295)
    × (one_more 4294967295 ≡ 4294967295)
counts = (refl, refl, refl, refl)

numbers : (fullmove_number_after White 3 ≡ 3) × (fullmove_number_after Black 3 ≡ 4)
numbers = (refl, refl)

-- the right on the king's side is lost by a move from e1, from h1 or to h1, and by no other
plain : Place → Place → Move
plain s t = record { from = s; to = t; promote = None; castle = None }

right_lost : (keeps_right one_right (plain (at 5 1) (at 5 2)) White KingSide ≡ false)
    × (keeps_right one_right (plain (at 8 1) (at 8 2)) White KingSide ≡ false)
    × (keeps_right one_right (plain (at 8 8) (at 8 1)) White KingSide ≡ false)
unfolding one_right plain
right_lost = (refl, refl, refl)

right_stays : (keeps_right one_right (plain (at 1 1) (at 1 8)) White KingSide ≡ true)
    × (keeps_right one_right (plain (at 5 8) (at 5 7)) White KingSide ≡ true)
unfolding one_right plain
right_stays = (refl, refl)

-- ---- sets

-- the empty set is that of no square, and no other set is
empty_holds : HoldsExactly (λ s. ⊥) no_places
empty_holds s =
    ((λ e. let f : false ≡ true = sym (is_in-empty s) ∙ e in absurd (cc)), (λ h. absurd h.1))

none_held : (set : Places) → HoldsExactly (λ s. ⊥) set → (s : Place) → is_in set s ≡ true → ⊥
none_held set holds s here = ((holds s).0 here).1

inside : (fact : Place → Type 0) (set : Places) → HoldsExactly fact set → is_in set (at 9 1) ≡ true
    → ⊥
inside fact set holds here = no_file_9 ((holds (at 9 1)).0 here).0

nothing_taken : IsTakenFirst no_places no_places None
nothing_taken = (refl, refl)

left_as_it_was : (old new : Places) → IsTakenFirst old new None → new ≡ old
left_as_it_was old new capture_square = capture_square.1
