-- Worked rows of how men go, of the first position and of the letters of texts; and what these
-- definitions refuse.
use Rattle.std.proofs.Common.{◌==◌}
use Rattle.std.specs.List.{filter}
use Rattle.std.specs.declared.cmp.Ordering.TheVariants.{Less, Equal, Greater}
use Rattle.chess.proofs.Common.{◌≡◌, ◌≤◌, ◌+◌, ◌∙◌, ◌&&◌, not, ℕ, zero, suc, Bool, true, false}
use Rattle.chess.proofs.Common.{List, [], ◌∷◌, codes, Option, None, Some, inl, inr, ap, refl, sym}
use Rattle.chess.proofs.Common.{arith, IsForward, before_first, without_empty, is_right_letter}
use Rattle.chess.proofs.Common.{file_letter, rank_digit, Placement, no_men, man_at, men_of, IsEmpty}
use Rattle.chess.proofs.Common.{State, king_of, pawn_of, rook_of, home_rank, pawn_rank, IsSpokenOf}
use Rattle.chess.proofs.Common.{HasRival, IsCastlingText, Places, no_places, IsAttacker, Place}
use Rattle.chess.proofs.Common.{place_cmp, initial_piece, initial_man, IsInitialMen, man_at-same}
use Rattle.chess.proofs.Common.{is_in-empty, Kind, King, Queen, Rook, Bishop, Knight, Man, Side}
use Rattle.chess.proofs.Common.{White, Black, Wing, KingSide, QueenSide, Move}
use Rattle.chess.specs.Public.Moves.{IsSingleStep, IsDoubleStep, IsPawnCapture, IsPawnMove}
use Rattle.chess.specs.Public.Moves.{IsKingMove, Goes, is_pawn, is_square, is_en_passant, arriving}
use Rattle.chess.specs.Public.Moves.{with_rook, rights_after, IsUnbarred, IsBarred}
use Rattle.chess.specs.Public.Placements.{first_men}
use Rattle.chess.specs.Public.Positions.{king_to_file, rook_from_file, rook_to_file}
use Rattle.chess.proofs.NamedFacts.{not_both}

abbrev at : ℕ → ℕ → Place
at file rank = record { file = file; rank = rank }

-- a move without promotion or castling
abbrev step : Place → Place → Move
step from to = record { from = from; to = to; promote = None; castle = None }

-- Squares in order, and men put on them one after another.

squares_in_order : place_cmp (at 1 2) (at 1 3) ≡ Less
squares_in_order = refl

file_comes_first : place_cmp (at 2 1) (at 1 8) ≡ Greater
file_comes_first = refl

same_place : place_cmp (at 2 1) (at 2 1) ≡ Equal
same_place = refl

no_men_on_no_squares : (cell : ℕ → Option Man) → first_men cell 0 ≡ no_men
unfolding first_men
no_men_on_no_squares cell = refl

all_squares_have_men : (cell : ℕ → Option Man) → men_of cell ≡ first_men cell 64
all_squares_have_men cell = refl

-- Castling.

rook_is_a_rook : rook_of White ≡ record { side = White; kind = Rook }
rook_is_a_rook = refl

king_side : king_to_file KingSide ∷ rook_from_file KingSide ∷ rook_to_file KingSide ∷ []
    ≡ 7 ∷ 8 ∷ 6 ∷ []
king_side = refl

queen_side : king_to_file QueenSide ∷ rook_from_file QueenSide ∷ rook_to_file QueenSide ∷ []
    ≡ 3 ∷ 1 ∷ 4 ∷ []
queen_side = refl

no_rook_moves_else : (p : Placement) → with_rook White None p ≡ p
no_rook_moves_else p = refl

-- the rook stands on f1 after White castles on the king's side, and no longer on h1
rook_comes_to_f1 : (p : Placement) → man_at (with_rook White (Some KingSide) p) (at 6 1)
    ≡ Some (rook_of White)
rook_comes_to_f1 p = man_at-same _ (at 6 1) (Some (rook_of White))

-- castling is barred where it is, and no other move is
no_barred_castling : (P : State) (wing : Wing) → IsBarred P wing → IsUnbarred P (Some wing) → ⊥
no_barred_castling P wing barred unbarred = unbarred barred

other_moves_are_free : (P : State) → IsUnbarred P None
other_moves_are_free P = tt

-- a right is lost with its king's first move, and the other side's stay
rights_lost : rights_after
    (record {
      white_king_side =
          true;
      white_queen_side = true;
      black_king_side = true;
      black_queen_side = true;
    })
    (step (at 5 1) (at 5 2))
    ≡ record {
      white_king_side =
          false;
      white_queen_side = false;
      black_king_side = true;
      black_queen_side = true;
    }
rights_lost = refl

-- a rook's capture in the other corner takes a right of each side
corner_rights_lost : rights_after
    (record {
      white_king_side =
          true;
      white_queen_side = true;
      black_king_side = true;
      black_queen_side = true;
    })
    (step (at 8 1) (at 8 8))
    ≡ record {
      white_king_side =
          false;
      white_queen_side = true;
      black_king_side = false;
      black_queen_side = true;
    }
corner_rights_lost = refl

-- The first position.

pieces_in_files :
    initial_piece 1 ∷ initial_piece 2 ∷ initial_piece 3 ∷ initial_piece 4 ∷ initial_piece 5
    ∷ initial_piece 6 ∷ initial_piece 7 ∷ initial_piece 8 ∷ []
    ≡ Rook ∷ Knight ∷ Bishop ∷ Queen ∷ King ∷ Bishop ∷ Knight ∷ Rook ∷ []
pieces_in_files = refl

men_in_ranks :
    initial_man (at 5 1) ∷ initial_man (at 5 2) ∷ initial_man (at 5 3) ∷ initial_man (at 5 6)
    ∷ initial_man (at 5 7) ∷ initial_man (at 4 8) ∷ []
    ≡ Some (king_of White) ∷ Some (pawn_of White) ∷ None ∷ None ∷ Some (pawn_of Black)
    ∷ Some (record { side = Black; kind = Queen }) ∷ []
men_in_ranks = refl

no_first_men_without_a_king : (p : Placement) → IsEmpty p (at 5 1) → IsInitialMen p → ⊥
no_first_men_without_a_king p empty are =
    let both : Some (king_of White)
    ≡ None = sym (are.pieces White 5 (omega arith) (omega arith)) ∙ empty in cc

-- Pawns.

no_step_onto_a_man : (P : State) (s t : Place) (man : Man) → man_at P.men t ≡ Some man
    → IsSingleStep P s t → ⊥
no_step_onto_a_man P s t man here goes = let both : Some man ≡ None = sym here ∙ goes.2 in cc

no_step_to_another_file : (P : State) → IsSingleStep P (at 5 2) (at 4 3) → ⊥
no_step_to_another_file P goes = let file : 4 ≡ 5 = goes.0 in omega arith

no_double_step_later : (P : State) → P.turn ≡ White → IsDoubleStep P (at 5 3) (at 5 5) → ⊥
no_double_step_later P turn goes = white P.turn turn goes.from_first_rank
  where
    white : (side : Side) → side ≡ White → 3 ≡ pawn_rank side → ⊥
    white White is rank = omega (arith, rank)
    white Black is rank = cc

no_double_step_over_a_man : (P : State) (s t : Place) (man : Man) → ((u : Place)
    → man_at P.men u ≡ Some man)
    → IsDoubleStep P s t → ⊥
no_double_step_over_a_man P s t man all goes =
    let both : Some man ≡ None = sym (all goes.passed) ∙ goes.empty in cc

no_capture_of_nothing : (P : State) (s t : Place) → IsEmpty P.men t → P.en_passant ≡ None
    → IsPawnCapture P s t → ⊥
no_capture_of_nothing P s t empty none goes = elim goes.1 [
  | inl there ↦ let both : Some there.0 ≡ None = sym there.1 ∙ empty in cc
  | inr passed ↦ let both : Some t ≡ None = sym passed ∙ none in cc
]

-- a pawn goes in no other way
no_pawn_stays : (P : State) (s : Place) → IsPawnMove P s s → ⊥
no_pawn_stays P s goes = elim goes [
  | inl one ↦ ahead P.turn s.rank one.1
  | inr more ↦ elim more [
    | inl two ↦ twice P.turn s.rank two.passed.rank two.first two.second
    | inr takes ↦ ahead P.turn s.rank takes.0.1
  ]
]
  where
    ahead : (side : Side) (rank : ℕ) → IsForward side rank rank → ⊥
    ahead White rank is = omega (arith, is)
    ahead Black rank is = omega (arith, is)

    twice : (side : Side) (rank passed : ℕ) → IsForward side rank passed
        → IsForward side passed rank → ⊥
    twice White rank passed first second = omega (arith, first, second)
    twice Black rank passed first second = omega (arith, first, second)

-- Other men: a king's move is one step or castling, and nothing but a pawn becomes another man.

no_far_king : (P : State) → IsKingMove P (step (at 5 1) (at 7 1)) None → ⊥
no_far_king P goes = let far : 2 ≤ 1 = goes.0 in omega arith

no_castling_elsewhere : (P : State) → P.turn ≡ White
    → IsKingMove P (step (at 5 1) (at 6 1)) (Some KingSide) → ⊥
no_castling_elsewhere P turn goes = there P.turn turn goes.to
  where
    there : (side : Side) → side ≡ White → at 6 1 ≡ at 7 (home_rank side) → ⊥
    there White is to = let file : 6 ≡ 7 = ap (λ s. s.file) to in omega (arith, file)
    there Black is to = cc

no_queen_becomes_a_man : (P : State) (s t : Place) (kind : Kind)
    → Goes P (record { from = s; to = t; promote = Some kind; castle = None }) Queen → ⊥
no_queen_becomes_a_man P s t becomes goes = let none = goes.1 in cc

no_knight_castles : (P : State) (s t : Place) (wing : Wing)
    → Goes P (record { from = s; to = t; promote = None; castle = Some wing }) Knight → ⊥
no_knight_castles P s t wing goes = let none = goes.0 in cc

pawn_is_a_pawn : is_pawn (Some (pawn_of Black)) ≡ true
pawn_is_a_pawn = refl

others_are_no_pawns : is_pawn (Some (king_of White)) ∷ is_pawn None ∷ [] ≡ false ∷ false ∷ []
others_are_no_pawns = refl

same_square_is_found : is_square (Some (at 5 3)) (at 5 3) ≡ true
same_square_is_found = refl

other_squares_are_not :
    is_square (Some (at 5 3)) (at 5 6) ∷ is_square (Some (at 5 3)) (at 4 3)
    ∷ is_square None (at 5 3) ∷ []
    ≡ false ∷ false ∷ false ∷ []
other_squares_are_not = refl

nothing_passes_without_a_square : (P : State) (m : Move) → P.en_passant ≡ None
    → is_en_passant P m ≡ true → ⊥
nothing_passes_without_a_square P m none passes =
    by (is_pawn (man_at P.men m.from)) (m.from.file == m.to.file) P.en_passant none passes
  where
    by : (pawn same : Bool) (square : Option Place) → square ≡ None
        → pawn && not same && is_square square m.to ≡ true → ⊥
    by true true square none passes = cc
    by true false (Some s) none passes = cc
    by true false None none passes = cc
    by false same square none passes = cc

pawn_becomes_a_queen : (P : State) (s : Place) → arriving P (Some Queen) s
    ≡ Some (record { side = P.turn; kind = Queen })
pawn_becomes_a_queen P s = refl

man_stays_as_it_is : (P : State) (s : Place) → arriving P None s ≡ man_at P.men s
man_stays_as_it_is P s = refl

-- Texts.

files_and_ranks : file_letter 1 ∷ rank_digit 1 ∷ file_letter 8 ∷ rank_digit 8 ∷ [] ≡ codes "a1h8"
files_and_ranks = refl

byte_in_front : before_first 97 (codes "b" ∷ codes "c" ∷ []) ≡ codes "ab" ∷ codes "c" ∷ []
byte_in_front = refl

byte_alone : before_first 97 [] ≡ codes "a" ∷ []
byte_alone = refl

empty_texts_are_dropped : without_empty ([] ∷ codes "a" ∷ [] ∷ codes "b" ∷ []) ≡ codes "a"
    ∷ codes "b" ∷ []
empty_texts_are_dropped = refl

abbrev numbers : ℕ → ℕ → List ℕ
numbers first zero = []
numbers first (suc count) = first ∷ numbers (first + 1) count

letters_of_rights : filter is_right_letter (numbers 0 256) ≡ codes "KQkq"
letters_of_rights = refl

no_rival_of_itself : (P : State) (m : Move) → HasRival P m (λ s. s ≡ m.from) → ⊥
no_rival_of_itself P m (s, rival, same) = rival.other same

-- a text of castling speaks of no other move
no_step_is_castling : (P : State) (x : List ℕ) (m : Move) (wing : Wing) → IsCastlingText wing x
    → m.castle ≡ None
    → IsSpokenOf P x m → ⊥
no_step_is_castling P x m wing castles none spoken = elim spoken [
  | inl text ↦ let both : Some text.0 ≡ None = sym text.2 ∙ none in cc
  | inr said ↦ not_both x wing said.0 castles said.1
]

no_attacker_outside : (p : Placement) (man : Man) (target s : Place)
    → IsAttacker p man target no_places s → ⊥
no_attacker_outside p man target s is = let both = sym is.0 ∙ is_in-empty s in cc

no_attacker_that_is_another : (p : Placement) (man : Man) (target s : Place) (among : Places)
    → IsEmpty p s
    → IsAttacker p man target among s → ⊥
no_attacker_that_is_another p man target s among empty is = let both : Some man
    ≡ None = sym is.1 ∙ empty in cc
