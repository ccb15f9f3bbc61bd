-- The position that is made square by square is the initial one, and there is no other.
use Rattle.chess.proofs.Common.{◌≡◌, ◌≤◌, ℕ, zero, suc, true, inl, inr, ap, refl, sym, ◌∙◌}
use Rattle.chess.proofs.Common.{arith, Option, Some, None, Place, IsOnBoard, Placement, man_at}
use Rattle.chess.proofs.Common.{AreOnBoard, same_men, on_board_or_not, State, pawn_of, home_rank}
use Rattle.chess.proofs.Common.{pawn_rank, has_right, initial_piece, initial_man, initial_men}
use Rattle.chess.proofs.Common.{IsInitialMen, initial, Man, Side, White, Black, Wing, KingSide}
use Rattle.chess.proofs.Common.{QueenSide}
use Rattle.chess.specs.Public.Start.{IsInitial}
use Rattle.chess.proofs.StartFacts.{initial_at, initial_on}

-- a square of a file on a rank
abbrev at_rank : ℕ → ℕ → Place
at_rank file rank = record { file = file; rank = rank }

on_rank : (s : Place) (n : ℕ) → s.rank ≡ n → s ≡ at_rank s.file n
on_rank s n e = λ i. record { file = s.file; rank = e i }

on_board_at : (file rank : ℕ) → 1 ≤ file → file ≤ 8 → 1 ≤ rank → rank ≤ 8
    → IsOnBoard (at_rank file rank)
on_board_at file rank low high bottom top =
    record { file_low = low; file_high = high; rank_low = bottom; rank_high = top }

initial_pieces : (side : Side) (file : ℕ) → 1 ≤ file → file ≤ 8
    → man_at initial_men (at_rank file (home_rank side))
    ≡ Some (record { side = side; kind = initial_piece file })
initial_pieces White file low high =
    initial_at (at_rank file 1) (on_board_at file 1 low high (omega arith) (omega arith))
initial_pieces Black file low high =
    initial_at (at_rank file 8) (on_board_at file 8 low high (omega arith) (omega arith))

initial_pawns : (side : Side) (file : ℕ) → 1 ≤ file → file ≤ 8
    → man_at initial_men (at_rank file (pawn_rank side)) ≡ Some (pawn_of side)
initial_pawns White file low high =
    initial_at (at_rank file 2) (on_board_at file 2 low high (omega arith) (omega arith))
initial_pawns Black file low high =
    initial_at (at_rank file 7) (on_board_at file 7 low high (omega arith) (omega arith))

middle : (s : Place) (n : ℕ) → s.rank ≡ n → 3 ≤ n → n ≤ 6 → initial_man s ≡ None
middle s zero e low high = absurd (omega arith)
middle s (suc zero) e low high = absurd (omega arith)
middle s (suc (suc zero)) e low high = absurd (omega arith)
middle s (suc (suc (suc zero))) e low high = ap initial_man (on_rank s 3 e)
middle s (suc (suc (suc (suc zero)))) e low high = ap initial_man (on_rank s 4 e)
middle s (suc (suc (suc (suc (suc zero))))) e low high = ap initial_man (on_rank s 5 e)
middle s (suc (suc (suc (suc (suc (suc zero)))))) e low high = ap initial_man (on_rank s 6 e)
middle s (suc (suc (suc (suc (suc (suc (suc n))))))) e low high = absurd (omega arith)

-- a square off the board holds no man
none_off : (p : Placement) (s : Place) (o : Option Man) → man_at p s ≡ o → AreOnBoard p
    → (IsOnBoard s → ⊥) → man_at p s ≡ None
none_off p s None e men off = e
none_off p s (Some man) e men off = absurd (off (men s man e))

initial_empty : (s : Place) → 3 ≤ s.rank → s.rank ≤ 6 → man_at initial_men s ≡ None
initial_empty s low high = elim (on_board_or_not s) [
  | inl on ↦ initial_at s on ∙ middle s s.rank refl low high
  | inr off ↦ none_off initial_men s (man_at initial_men s) refl initial_on off
]

all_rights : (side : Side) (wing : Wing) → has_right initial.rights side wing ≡ true
all_rights White KingSide = refl
all_rights Black KingSide = refl
all_rights _ _ = refl

pub initial_is_initial : IsInitial initial
initial_is_initial = record {
  men = record {
    on_board = initial_on;
    pieces = initial_pieces;
    pawns = initial_pawns;
    empty =
        initial_empty;
  };
  turn = refl;
  rights = all_rights;
  en_passant = refl;
  halfmove_clock = refl;
  fullmove_number = refl;
}

-- ---- and there is no other

same_on : (p : Placement) → IsInitialMen p → (s : Place) (n : ℕ) → IsOnBoard s → s.rank ≡ n
    → man_at p s ≡ man_at initial_men s
same_on p are s zero on e = let low = on.rank_low in absurd (omega arith)
same_on p are s (suc zero) on e =
    rw (on_rank s 1 e) (are.pieces White s.file on.file_low on.file_high ∙ sym (initial_pieces White
    s.file on.file_low on.file_high))
same_on p are s (suc (suc zero)) on e =
    rw (on_rank s 2 e) (are.pawns White s.file on.file_low on.file_high ∙ sym (initial_pawns White
    s.file on.file_low on.file_high))
same_on p are s (suc (suc (suc zero))) on e =
    are.empty s (omega arith) (omega arith) ∙ sym (initial_empty s (omega arith) (omega arith))
same_on p are s (suc (suc (suc (suc zero)))) on e =
    are.empty s (omega arith) (omega arith) ∙ sym (initial_empty s (omega arith) (omega arith))
same_on p are s (suc (suc (suc (suc (suc zero))))) on e =
    are.empty s (omega arith) (omega arith) ∙ sym (initial_empty s (omega arith) (omega arith))
same_on p are s (suc (suc (suc (suc (suc (suc zero)))))) on e =
    are.empty s (omega arith) (omega arith) ∙ sym (initial_empty s (omega arith) (omega arith))
same_on p are s (suc (suc (suc (suc (suc (suc (suc zero))))))) on e =
    rw (on_rank s 7 e) (are.pawns Black s.file on.file_low on.file_high ∙ sym (initial_pawns Black
    s.file on.file_low on.file_high))
same_on p are s (suc (suc (suc (suc (suc (suc (suc (suc zero)))))))) on e =
    rw (on_rank s 8 e) (are.pieces Black s.file on.file_low on.file_high ∙ sym (initial_pieces Black
    s.file on.file_low on.file_high))
same_on p are s (suc (suc (suc (suc (suc (suc (suc (suc (suc n))))))))) on e = let high =
    on.rank_high in absurd (omega arith)

one_placement : (p : Placement) → IsInitialMen p → p ≡ initial_men
one_placement p are = same_men p initial_men (λ s. elim (on_board_or_not s) [
  | inl on ↦ same_on p are s s.rank on refl
  | inr off ↦ none_off p s (man_at p s) refl are.on_board off
      ∙ sym (none_off initial_men s (man_at initial_men s) refl initial_on off)
])

pub one_initial : (P : State) → IsInitial P → P ≡ initial
one_initial P is =
    let men = one_placement P.men is.men in
    let a = is.rights White KingSide in
    let b = is.rights White QueenSide in
    let c = is.rights Black KingSide in
    let d = is.rights Black QueenSide in λ i. record {
      men = men i;
      turn = is.turn i;
      rights = record {
        white_king_side = a i;
        white_queen_side = b i;
        black_king_side =
            c i;
        black_queen_side = d i;
      };
      en_passant = is.en_passant i;
      halfmove_clock = is.halfmove_clock i;
      fullmove_number = is.fullmove_number i;
    }
