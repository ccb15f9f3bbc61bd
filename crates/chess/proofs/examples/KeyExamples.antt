-- What keys tell apart, and what is no key: worked rows of the numbers of a key, positions that are
-- not the same, and lists that are neither keys nor pawns.
use Rattle.chess.proofs.Common.{◌≡◌, ◌≤◌, ◌^◌, ◌+◌, ℕ, Bool, true, false, List, length, get_or}
use Rattle.chess.proofs.Common.{Option, Some, None, ap, refl, sym, ◌∙◌, arith, same_Some, Place}
use Rattle.chess.proofs.Common.{IsOnBoard, index_of, man_at, row_of, has_bit, State, king_of}
use Rattle.chess.proofs.Common.{pawn_of, IsCheck, is_en_passant, men_after, initial, initial_man}
use Rattle.chess.proofs.Common.{Man, White, Black, Bishop, CastlingRights, Move}
use Rattle.chess.specs.Public.Moves.{TakesEnPassant, CanTakeEnPassant}
use Rattle.chess.specs.Public.Keys.{IsSamePosition, IsUsed, IsKey, ArePawns, number_of_rest}
use Rattle.chess.proofs.EnPassantFacts.{captures, none_without, takes_alike}
use Rattle.chess.proofs.PlaceFacts.{some_not_none}
use Rattle.chess.proofs.StartFacts.{initial_at}

-- White's king has the number 0, his pawn 5, Black's king 6, her bishop 9 and her pawn 11
rows : (row_of (king_of White) ≡ 0) × (row_of (pawn_of White) ≡ 5) × (row_of (king_of Black) ≡ 6)
    × (row_of (record { side = Black; kind = Bishop }) ≡ 9) × (row_of (pawn_of Black) ≡ 11)
rows = (refl, refl, refl, refl, refl)

-- 129 has the bits of a1 and h1, and not that of b1
bits : (has_bit 129 0 ≡ true) × (has_bit 129 7 ≡ true) × (has_bit 129 1 ≡ false)
bits = (refl, refl, refl)

rights_of : Bool → Bool → Bool → Bool → CastlingRights
rights_of a b c d = record {
  white_king_side = a;
  white_queen_side = b;
  black_king_side = c;
  black_queen_side = d;
}

-- the number of the rest: White to move with all rights; Black to move with none, and with e3
rests : (number_of_rest White (rights_of true true true true) None ≡ 30)
    × (number_of_rest Black (rights_of false false false false) None ≡ 1)
    × (number_of_rest Black (rights_of false false false false)
    (Some (record { file = 5; rank = 3 })) ≡ 673)
unfolding rights_of
rests = (refl, refl, refl)

-- each right has a bit of its own
each_right : (number_of_rest White (rights_of true false false false) None ≡ 2)
    × (number_of_rest White (rights_of false true false false) None ≡ 4)
    × (number_of_rest White (rights_of false false true false) None ≡ 8)
    × (number_of_rest White (rights_of false false false true) None ≡ 16)
unfolding rights_of
each_right = (refl, refl, refl, refl)

-- ---- positions

-- whatever their counts are
with_counts : State → ℕ → ℕ → State
with_counts P clock number = record P { halfmove_clock = clock; fullmove_number = number }

counts_do_not_matter : (P : State) (clock number : ℕ)
    → IsSamePosition P (with_counts P clock number)
unfolding with_counts
counts_do_not_matter P clock number = record {
  men = refl;
  turn = refl;
  rights = refl;
  en_passant = λ m. (
    takes_alike P (with_counts P clock number) refl refl refl refl m,
    takes_alike (with_counts P clock number) P refl refl refl refl m,
  );
}

-- a man who stands in one of them alone, another side to move, a right that one has
no_man_more : (P Q : State) (s : Place) (man : Man) → man_at P.men s ≡ Some man
    → man_at Q.men s ≡ None → IsSamePosition P Q → ⊥
no_man_more P Q s man here none same =
    let both : Some man ≡ None = sym here ∙ ap (λ p. man_at p s) same.men ∙ none in cc

no_other_turn : (P Q : State) → P.turn ≡ White → Q.turn ≡ Black → IsSamePosition P Q → ⊥
no_other_turn P Q white black same =
    let both : White ≡ Black = sym white ∙ same.turn ∙ black in cc

no_right_more : (P Q : State) → P.rights.black_queen_side ≡ true
    → Q.rights.black_queen_side ≡ false → IsSamePosition P Q → ⊥
no_right_more P Q held lost same =
    let both : true ≡ false =
    sym held ∙ ap (λ (r : CastlingRights). r.black_queen_side) same.rights ∙ lost in cc

-- where a pawn can take, a position without an en passant square is another one, and so is one with
-- another such square
no_capture_more : (P Q : State) (m : Move) → TakesEnPassant P m → Q.en_passant ≡ None
    → IsSamePosition P Q → ⊥
no_capture_more P Q m takes none same = none_without Q m none ((same.en_passant m).0 takes)

no_other_capture : (P Q : State) (m : Move) (s : Place) → TakesEnPassant P m
    → Q.en_passant ≡ Some s → (s ≡ m.to → ⊥) → IsSamePosition P Q → ⊥
no_other_capture P Q m s takes some other same =
    let both : Some s ≡ Some m.to =
    sym some ∙ (captures Q m ((same.en_passant m).0 takes)).0 in
    other (same_Some s m.to both)

-- where none can, it is the same one
pub without_square : State → State
without_square P = record P { en_passant = None }

pub idle_square_does_not_matter : (P : State) → (CanTakeEnPassant P → ⊥)
    → IsSamePosition P (without_square P)
unfolding without_square
idle_square_does_not_matter P idle = record {
  men = refl;
  turn = refl;
  rights = refl;
  en_passant = λ m. (
    (λ takes. absurd (idle (m, takes))),
    (λ takes. absurd (none_without (without_square P) m refl takes)),
  );
}

-- as after 1. e4 from the initial position, where no pawn of Black stands beside
after_a_step : State
after_a_step = record initial { turn = Black; en_passant = Some (record { file = 5; rank = 3 }) }

no_man_on_rank_4 : (s : Place) → IsOnBoard s → s.rank ≡ 4 → man_at initial.men s ≡ None
no_man_on_rank_4 s on rank =
    initial_at s on ∙ ap (λ r. initial_man (record { file = s.file; rank = r })) rank

no_capture_on_e3 : (m : Move) → TakesEnPassant after_a_step m → ⊥
unfolding after_a_step
no_capture_on_e3 m takes =
    let known = captures after_a_step m takes in
    let square : Some (record { file = 5; rank = 3 }) ≡ Some m.to = known.0 in
    let to : record { file = 5; rank = 3 } ≡ m.to = same_Some _ _ square in
    let forward : m.from.rank ≡ m.to.rank + 1 = known.1.1 in
    let three : 3 ≡ m.to.rank = ap (λ (s : Place). s.rank) to in
    let rules = takes.legal.pseudo_legal in
    let none = no_man_on_rank_4 m.from rules.from (omega (arith, forward, three)) in
    some_not_none (man_at initial.men m.from) rules.man none rules.here

step_leaves_an_idle_square : IsSamePosition after_a_step (without_square after_a_step)
step_leaves_an_idle_square =
    idle_square_does_not_matter after_a_step (λ taken. no_capture_on_e3 taken.0 taken.1)

-- so it is where each pawn that could take is pinned
pinned_pawns_do_not_matter : (P : State)
    → ((m : Move) → is_en_passant P m ≡ true → IsCheck (men_after P m) P.turn)
    → IsSamePosition P (without_square P)
pinned_pawns_do_not_matter P pinned =
    idle_square_does_not_matter P (λ taken.
    taken.1.legal.safe (pinned taken.0 taken.1.capture))

-- ---- keys

-- twelve numbers are no key, nor is a number of more than 64 bits among them
no_twelve : (P : State) (key : List ℕ) → length key ≡ 12 → IsKey P key → ⊥
no_twelve P key twelve is = let size = is.size in absurd (omega arith)

no_large_number : (P : State) (key : List ℕ) → 2 ^ 64 ≤ get_or key 12 0 → IsKey P key → ⊥
no_large_number P key large is = let fits = is.fit 12 in absurd (omega arith)

-- a bit without its man, and a man without his bit
no_bit_alone : (P : State) (key : List ℕ) (man : Man) (s : Place) → IsOnBoard s
    → has_bit (get_or key (row_of man) 0) (index_of s) ≡ true → man_at P.men s ≡ None
    → IsKey P key → ⊥
no_bit_alone P key man s on bit none is =
    let both : Some man ≡ None = sym ((is.men man s on).0 bit) ∙ none in cc

no_man_alone : (P : State) (key : List ℕ) (man : Man) (s : Place) → IsOnBoard s
    → has_bit (get_or key (row_of man) 0) (index_of s) ≡ false → man_at P.men s ≡ Some man
    → IsKey P key → ⊥
no_man_alone P key man s on bit here is =
    let both : true ≡ false = sym ((is.men man s on).1 here) ∙ bit in cc

-- the number of White to move, where Black is
no_rest_of_white : (P : State) (key : List ℕ) (o : Option Place) → P.turn ≡ Black
    → get_or key 12 0 ≡ number_of_rest White P.rights o → IsKey P key → ⊥
no_rest_of_white P key o black rest is =
    let own : get_or key 12 0 ≡ number_of_rest Black P.rights is.rest.0 =
    is.rest.2 ∙ ap (λ side. number_of_rest side P.rights is.rest.0) black in
    absurd (omega arith)

-- the en passant square where no pawn takes there, and none where one does
no_idle_square : (P : State) (s : Place) → (CanTakeEnPassant P → ⊥) → IsUsed P (Some s) → ⊥
no_idle_square P s idle used = idle used.1

no_square_forgotten : (P : State) (m : Move) → TakesEnPassant P m → IsUsed P None → ⊥
no_square_forgotten P m takes used = used (m, takes)

-- ---- pawns

-- a pawn whose bit is missing, of either side
no_white_pawn_alone : (P : State) (pawns : List ℕ) (s : Place) → IsOnBoard s
    → man_at P.men s ≡ Some (pawn_of White) → (are : ArePawns P pawns)
    → has_bit are.white (index_of s) ≡ false → ⊥
no_white_pawn_alone P pawns s on here are bit =
    let both : true ≡ false = sym ((are.white_men s on).1 here) ∙ bit in cc

no_black_pawn_alone : (P : State) (pawns : List ℕ) (s : Place) → IsOnBoard s
    → man_at P.men s ≡ Some (pawn_of Black) → (are : ArePawns P pawns)
    → has_bit are.black (index_of s) ≡ false → ⊥
no_black_pawn_alone P pawns s on here are bit =
    let both : true ≡ false = sym ((are.black_men s on).1 here) ∙ bit in cc
