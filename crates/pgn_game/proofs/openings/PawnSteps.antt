-- The bitboards of pawns after a ply, by the squares that its code touches.
use Rattle.pgn_game.proofs.Common.{◌≡◌, ◌↔◌, ℕ, ◌+◌, ◌-◌, ◌*◌, ◌/◌, ◌%◌, ◌<◌, ◌^◌, Bool, true}
use Rattle.pgn_game.proofs.Common.{false, cond, List, Option, Some, None, refl, sym, ap, ◌∙◌, subst}
use Rattle.pgn_game.proofs.Common.{arith, inl, inr, ◌||◌, ◌&&◌, not, get_or, ◌==◌, Place, IsOnBoard}
use Rattle.pgn_game.proofs.Common.{square_at, index_of, square_at-index_of, index_of-below}
use Rattle.pgn_game.proofs.Common.{index_of-square_at, Placement, man_at, pawn_of, Man, Side, White}
use Rattle.pgn_game.proofs.Common.{Black, Kind, King, Queen, Rook, Bishop, Knight, Pawn, Wing}
use Rattle.pgn_game.proofs.Common.{KingSide, QueenSide, code_of, eqb-true, if◌then◌else◌}
use Rattle.pgn_game.proofs.Common.{nat_tests, w64}
use Rattle.std.proofs.Common.{bit_or, bit_and, nat_eq, min, max}
use Rattle.std.proofs.lemmas.Bool.{agree_below, agree_below_at, cases_eq, cases_lt, eq-eqb, ne_eqb}
use Rattle.std.proofs.lemmas.Bool.{lt-ltb}
use Rattle.std.proofs.lemmas.Nat.Bits.{bit_at-pow_same, bit_at-pow_other, bit_at_or, bit_at_and}
use Rattle.std.proofs.lemmas.Nat.Bits.{bit_at_not, bit_at-lt, bit_at-zero}
use Rattle.std.specs.Int.{bit_at, bit_not}
use Rattle.chess.specs.Public.Keys.{IsBitboardOfMan}
use Rattle.chess.specs.Public.Moves.{with_rook}
use Rattle.chess.specs.Public.Placements.{with_man}
use Rattle.chess.specs.Public.Positions.{rook_of, rook_from, rook_to}
use Rattle.chess.specs.Public.Sets.{has_bit}
use Rattle.chess.specs.Shared.CellFacts.{man_at-same, man_at-other}
use Rattle.chess.specs.Shared.SetFacts.{and_true}
use Rattle.pgn_game.specs.Public.PlyCodes.{numbered_man, numbered_castle, moved}
use Rattle.pgn_game.specs.Private.PawnWalks.{HavePawns, is_of_ply, is_of_rook, is_touched}

-- the test tells the squares on which the man stands
abbrev pub Shows : (ℕ → Bool) → Placement → Man → Type 0
Shows test men man = (s : Place) → IsOnBoard s
    → (test (index_of s) ≡ true) ↔ (man_at men s ≡ Some man)

shows_as : (test other : ℕ → Bool) (men : Placement) (man : Man)
    → ((i : ℕ) → i < 64 → other i ≡ test i) → Shows test men man → Shows other men man
shows_as test other men man same shows s on =
    let e = same (index_of s) (index_of-below s on) in
    let here = shows s on in ((λ h. here.0 (sym e ∙ h)), (λ h. e ∙ here.1 h))

-- one man, or none, put on a square
put : (ℕ → Bool) → ℕ → Bool → ℕ → Bool
put test n own i = cond (i == n) own (test i)

put_here : (test : ℕ → Bool) (n : ℕ) (own : Bool) (i : ℕ) → i ≡ n → put test n own i ≡ own
unfolding put
put_here test n own i e = ap (λ b. cond b own (test i)) (eq-eqb i n e)

put_other : (test : ℕ → Bool) (n : ℕ) (own : Bool) (i : ℕ) → (i ≡ n → ⊥)
    → put test n own i ≡ test i
unfolding put
put_other test n own i e = ap (λ b. cond b own (test i)) (ne_eqb i n e)

put_shows : (test : ℕ → Bool) (men : Placement) (man : Man) (n : ℕ) (comes : Option Man)
    (own : Bool) → n < 64 → (own ≡ true) ↔ (comes ≡ Some man) → Shows test men man
    → Shows (put test n own) (with_man men (square_at n) comes) man
put_shows test men man n comes own within is shows s on = elim (cases_eq (index_of s) n) [
  | inl same ↦
      let here : s ≡ square_at n = sym (square_at-index_of s on) ∙ ap square_at same in
      let at : man_at (with_man men (square_at n) comes) s ≡ comes =
      ap (man_at (with_man men (square_at n) comes)) here
      ∙ man_at-same men (square_at n) comes in
      let bit = put_here test n own (index_of s) same in
      ((λ h. at ∙ is.0 (sym bit ∙ h)), (λ h. bit ∙ is.1 (sym at ∙ h)))
  | inr other ↦
      let away : s ≡ square_at n → ⊥ = λ e.
      other (ap index_of e ∙ index_of-square_at n within) in
      let at = man_at-other men (square_at n) s comes away in
      let bit = put_other test n own (index_of s) other in
      let old = shows s on in
      ((λ h. at ∙ old.0 (sym bit ∙ h)), (λ h. bit ∙ old.1 (sym at ∙ h)))
]

-- ---- the men of a code

-- the man is that side's pawn
abbrev pub is_pawn_of : Side → Man → Bool
is_pawn_of side man =
    elim man.kind [
      | King ↦ false
      | Queen ↦ false
      | Rook ↦ false
      | Bishop ↦ false
      | Knight ↦ false
      | Pawn ↦ elim side [
        | White ↦ elim man.side [ White ↦ true | Black ↦ false ]
        | Black ↦ elim man.side [ White ↦ false | Black ↦ true ]
      ]
    ]

pawn_then : (side own : Side) (kind : Kind)
    → is_pawn_of side (record { side = own; kind = kind }) ≡ true
    → Some (record { side = own; kind = kind }) ≡ Some (pawn_of side)
pawn_then White White Pawn e = refl
pawn_then Black Black Pawn e = refl
pawn_then White Black Pawn e = absurd (cc)
pawn_then Black White Pawn e = absurd (cc)
pawn_then side own King e = absurd (cc)
pawn_then side own Queen e = absurd (cc)
pawn_then side own Rook e = absurd (cc)
pawn_then side own Bishop e = absurd (cc)
pawn_then side own Knight e = absurd (cc)

own_pawn : (side : Side) → is_pawn_of side (pawn_of side) ≡ true
own_pawn White = refl
own_pawn Black = refl

same_man : (a b : Man) → Some a ≡ Some b → a ≡ b
same_man a b e = cc

pub pawn_comes : (side : Side) (man : Man)
    → (is_pawn_of side man ≡ true) ↔ (Some man ≡ Some (pawn_of side))
pawn_comes side man = (
  (λ e. pawn_then side man.side man.kind e),
  (λ e. ap (is_pawn_of side) (same_man man (pawn_of side) e) ∙ own_pawn side),
)

white_numbers : agree_below (λ n. is_pawn_of White (numbered_man n)) (λ n. n == 5) 16 ≡ true
white_numbers = refl

black_numbers : agree_below (λ n. is_pawn_of Black (numbered_man n)) (λ n. n == 11) 16 ≡ true
black_numbers = refl

pub white_pawn : (n : ℕ) → n < 16 → is_pawn_of White (numbered_man n) ≡ (n == 5)
white_pawn n h = agree_below_at (λ n. is_pawn_of White (numbered_man n)) (λ n. n == 5) 16 n
    white_numbers h

pub black_pawn : (n : ℕ) → n < 16 → is_pawn_of Black (numbered_man n) ≡ (n == 11)
black_pawn n h = agree_below_at (λ n. is_pawn_of Black (numbered_man n)) (λ n. n == 11) 16 n
    black_numbers h

no_rook : (side own : Side) → (false ≡ true) ↔ (Some (record { side = own; kind = Rook })
    ≡ Some (pawn_of side))
no_rook side own = (
  (λ e. absurd (cc)),
  (λ e.
      let kinds : Rook ≡ Pawn =
      ap (λ (m : Man). m.kind) (same_man (record { side = own; kind = Rook }) (pawn_of side) e) in
      absurd (cc)),
)

no_man : (side : Side) → (false ≡ true) ↔ (None ≡ Some (pawn_of side))
no_man side = ((λ e. absurd (cc)), (λ e. absurd (cc)))

two_bits : (a b own : Bool) → (own && not (a || b)) ≡ cond b false (cond a false own)
two_bits true true true = refl
two_bits true true false = refl
two_bits true false true = refl
two_bits true false false = refl
two_bits false true true = refl
two_bits false true false = refl
two_bits false false true = refl
two_bits false false false = refl

rooks_aside : (a b : ℕ) (test : ℕ → Bool) (i : ℕ)
    → (test i && not (i == a || i == b)) ≡ put (put test a false) b false i
unfolding put
rooks_aside a b test i = two_bits (i == a) (i == b) (test i)

-- the rook of a king that castles: no pawn is left on its squares
rook_goes : (side own : Side) (wing : Wing) (a b : ℕ) (test : ℕ → Bool) (men : Placement) → a < 64
    → b < 64
    → rook_from own wing ≡ square_at a → rook_to own wing ≡ square_at b
    → Shows test men (pawn_of side)
    → Shows (λ i. test i && not (i == a || i == b)) (with_rook own (Some wing) men) (pawn_of side)
rook_goes side own wing a b test men below under leaves comes shows =
    shows_as (put (put test a false) b false) (λ i. test i && not (i == a || i == b))
    (with_rook own (Some wing) men) (pawn_of side)
    (λ i h. rooks_aside a b test i)
    (rw (leaves, comes) (put_shows (put test a false) (with_man men (square_at a) None)
    (pawn_of side) b (Some (rook_of own)) false under (no_rook side own)
    (put_shows test men (pawn_of side) a None false below (no_man side) shows)))

-- what is left of the pawns where a rook may go too, by the number of the man that comes
abbrev AreRooksMoved : Side → (ℕ → Bool) → Placement → ℕ → Type 0
AreRooksMoved side test men n =
    Shows (λ i. test i && not (is_of_rook n i))
    (with_rook (numbered_man n).side (numbered_castle n) men) (pawn_of side)

no_rooks : (n i : ℕ) → n < 12 → is_of_rook n i ≡ false
no_rooks n i h =
    ap (λ b. if b then (i == 7 || i == 5) else if n == 13 then (i == 0 || i == 3)
    else if n == 14 then (i == 63 || i == 61)
    else if n == 15 then (i == 56 || i == 59) else false) (ne_eqb n 12 (λ e. omega arith))
    ∙ ap (λ b. if b then (i == 0 || i == 3) else if n == 14 then (i == 63 || i == 61)
    else if n == 15 then (i == 56 || i == 59) else false) (ne_eqb n 13 (λ e. omega arith))
    ∙ ap (λ b. if b then (i == 63 || i == 61)
    else if n == 15 then (i == 56 || i == 59) else false) (ne_eqb n 14 (λ e. omega arith))
    ∙ ap (λ b. if b then (i == 56 || i == 59) else false) (ne_eqb n 15 (λ e. omega arith))

no_castle : (n : ℕ) → n < 12 → numbered_castle n ≡ None
no_castle n h =
    ap (λ b. if b then None else Some (if n % 2 == 0 then KingSide else QueenSide)) (lt-ltb n 12 h)

rook_stays : (side : Side) (n : ℕ) (test : ℕ → Bool) (men : Placement) → n < 12
    → Shows test men (pawn_of side) → AreRooksMoved side test men n
rook_stays side n test men h shows =
    subst (λ (castle : Option Wing). Shows (λ i. test i && not (is_of_rook n i))
    (with_rook (numbered_man n).side castle men) (pawn_of side)) (sym (no_castle n h))
    (shows_as test (λ i. test i && not (is_of_rook n i)) men (pawn_of side)
    (λ i less. ap (λ b. test i && not b) (no_rooks n i h) ∙ and_true (test i)) shows)

rooks_moved : (side : Side) (n : ℕ) (test : ℕ → Bool) (men : Placement) → n < 16
    → Shows test men (pawn_of side) → AreRooksMoved side test men n
rooks_moved side n test men h shows = elim (cases_lt n 12) [
  | inl less ↦ rook_stays side n test men less shows
  | inr more ↦ elim (cases_eq n 12) [
    | inl is ↦ subst (AreRooksMoved side test men) (sym is)
        (rook_goes side White KingSide 7 5 test men (omega arith) (omega arith) refl refl shows)
    | inr other ↦ elim (cases_eq n 13) [
      | inl is ↦ subst (AreRooksMoved side test men) (sym is)
          (rook_goes side White QueenSide 0 3 test men (omega arith) (omega arith) refl refl shows)
      | inr another ↦ elim (cases_eq n 14) [
        | inl is ↦ subst (AreRooksMoved side test men) (sym is)
            (rook_goes side Black KingSide 63 61 test men (omega arith) (omega arith) refl refl
            shows)
        | inr none ↦ let is : n ≡ 15 = omega arith in subst (AreRooksMoved side test men) (sym is)
            (rook_goes side Black QueenSide 56 59 test men (omega arith) (omega arith) refl refl
            shows)
      ]
    ]
  ]
]

-- ---- the bits

all_bits : (to own old from taken rook : Bool) → (own ≡ true → rook ≡ false)
    → ((own && to) || (old && not ((to || (from || taken)) || rook)))
    ≡ (cond to own (cond from false (cond taken false old)) && not rook)
all_bits true true old from taken rook none = sym (ap not (none refl))
all_bits true false true from taken rook none = refl
all_bits true false false from taken rook none = refl
all_bits false true true true taken rook none = refl
all_bits false true false true taken rook none = refl
all_bits false false true true taken rook none = refl
all_bits false false false true taken rook none = refl
all_bits false true true false true rook none = refl
all_bits false true false false true rook none = refl
all_bits false false true false true rook none = refl
all_bits false false false false true rook none = refl
all_bits false true true false false rook none = refl
all_bits false true false false false rook none = refl
all_bits false false true false false rook none = refl
all_bits false false false false false rook none = refl

-- a pawn that comes is no king that castles
pawn_alone : (side : Side) (n i : ℕ) → n < 16 → is_pawn_of side (numbered_man n) ≡ true
    → is_of_rook n i ≡ false
pawn_alone White n i h e =
    let five = eqb-true n 5 (sym (white_pawn n h) ∙ e) in no_rooks n i (omega arith)
pawn_alone Black n i h e =
    let eleven = eqb-true n 11 (sym (black_pawn n h) ∙ e) in no_rooks n i (omega arith)

-- the men of one side's pawns
pub pawn_after : (side : Side) (men : Placement) (a b d old new : ℕ)
    → b / 64 + 4 * (d / 64) < 16
    → ((i : ℕ) → i < 64 → has_bit new i
    ≡ ((is_pawn_of side (numbered_man (b / 64 + 4 * (d / 64))) && i == b % 64)
    || (has_bit old i && not (is_touched (a % 64) (b % 64) (d % 64) (b / 64 + 4 * (d / 64)) i))))
    → Shows (has_bit old) men (pawn_of side)
    → Shows (has_bit new) (moved men (code_of a b d)) (pawn_of side)
unfolding put
pawn_after side men a b d old new below bits shows =
    let n = b / 64 + 4 * (d / 64) in
    let man = numbered_man n in
    let own = is_pawn_of side man in
    let first = put (has_bit old) (d % 64) false in
    let second = put first (a % 64) false in
    let third = put second (b % 64) own in
    let gone : Placement = with_man men (square_at (d % 64)) None in
    let left : Placement = with_man gone (square_at (a % 64)) None in
    let come : Placement = with_man left (square_at (b % 64)) (Some man) in
    shows_as (λ i. third i && not (is_of_rook n i)) (has_bit new) (moved men (code_of a b d))
    (pawn_of side) (λ i h. bits i h
    ∙ all_bits (i == b % 64) own (has_bit old i) (i == a % 64) (i == d % 64) (is_of_rook n i)
    (λ e. pawn_alone side n i below e))
    (rooks_moved side n third come below
    (put_shows second left (pawn_of side) (b % 64) (Some man) own (omega arith)
    (pawn_comes side man)
    (put_shows first gone (pawn_of side) (a % 64) None false (omega arith) (no_man side)
    (put_shows (has_bit old) men (pawn_of side) (d % 64) None false (omega arith) (no_man side)
    shows))))

max_one : (a b : ℕ) → a < 2 → b < 2 → nat_eq (max a b) 1 ≡ (nat_eq a 1 || nat_eq b 1)
max_one a b h k = grind (arith, nat_tests)

min_one : (a b : ℕ) → a < 2 → b < 2 → nat_eq (min a b) 1 ≡ (nat_eq a 1 && nat_eq b 1)
min_one a b h k = grind (arith, nat_tests)

not_one : (b : ℕ) → b < 2 → nat_eq (1 - b) 1 ≡ not (nat_eq b 1)
not_one b h = grind (arith, nat_tests)

bit_of_either : (a b i : ℕ) → has_bit (bit_or a b) i ≡ (has_bit a i || has_bit b i)
bit_of_either a b i = ap (λ n. nat_eq n 1) (bit_at_or a b i)
    ∙ max_one (bit_at a i) (bit_at b i) (bit_at-lt a i) (bit_at-lt b i)

bit_of_both : (a b i : ℕ) → has_bit (bit_and a b) i ≡ (has_bit a i && has_bit b i)
bit_of_both a b i = ap (λ n. nat_eq n 1) (bit_at_and a b i)
    ∙ min_one (bit_at a i) (bit_at b i) (bit_at-lt a i) (bit_at-lt b i)

bit_of_rest : (a i : ℕ) → a < 2 ^ 64 → i < 64 → has_bit (bit_not w64 a) i ≡ not (has_bit a i)
bit_of_rest a i fits h = ap (λ n. nat_eq n 1) (bit_at_not w64 a i fits h)
    ∙ not_one (bit_at a i) (bit_at-lt a i)

no_bit : (i : ℕ) → has_bit 0 i ≡ false
no_bit i = ap (λ n. nat_eq n 1) (bit_at-zero i)

pub one_bit : (n i : ℕ) → has_bit (2 ^ n) i ≡ (i == n)
one_bit n i = elim (cases_eq i n) [
  | inl same ↦ ap (λ k. has_bit (2 ^ k) i) (sym same) ∙ eq-eqb _ 1 (bit_at-pow_same i)
      ∙ sym (eq-eqb i n same)
  | inr other ↦ ap (λ k. nat_eq k 1) (bit_at-pow_other n i other) ∙ sym (ne_eqb i n other)
]

pub ply_bit : (x y z from to taken i : ℕ) → x ≡ 2 ^ to → y ≡ 2 ^ from → z ≡ 2 ^ taken
    → has_bit (bit_or x (bit_or y z)) i ≡ is_of_ply from to taken i
ply_bit x y z from to taken i is_x is_y is_z =
    let one = ap (λ k. has_bit k i) is_x ∙ one_bit to i in
    let two = ap (λ k. has_bit k i) is_y ∙ one_bit from i in
    let three = ap (λ k. has_bit k i) is_z ∙ one_bit taken i in
    let more : has_bit (bit_or y z) i ≡ (i == from || i == taken) =
    bit_of_either y z i ∙ ap (λ b. b || has_bit z i) two ∙ ap (λ b. i == from || b) three in
    bit_of_either x (bit_or y z) i ∙ ap (λ b. b || has_bit (bit_or y z) i) one
    ∙ ap (λ b. i == to || b) more

pub touched_bit : (ply rook from to taken n i : ℕ) → has_bit ply i ≡ is_of_ply from to taken i
    → has_bit rook i ≡ is_of_rook n i
    → has_bit (bit_or ply rook) i ≡ is_touched from to taken n i
touched_bit ply rook from to taken n i is_ply is_rook =
    bit_of_either ply rook i ∙ ap (λ b. b || has_bit rook i) is_ply
    ∙ ap (λ b. is_of_ply from to taken i || b) is_rook

pub come_bit : (own to i : ℕ) (comes : Bool) → comes ≡ true → own ≡ to
    → has_bit own i ≡ (comes && has_bit to i)
come_bit own to i comes e is = ap (λ n. has_bit n i) is ∙ sym (ap (λ b. b && has_bit to i) e)

pub none_bit : (own to i : ℕ) (comes : Bool) → comes ≡ false → own ≡ 0
    → has_bit own i ≡ (comes && has_bit to i)
none_bit own to i comes e is = ap (λ n. has_bit n i) is ∙ no_bit i
    ∙ sym (ap (λ b. b && has_bit to i) e)

pub left_bits : (own old touched to i : ℕ) (comes : Bool) → touched < 2 ^ 64 → i < 64
    → has_bit own i ≡ (comes && has_bit to i)
    → has_bit (bit_or own (bit_and old (bit_not w64 touched))) i
    ≡ ((comes && has_bit to i) || (has_bit old i && not (has_bit touched i)))
left_bits own old touched to i comes fits h is =
    bit_of_either own (bit_and old (bit_not w64 touched)) i
    ∙ ap (λ b. b || has_bit (bit_and old (bit_not w64 touched)) i) is
    ∙ ap (λ b. (comes && has_bit to i) || b) (bit_of_both old (bit_not w64 touched) i
    ∙ ap (λ b. has_bit old i && b) (bit_of_rest touched i fits h))

-- the squares of a rook, as bits of a number
pub white_king_side : agree_below (has_bit 160) (is_of_rook 12) 64 ≡ true
white_king_side = refl

pub white_queen_side : agree_below (has_bit 9) (is_of_rook 13) 64 ≡ true
white_queen_side = refl

pub black_king_side : agree_below (has_bit 11529215046068469760) (is_of_rook 14) 64 ≡ true
black_king_side = refl

pub black_queen_side : agree_below (has_bit 648518346341351424) (is_of_rook 15) 64 ≡ true
black_queen_side = refl

pub rook_bit : (bits number n i : ℕ) → agree_below (has_bit bits) (is_of_rook number) 64 ≡ true
    → n ≡ number → i < 64 → has_bit bits i ≡ is_of_rook n i
rook_bit bits number n i agree is h =
    agree_below_at (has_bit bits) (is_of_rook number) 64 i agree h
    ∙ ap (λ k. is_of_rook k i) (sym is)

-- the bitboard of one side's pawns
pub side_after : (side : Side) (men : Placement) (a b d old new touched to : ℕ) (comes : Bool)
    → b / 64 + 4 * (d / 64) < 16
    → is_pawn_of side (numbered_man (b / 64 + 4 * (d / 64))) ≡ comes
    → to ≡ 2 ^ (b % 64)
    → ((i : ℕ) → i < 64 → has_bit touched i
    ≡ is_touched (a % 64) (b % 64) (d % 64) (b / 64 + 4 * (d / 64)) i)
    → ((i : ℕ) → i < 64 → has_bit new i
    ≡ ((comes && has_bit to i) || (has_bit old i && not (has_bit touched i))))
    → IsBitboardOfMan men (pawn_of side) old
    → IsBitboardOfMan (moved men (code_of a b d)) (pawn_of side) new
side_after side men a b d old new touched to comes below is to_is are bits shows =
    pawn_after side men a b d old new below (λ i h. bits i h
    ∙ ap (λ o. (o && has_bit to i) || (has_bit old i && not (has_bit touched i))) (sym is)
    ∙ ap (λ o. (is_pawn_of side (numbered_man (b / 64 + 4 * (d / 64))) && o)
    || (has_bit old i && not (has_bit touched i)))
    (ap (λ n. has_bit n i) to_is ∙ one_bit (b % 64) i)
    ∙ ap (λ o. (is_pawn_of side (numbered_man (b / 64 + 4 * (d / 64))) && i == b % 64)
    || (has_bit old i && not o)) (are i h)) shows

-- ---- a ply that changes no pawns

-- no square is both one of the ply's and a pawn's
apart : (ply white black i : ℕ) → bit_and ply (bit_or white black) ≡ 0
    → (has_bit ply i && (has_bit white i || has_bit black i)) ≡ false
apart ply white black i none =
    ap (λ b. has_bit ply i && b) (sym (bit_of_either white black i))
    ∙ sym (bit_of_both ply (bit_or white black) i) ∙ ap (λ n. has_bit n i) none ∙ no_bit i

white_stays : (to ply white black : Bool) → (ply && (white || black)) ≡ false
    → white ≡ ((false && to) || (white && not (ply || false)))
white_stays to true true black e = absurd (cc)
white_stays to true false black e = refl
white_stays to false true black e = refl
white_stays to false false black e = refl

black_stays : (to ply white black : Bool) → (ply && (white || black)) ≡ false
    → black ≡ ((false && to) || (black && not (ply || false)))
black_stays to true true black e = absurd (cc)
black_stays to true false true e = absurd (cc)
black_stays to true false false e = refl
black_stays to false white true e = refl
black_stays to false white false e = refl

stays : (side : Side) (men : Placement) (a b d own : ℕ) → b / 64 + 4 * (d / 64) < 12
    → is_pawn_of side (numbered_man (b / 64 + 4 * (d / 64))) ≡ false
    → ((i : ℕ) → i < 64 → has_bit own i ≡ ((false && i == b % 64)
    || (has_bit own i && not (is_of_ply (a % 64) (b % 64) (d % 64) i || false))))
    → IsBitboardOfMan men (pawn_of side) own
    → IsBitboardOfMan (moved men (code_of a b d)) (pawn_of side) own
stays side men a b d own below none bits shows =
    let n = b / 64 + 4 * (d / 64) in
    pawn_after side men a b d own own (omega arith) (λ i h. bits i h
    ∙ ap (λ o. (o && i == b % 64)
    || (has_bit own i && not (is_of_ply (a % 64) (b % 64) (d % 64) i || false))) (sym none)
    ∙ ap (λ o. (is_pawn_of side (numbered_man n) && i == b % 64)
    || (has_bit own i && not (is_of_ply (a % 64) (b % 64) (d % 64) i || o)))
    (sym (no_rooks n i below))) shows

pub pawns_stay : (men : Placement) (a b d ply : ℕ) (pawns : List ℕ)
    → (b / 64 + 4 * (d / 64) ≡ 5 → ⊥) → b / 64 + 4 * (d / 64) < 11
    → ((i : ℕ) → i < 64 → has_bit ply i ≡ is_of_ply (a % 64) (b % 64) (d % 64) i)
    → bit_and ply (bit_or (get_or pawns 0 0) (get_or pawns 1 0)) ≡ 0
    → HavePawns men pawns → HavePawns (moved men (code_of a b d)) pawns
pawns_stay men a b d ply pawns other below are none have =
    let n = b / 64 + 4 * (d / 64) in
    let white = get_or pawns 0 0 in
    let black = get_or pawns 1 0 in
    let both : (i : ℕ) → i < 64 → (is_of_ply (a % 64) (b % 64) (d % 64) i
    && (has_bit white i || has_bit black i)) ≡ false =
    λ i h. ap (λ o. o && (has_bit white i || has_bit black i)) (sym (are i h))
    ∙ apart ply white black i none in
    record {
      white = stays White men a b d white (omega arith)
          (white_pawn n (omega arith) ∙ ne_eqb n 5 other)
          (λ i h. white_stays (i == b % 64) (is_of_ply (a % 64) (b % 64) (d % 64) i)
          (has_bit white i) (has_bit black i) (both i h)) have.white;
      black = stays Black men a b d black (omega arith)
          (black_pawn n (omega arith) ∙ ne_eqb n 11 (λ e. omega arith))
          (λ i h. black_stays (i == b % 64) (is_of_ply (a % 64) (b % 64) (d % 64) i)
          (has_bit white i) (has_bit black i) (both i h)) have.black;
    }
