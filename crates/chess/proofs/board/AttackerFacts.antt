-- The squares from which a man attacks, out of those from which he sees the target.
use Rattle.chess.proofs.Common.{◌≡◌, ◌↔◌, ◌⊎◌, ◌∙◌, ◌<◌, ◌^◌, ◌&&◌, ◌||◌, ℕ, Bool, true, false, inl}
use Rattle.chess.proofs.Common.{inr, ap, sym, subst, bit_and, Some, None, IsTrue, and_parts}
use Rattle.chess.proofs.Common.{and_from, Place, IsOnBoard, index_of, same_square, Reaches}
use Rattle.chess.proofs.Common.{Placement, IsEmpty, man_at, Places, is_in, no_places, HoldsExactly}
use Rattle.chess.proofs.Common.{has_bit, HasOnly, IsTakenFirst, false_of, IsBitboardOf, IsMan}
use Rattle.chess.proofs.Common.{IsRunner, IsAttackedStraight, IsAttackedDiagonal, IsLeft, IsSifted}
use Rattle.chess.proofs.Common.{IsPseudoAttack, StandsBetween, IsUnblocked, Man, Side, Kind, Rook}
use Rattle.chess.proofs.Common.{Bishop}
use Rattle.chess.proofs.PlaceFacts.{true_not_false}
use Rattle.chess.proofs.board.FillFacts.{bit_of_both, no_bit}
use Rattle.chess.proofs.BitFacts.{no_man_or}
use Rattle.chess.proofs.board.AttackFacts.{common_square, no_common_square}
use Rattle.chess.proofs.LoopFacts.{left_start, sifted_start, sifted_more, sifted_none, was_left}
use Rattle.chess.proofs.LoopFacts.{not_in}
use Rattle.chess.proofs.board.OpenFacts.{reaches_is}

-- no square of the bitboard stands between the two
abbrev pub HasNoneBetween : ℕ → Place → Place → Type 0
HasNoneBetween bitboard s t = (u : Place) → IsOnBoard u → StandsBetween s t u
    → has_bit bitboard (index_of u) ≡ false

pub none_between : (s t : Place) (a b : ℕ) → IsBitboardOf (StandsBetween s t) a → bit_and a b ≡ 0
    → HasNoneBetween b s t
none_between s t a b line none u on h =
    false_of (has_bit b (index_of u)) (λ bit.
    no_common_square a b none (u, on, (line u on).1 h, bit))

pub no_bits_between : (s t : Place) (a b : ℕ) → a < 2 ^ 64 → IsBitboardOf (StandsBetween s t) a
    → HasNoneBetween b s t → (bit_and a b ≡ 0 → ⊥) → ⊥
no_bits_between s t a b fits line clear_way some =
    let met = common_square a b fits some in
    true_not_false (has_bit b (index_of met.0)) met.3
    (clear_way met.0 met.1 ((line met.0 met.1).0 met.2))

-- ---- the search

-- a square of the bitboard from which the way to the target is not occupied
abbrev pub IsOpenFrom : Place → ℕ → ℕ → Place → Type 0
IsOpenFrom t seen occupied s = (has_bit seen (index_of s) ≡ true) × HasNoneBetween occupied s t

abbrev pub IsSearched : Place → ℕ → ℕ → Places → Places → Type 0
IsSearched t seen occupied left set =
    IsSifted (IsOpenFrom t seen occupied) left set
    × ((s : Place) → IsOnBoard s → is_in left s ≡ true → has_bit seen (index_of s) ≡ true)

pub searched_start : (t : Place) (seen occupied : ℕ) (left set : Places)
    → HoldsExactly (λ s. has_bit seen (index_of s) ≡ true) left → set ≡ no_places
    → IsSearched t seen occupied left set
searched_start t seen occupied left set all none = (
  sifted_start (IsOpenFrom t seen occupied) left set (λ s on h. (all s).1 (on, h.0)) none,
  (λ s on here. ((all s).0 here).1),
)

pub searched_more : (t : Place) (seen occupied : ℕ) (old new set more : Places) (s : Place)
    (test : Bool) → IsSearched t seen occupied old set
    → IsTakenFirst old new (Some s) → IsTrue test ↔ HasNoneBetween occupied s t
    → ((u : Place) → is_in more u ≡ ((test && same_square s u) || is_in set u))
    → IsSearched t seen occupied new more
searched_more t seen occupied old new set more s test so_far capture_square tested put = (
  sifted_more (IsOpenFrom t seen occupied) old new set more s test so_far.0 capture_square
      ((λ e. (so_far.1 s capture_square.0 capture_square.1, tested.0 e)), (λ h. tested.1 h.1)) put,
  (λ u on here. so_far.1 u on (was_left old new s u capture_square here).0),
)

pub searched_none : (t : Place) (seen occupied : ℕ) (old new set : Places)
    → IsSearched t seen occupied old set → IsTakenFirst old new None
    → HoldsExactly (IsOpenFrom t seen occupied) set
searched_none t seen occupied old new set so_far none =
    sifted_none (IsOpenFrom t seen occupied) old new set so_far.0 none

-- ---- what it finds

open_bitboard : (p : Placement) (bitboard : ℕ) (s t : Place)
    → IsBitboardOf (λ s. ¬ IsEmpty p s) bitboard
    → HasNoneBetween bitboard s t ↔ IsUnblocked p s t
open_bitboard p bitboard s t men = (
  (λ h u on between. elim (no_man_or (man_at p u)) [
    | inl none ↦ none
    | inr some ↦ absurd (true_not_false _ ((men u on).1 some) (h u on between))
  ]),
  (λ clear_way u on between.
      false_of (has_bit bitboard (index_of u)) (λ bit. (men u on).0 bit (clear_way u on between))),
)

pub attackers_are : (p : Placement) (man : Man) (t : Place) (own line_bitboard occupied : ℕ)
    (set : Places)
    → IsBitboardOf (λ s. IsPseudoAttack man.side man.kind s t) line_bitboard
    → HoldsExactly (IsOpenFrom t (bit_and own line_bitboard) occupied) set
    → IsBitboardOf (λ s. ¬ IsEmpty p s) occupied
    → HoldsExactly (λ s. (has_bit own (index_of s) ≡ true) × Reaches p man.side man.kind s t) set
attackers_are p man t own line_bitboard occupied set seen found men s =
    let reach = reaches_is p man.side man.kind s t in
    let clear_way = open_bitboard p occupied s t men in
    let bits = bit_of_both own line_bitboard (index_of s) in (
      (λ h.
          let parts = (found s).0 h in
          let both = sym bits ∙ parts.1.0 in (
            parts.0,
            (
              (and_parts _ _ both).0,
              reach.1 ((seen s parts.0).0 ((and_parts _ _ both).1), clear_way.0 parts.1.1),
            ),
          )),
      (λ h.
          let parts = reach.0 h.1.1 in
          (found s).1 (
            h.0,
            (bits ∙ and_from _ _ h.1.0 ((seen s h.0).1 parts.0), clear_way.1 parts.1),
          )),
    )

-- the board's own squares of the man, of those among which he is sought
pub among_own : (p : Placement) (man : Man) (t : Place) (mine bitboard : ℕ) (among set : Places)
    → IsBitboardOf (IsMan p man.side man.kind) mine
    → ((s : Place) → IsOnBoard s → has_bit bitboard (index_of s) ≡ is_in among s)
    → HoldsExactly (λ s. (has_bit (bit_and mine bitboard) (index_of s) ≡ true)
    × Reaches p man.side man.kind s t) set
    → HoldsExactly (λ s. (is_in among s ≡ true) × (man_at p s ≡ Some man)
    × Reaches p man.side man.kind s t) set
among_own p man t mine bitboard among set own given found s =
    let bits = bit_of_both mine bitboard (index_of s) in (
      (λ h.
          let parts = (found s).0 h in
          let both = sym bits ∙ parts.1.0 in (
            parts.0,
            (
              sym (given s parts.0) ∙ (and_parts _ _ both).1,
              (own s parts.0).0 ((and_parts _ _ both).0),
              parts.1.1,
            ),
          )),
      (λ h. (found s).1 (
        h.0,
        (bits ∙ and_from _ _ ((own s h.0).1 h.1.1) (given s h.0 ∙ h.1.0), h.1.2),
      )),
    )

-- ---- whether there is one

-- a man that runs along lines of this kind sees t
abbrev pub IsSeeingRunner : Placement → Side → Kind → Place → Place → Type 0
IsSeeingRunner p side kind t s = IsRunner p side kind s × IsPseudoAttack side kind s t

pub runners_seen : (A B : Place → Type 0) (a b : ℕ) → IsBitboardOf A a → IsBitboardOf B b
    → IsBitboardOf (λ s. A s × B s) (bit_and a b)
runners_seen A B a b in_a in_b s on =
    let bits = bit_of_both a b (index_of s) in (
      (λ e. let both = and_parts _ _ (sym bits ∙ e) in
          ((in_a s on).0 both.0, (in_b s on).0 both.1)),
      (λ h. bits ∙ and_from _ _ ((in_a s on).1 h.0) ((in_b s on).1 h.1)),
    )

-- a free way from one of them is an attack
abbrev pub IsAttackedAlongLine : Placement → Side → Place → Type 0
IsAttackedAlongLine p side t = IsAttackedStraight p side t ⊎ IsAttackedDiagonal p side t

pub attack_along_line : (p : Placement) (side : Side) (t : Place) (seen : ℕ) (r : Bool)
    → IsBitboardOf (λ s. IsSeeingRunner p side Rook t s ⊎ IsSeeingRunner p side Bishop t s) seen
    → IsTrue r
    ↔ ((s : Place) × IsOnBoard s × (has_bit seen (index_of s) ≡ true) × IsUnblocked p s t)
    → IsTrue r ↔ IsAttackedAlongLine p side t
attack_along_line p side t seen r are some = (
  (λ e.
      let one = some.0 e in
      elim ((are one.0 one.1).0 one.2) [
        | inl rook ↦ inl (one.0, one.1, rook.0, (reaches_is p side Rook one.0 t).1 (rook.1, one.3))
        | inr bishop ↦ inr (
          one.0,
          one.1,
          bishop.0,
          (reaches_is p side Bishop one.0 t).1 (bishop.1, one.3),
        )
      ]),
  (λ h. elim h [
    | inl straight ↦
        let parts = (reaches_is p side Rook straight.0 t).0 straight.3 in
        some.1 (
          straight.0,
          straight.1,
          (are straight.0 straight.1).1 (inl (straight.2, parts.0)),
          parts.1,
        )
    | inr diagonal ↦
        let parts = (reaches_is p side Bishop diagonal.0 t).0 diagonal.3 in
        some.1 (
          diagonal.0,
          diagonal.1,
          (are diagonal.0 diagonal.1).1 (inr (diagonal.2, parts.0)),
          parts.1,
        )
  ]),
)

pub none_seen : (p : Placement) (t : Place) (seen : ℕ) → seen ≡ 0
    → IsTrue false
    ↔ ((s : Place) × IsOnBoard s × (has_bit seen (index_of s) ≡ true) × IsUnblocked p s t)
none_seen p t seen none = (
  (λ e. let f : false ≡ true = e in absurd (cc)),
  (λ h. absurd (true_not_false _ h.2 (ap (λ w. has_bit w (index_of h.0)) none
      ∙ no_bit (index_of h.0)))),
)

-- ---- the search for one

pub seek_start : (t : Place) (squares occupied : ℕ) (left : Places)
    → HoldsExactly (λ s. has_bit squares (index_of s) ≡ true) left
    → IsLeft (λ s. has_bit squares (index_of s) ≡ true) (IsOpenFrom t squares occupied) left
seek_start t squares occupied left all =
    left_start _ _ left (λ s on h. (all s).1 (on, h.0)) (λ s on here. ((all s).0 here).1)

-- each square of the bitboard from which the way is free is one from which nothing stands between
pub found_open : (p : Placement) (t : Place) (squares occupied : ℕ) (s : Place)
    → IsBitboardOf (λ s. ¬ IsEmpty p s) occupied
    → IsOpenFrom t squares occupied s ↔ ((has_bit squares (index_of s) ≡ true) × IsUnblocked p s t)
found_open p t squares occupied s men =
    let clear_way = open_bitboard p occupied s t men in
    ((λ h. (h.0, clear_way.0 h.1)), (λ h. (h.0, clear_way.1 h.1)))

-- ---- the search where one square alone is seen

pub one_open : (t : Place) (seen occupied : ℕ) (left : Places) (s : Place)
    → HoldsExactly (λ u. has_bit seen (index_of u) ≡ true) left → HasOnly left s
    → HasNoneBetween occupied s t → HoldsExactly (IsOpenFrom t seen occupied) left
one_open t seen occupied left s all only clear_way u = (
  (λ here.
      let bit = (all u).0 here in
      let same = ((only.1 u).0 here).1 in
      (bit.0, (bit.1, subst (λ (v : Place). HasNoneBetween occupied v t) (sym same) clear_way))),
  (λ h. (all u).1 (h.0, h.1.0)),
)

pub one_blocked : (t : Place) (seen occupied : ℕ) (left set : Places) (s : Place)
    → HoldsExactly (λ u. has_bit seen (index_of u) ≡ true) left
    → HasOnly left s → set ≡ no_places → (HasNoneBetween occupied s t → ⊥)
    → HoldsExactly (IsOpenFrom t seen occupied) set
one_blocked t seen occupied left set s all only none blocked u = (
  (λ here. absurd (true_not_false (is_in set u) here (not_in set u none))),
  (λ h.
      let same = ((only.1 u).0 ((all u).1 (h.0, h.1.0))).1 in
      absurd (blocked (subst (λ (v : Place). HasNoneBetween occupied v t) same h.1.1))),
)
