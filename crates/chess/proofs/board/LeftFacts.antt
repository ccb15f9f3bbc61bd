-- The men that are left where a man is moved from a square to another, by the words of those
-- squares.
use Rattle.chess.proofs.Common.{◌≡◌, ◌↔◌, ◌⊎◌, ◌∙◌, ◌<◌, ◌^◌, w64, ℕ, Bool, true, inl, inr, ap, sym}
use Rattle.chess.proofs.Common.{subst, bit_and, bit_or, Some, None, IsTrue, bit_not, and_parts}
use Rattle.chess.proofs.Common.{and_from, Place, IsOnBoard, index_of, has_bit, index_of-below}
use Rattle.chess.proofs.Common.{Places, is_in, HoldsExactly, Placement, man_at, with_man, opposite}
use Rattle.chess.proofs.Common.{AreOnBoard, IsEmpty, IsPseudoAttack, man_at-same, man_at-other}
use Rattle.chess.proofs.Common.{IsBitboardOf, IsMan, IsRunner, AreLeft, IsAttackedBy}
use Rattle.chess.proofs.Common.{square_bitboard, Man, Side, Kind, King, Queen, Knight, Pawn}
use Rattle.chess.proofs.PlaceFacts.{cases_place, same_side, some_not_none, not_true, true_not}
use Rattle.chess.proofs.PlaceFacts.{not_opposite}
use Rattle.chess.proofs.board.FillFacts.{bit_of_square, has_own_bit, bit_of_both, either_bitboard}
use Rattle.chess.proofs.BitFacts.{bit_of_rest}
use Rattle.chess.proofs.board.AttackerFacts.{runners_seen}

-- ---- words of squares

-- the bitboard of one square
pub own_bitboard : (s : Place) → IsOnBoard s → IsBitboardOf (λ t. t ≡ s) (square_bitboard s)
own_bitboard s on t there = (
  bit_of_square s t on there,
  (λ e. rw e (has_own_bit s)),
)

-- the squares that have not the fact
pub rest_bitboard : (A : Place → Type 0) (bitboard : ℕ) → bitboard < 2 ^ 64
    → IsBitboardOf A bitboard
    → IsBitboardOf (λ s. A s → ⊥) (bit_not w64 bitboard)
rest_bitboard A bitboard fits are s on =
    let rest = bit_of_rest bitboard (index_of s) fits (index_of-below s on) in (
      (λ e fact. true_not (has_bit bitboard (index_of s)) (sym rest ∙ e) ((are s on).1 fact)),
      (λ fails. rest ∙ not_true (has_bit bitboard (index_of s)) (λ e. fails ((are s on).0 e))),
    )

-- ---- the men of a side that are left

pub men_left : (old new : Placement) (side : Side) (left : ℕ) → AreLeft old new side left
    → (other : Kind) (mine : ℕ)
    → IsBitboardOf (IsMan old side other) mine
    → IsBitboardOf (IsMan new side other) (bit_and left mine)
men_left old new side left h other mine are s on =
    let bits = bit_of_both left mine (index_of s) in (
      (λ e. let both = and_parts _ _ (sym bits ∙ e) in
          (h.same other s on).1 (both.0, (are s on).0 both.1)),
      (λ here. let parts = (h.same other s on).0 here in
          bits ∙ and_from _ _ parts.0 ((are s on).1 parts.1)),
    )

pub runners_left : (old new : Placement) (side : Side) (left : ℕ) → AreLeft old new side left
    → (other : Kind) (mine : ℕ)
    → IsBitboardOf (IsRunner old side other) mine
    → IsBitboardOf (IsRunner new side other) (bit_and left mine)
runners_left old new side left h other mine are s on =
    let bits = bit_of_both left mine (index_of s) in (
      (λ e.
          let both = and_parts _ _ (sym bits ∙ e) in
          elim ((are s on).0 both.1) [
            | inl queen ↦ inl ((h.same Queen s on).1 (both.0, queen))
            | inr runner ↦ inr ((h.same other s on).1 (both.0, runner))
          ]),
      (λ here. elim here [
        | inl queen ↦ let parts = (h.same Queen s on).0 queen in
            bits ∙ and_from _ _ parts.0 ((are s on).1 (inl parts.1))
        | inr runner ↦ let parts = (h.same other s on).0 runner in
            bits ∙ and_from _ _ parts.0 ((are s on).1 (inr parts.1))
      ]),
    )

-- a man of a kind sees the square
abbrev pub IsSeer : Placement → Side → Kind → Place → Place → Type 0
IsSeer p side other t s = IsMan p side other s × IsPseudoAttack side other s t

-- a square of the words of knights, kings and pawns that see the square is an attack
pub attack_nearby : (p : Placement) (side : Side) (t : Place) (bitboard : ℕ)
    (set : Places) (r : Bool)
    → IsBitboardOf (λ s. (IsSeer p side Knight t s ⊎ IsSeer p side King t s)
    ⊎ IsSeer p side Pawn t s) bitboard
    → HoldsExactly (λ s. has_bit bitboard (index_of s) ≡ true) set
    → IsTrue r ↔ ((s : Place) × IsOnBoard s × (is_in set s ≡ true))
    → IsTrue r
    ↔ (IsAttackedBy p side Knight t ⊎ (IsAttackedBy p side King t ⊎ IsAttackedBy p side Pawn t))
attack_nearby p side t bitboard set r are all some = (
  (λ e.
      let one = some.0 e in
      elim ((are one.0 one.1).0 ((all one.0).0 one.2).1) [
        | inl near ↦ elim near [
          | inl knight ↦ inl (one.0, one.1, knight.0, knight.1)
          | inr king ↦ inr (inl (one.0, one.1, king.0, king.1))
        ]
        | inr pawn ↦ inr (inr (one.0, one.1, pawn.0, pawn.1))
      ]),
  (λ h. elim h [
    | inl k ↦ some.1 (k.0, k.1, (all k.0).1 (k.1, (are k.0 k.1).1 (inl (inl (k.2, k.3)))))
    | inr others ↦ elim others [
      | inl k ↦ some.1 (k.0, k.1, (all k.0).1 (k.1, (are k.0 k.1).1 (inl (inr (k.2, k.3)))))
      | inr k ↦ some.1 (k.0, k.1, (all k.0).1 (k.1, (are k.0 k.1).1 (inr (k.2, k.3))))
    ]
  ]),
)

-- ---- where nothing has changed

pub all_left : (p : Placement) (side : Side) (left : ℕ) → AreOnBoard p
    → ((s : Place) → IsOnBoard s → has_bit left (index_of s) ≡ true) → AreLeft p p side left
all_left p side left on all = record {
  on_board = on;
  same = λ other s there. ((λ here. (all s there, here)), (λ h. h.1));
}

-- ---- where a man is moved

abbrev pub moved_so : Placement → Man → Place → Place → Place → Placement
moved_so p man from capture_square to =
    with_man (with_man (with_man p capture_square None) from None) to (Some man)

abbrev pub IsGone : Place → Place → Place → Place → Type 0
IsGone from capture_square to s = ((s ≡ capture_square) ⊎ (s ≡ from)) ⊎ (s ≡ to)

-- who stands on a square then
abbrev StandsThen : Placement → Man → Place → Place → Place → Place → Type 0
StandsThen p man from capture_square to s =
    ((s ≡ to) × (man_at (moved_so p man from capture_square to) s ≡ Some man))
    ⊎ (((s ≡ to → ⊥) × IsGone from capture_square to s
    × IsEmpty (moved_so p man from capture_square to) s)
    ⊎ ((IsGone from capture_square to s → ⊥)
    × (man_at (moved_so p man from capture_square to) s ≡ man_at p s)))

stands_then : (p : Placement) (man : Man) (from capture_square to s : Place)
    → StandsThen p man from capture_square to s
stands_then p man from capture_square to s =
    let first = with_man p capture_square None in
    let mid = with_man first from None in elim (cases_place s to) [
      | inl at_to ↦
          inl (
            at_to,
            ap (man_at (moved_so p man from capture_square to)) at_to
                ∙ man_at-same mid to (Some man),
          )
      | inr off_to ↦
          let now = man_at-other mid to s (Some man) off_to in
          elim (cases_place s from) [
            | inl at_from ↦ inr (inl (
              off_to,
              inl (inr at_from),
              now ∙ ap (man_at mid) at_from ∙ man_at-same first from None,
            ))
            | inr off_from ↦
                let before = now ∙ man_at-other first from s None off_from in
                elim (cases_place s capture_square) [
                  | inl at_taken ↦ inr
                      (inl (
                        off_to,
                        inl (inl at_taken),
                        before ∙ ap (man_at first) at_taken
                            ∙ man_at-same p capture_square None,
                      ))
                  | inr off_taken ↦ inr (inr (
                    (λ gone. elim gone [
                      | inl either ↦ elim either [ inl e ↦ off_taken e | inr e ↦ off_from e ]
                      | inr e ↦ off_to e
                    ]),
                    before ∙ man_at-other p capture_square s None off_taken,
                  ))
                ]
          ]
    ]

on_board_then : (p : Placement) (man : Man) (from capture_square to : Place) → AreOnBoard p
    → IsOnBoard to
    → AreOnBoard (moved_so p man from capture_square to)
on_board_then p man from capture_square to on on_to s other here =
    elim (stands_then p man from capture_square to s) [
      | inl at_to ↦ subst IsOnBoard (sym at_to.0) on_to
      | inr more ↦ elim more [
        | inl gone ↦ absurd (some_not_none _ other gone.2 here)
        | inr stays ↦ on s other (sym stays.1 ∙ here)
      ]
    ]

pub left_then : (p : Placement) (man : Man) (from capture_square to : Place) (left : ℕ)
    → AreOnBoard p
    → IsOnBoard to
    → IsBitboardOf (λ s. IsGone from capture_square to s → ⊥) left
    → AreLeft p (moved_so p man from capture_square to) (opposite man.side) left
left_then p man from capture_square to left on on_to are = record {
  on_board = on_board_then p man from capture_square to on on_to;
  same = λ other s there. (
    (λ here. elim (stands_then p man from capture_square to s) [
      | inl at_to ↦ absurd
          (not_opposite man.side
          (same_side man (record { side = opposite man.side; kind = other }) (sym at_to.1 ∙ here)))
      | inr more ↦ elim more [
        | inl gone ↦ absurd (some_not_none _ _ gone.2 here)
        | inr stays ↦ ((are s there).1 stays.0, sym stays.1 ∙ here)
      ]
    ]),
    (λ h. elim (stands_then p man from capture_square to s) [
      | inl at_to ↦ absurd ((are s there).0 h.0 (inr at_to.0))
      | inr more ↦ elim more [
        | inl gone ↦ absurd ((are s there).0 h.0 gone.1)
        | inr stays ↦ stays.1 ∙ h.1
      ]
    ]),
  );
}

pub men_then : (p : Placement) (man : Man) (from capture_square to : Place) (left all : ℕ)
    → IsOnBoard to
    → IsBitboardOf (λ s. IsGone from capture_square to s → ⊥) left
    → IsBitboardOf (λ s. ¬ IsEmpty p s) all
    → IsBitboardOf (λ s. ¬ IsEmpty (moved_so p man from capture_square to) s)
    (bit_or (bit_and all left) (square_bitboard to))
men_then p man from capture_square to left all on_to are men s there =
    let bitboard =
    either_bitboard _ (λ t. t ≡ to) (bit_and all left) (square_bitboard to)
    (runners_seen _ _ all left men are) (own_bitboard to on_to) s there in (
      (λ e none. elim (stands_then p man from capture_square to s) [
        | inl at_to ↦ some_not_none _ man none at_to.1
        | inr more ↦ elim (bitboard.0 e) [
          | inl stayed ↦ elim more [
            | inl gone ↦ stayed.1 gone.1
            | inr stays ↦ stayed.0 (sym stays.1 ∙ none)
          ]
          | inr at_to ↦ elim more [ inl gone ↦ gone.0 at_to | inr stays ↦ stays.0 (inr at_to) ]
        ]
      ]),
      (λ some. elim (stands_then p man from capture_square to s) [
        | inl at_to ↦ bitboard.1 (inr at_to.0)
        | inr more ↦ elim more [
          | inl gone ↦ absurd (some gone.2)
          | inr stays ↦ bitboard.1 (inl ((λ none. some (stays.1 ∙ none)), stays.0))
        ]
      ]),
    )

-- the squares that are left, of the three that are not
pub gone_bitboard : (from capture_square to : Place) (a b c : ℕ) → IsOnBoard from
    → IsOnBoard capture_square
    → IsOnBoard to → a ≡ square_bitboard capture_square → b ≡ square_bitboard from
    → c ≡ square_bitboard to → IsBitboardOf (IsGone from capture_square to) (bit_or (bit_or a b) c)
gone_bitboard from capture_square to a b c on_from on_taken on_to e f g =
    let one : (w : ℕ) (s : Place) → IsOnBoard s → w ≡ square_bitboard s
    → IsBitboardOf (λ t. t ≡ s) w =
    λ w s on is. subst (IsBitboardOf (λ (t : Place). t ≡ s)) (sym is) (own_bitboard s on) in
    either_bitboard _ (λ t. t ≡ to) (bit_or a b) c
    (either_bitboard (λ t. t ≡ capture_square) (λ t. t
    ≡ from) a b (one a capture_square on_taken e) (one b from on_from f)) (one c to on_to g)
