-- Two pawns that would leave the rank of the king: where a capture en passant takes both from
-- between him and a rook it is not legal, so the en passant square does not count.
use Rattle.chess.proofs.Common.{◌≡◌, ◌≤◌, ℕ, true, inl, inr, Some, None, ap, refl, sym, subst}
use Rattle.chess.proofs.Common.{◌∙◌, arith, cases_eq, if◌then◌else◌, Place, man_at, with_man}
use Rattle.chess.proofs.Common.{man_at-same, man_at-other, opposite, IsEmpty, IsForward, IsOnRay}
use Rattle.chess.proofs.Common.{State, IsSound, IsCheck, king_of, rook_of, pawn_of}
use Rattle.chess.proofs.Common.{is_en_passant, capture_square, men_after, White, Black, West}
use Rattle.chess.proofs.Common.{Move}
use Rattle.chess.specs.Public.Moves.{TakesEnPassant, CanTakeEnPassant}
use Rattle.chess.specs.Public.Keys.{IsSamePosition}
use Rattle.chess.proofs.AfterFacts.{after_apart, after_from}
use Rattle.chess.proofs.EnPassantFacts.{taken_from, takes_from, IsTakenFrom}
use Rattle.chess.proofs.PlaceFacts.{place_of, some_not_none}
use Rattle.chess.proofs.examples.KeyExamples.{without_square, idle_square_does_not_matter}

-- White's king on a5 and Black's rook on h5, with pawns alone between them, on d5 and e5 at most
abbrev on_rank_5 : ℕ → Place
on_rank_5 file = record { file = file; rank = 5 }

record IsRankPin (P : State) : Type 0 where
  turn : P.turn ≡ White
  king : man_at P.men (on_rank_5 1) ≡ Some (king_of White)
  rook : man_at P.men (on_rank_5 8) ≡ Some (rook_of Black)
  others : (file : ℕ) → 2 ≤ file → file ≤ 7 → (file ≡ 4 → ⊥) → (file ≡ 5 → ⊥)
      → IsEmpty P.men (on_rank_5 file)
  square : P.en_passant ≡ Some (record { file = 4; rank = 6 })

abbrev capture_on_d6 : Move
capture_on_d6 = record {
  from = on_rank_5 5;
  to = record { file = 4; rank = 6 };
  promote = None;
  castle = None;
}

-- the capture takes the pawn on d5
taken_on_d5 : (P : State) → IsRankPin P → is_en_passant P capture_on_d6 ≡ true
    → capture_square P capture_on_d6 ≡ on_rank_5 4
taken_on_d5 P pin is =
    ap (λ b. if b then on_rank_5 4 else record { file = 4; rank = 6 }) is

-- no other man of the rank moves
stays_on_rank_5 : (P : State) → IsRankPin P → is_en_passant P capture_on_d6 ≡ true → (file : ℕ)
    → (file ≡ 4 → ⊥) → (file ≡ 5 → ⊥)
    → man_at (men_after P capture_on_d6) (on_rank_5 file) ≡ man_at P.men (on_rank_5 file)
stays_on_rank_5 P pin is file not_d not_e =
    after_apart P capture_on_d6 (on_rank_5 file) (record {
      from = λ same. not_e (ap (λ (s : Place). s.file) same);
      to = λ same. let ranks : 5 ≡ 6 = ap (λ (s : Place). s.rank) same in omega (arith, ranks);
      captured = λ same. not_d (ap (λ (s : Place). s.file) (same ∙ taken_on_d5 P pin is));
      rook = λ wing castle. absurd (cc);
    })

-- and the two pawns are gone
d5_is_empty : (P : State) → IsRankPin P → is_en_passant P capture_on_d6 ≡ true
    → IsEmpty (men_after P capture_on_d6) (on_rank_5 4)
d5_is_empty P pin is =
    man_at-other
    (with_man (with_man P.men (capture_square P capture_on_d6) None) (on_rank_5 5) None)
    capture_on_d6.to (on_rank_5 4) (man_at P.men (on_rank_5 5))
    (λ same. let ranks : 5 ≡ 6 = ap (λ (s : Place). s.rank) same in omega (arith, ranks))
    ∙ man_at-other (with_man P.men (capture_square P capture_on_d6) None) (on_rank_5 5)
    (on_rank_5 4) None
    (λ same. let files : 4 ≡ 5 = ap (λ (s : Place). s.file) same in omega (arith, files))
    ∙ ap (λ s. man_at (with_man P.men s None) (on_rank_5 4)) (taken_on_d5 P pin is)
    ∙ man_at-same P.men (on_rank_5 4) None

e5_is_empty : (P : State) → IsEmpty (men_after P capture_on_d6) (on_rank_5 5)
e5_is_empty P =
    after_from P capture_on_d6 (λ wing castle. absurd (cc))
    (λ same. let ranks : 5 ≡ 6 = ap (λ (s : Place). s.rank) same in omega (arith, ranks))

empty_on_rank_5 : (P : State) → IsRankPin P → is_en_passant P capture_on_d6 ≡ true → (file : ℕ)
    → 2 ≤ file → file ≤ 7 → IsEmpty (men_after P capture_on_d6) (on_rank_5 file)
empty_on_rank_5 P pin is file low high = elim (cases_eq file 4) [
  | inl d ↦
      subst (λ f. IsEmpty (men_after P capture_on_d6) (on_rank_5 f)) (sym d)
      (d5_is_empty P pin is)
  | inr not_d ↦ elim (cases_eq file 5) [
    | inl e ↦
        subst (λ f. IsEmpty (men_after P capture_on_d6) (on_rank_5 f)) (sym e) (e5_is_empty P)
    | inr not_e ↦ stays_on_rank_5 P pin is file not_d not_e
        ∙ pin.others file low high not_d not_e
  ]
]

-- so the rook gives check, and the capture is not legal
rook_attacks_a5 : (P : State) → IsRankPin P → is_en_passant P capture_on_d6 ≡ true
    → IsOnRay (men_after P capture_on_d6) West (on_rank_5 8) (on_rank_5 1)
rook_attacks_a5 P pin is = record {
  steps = 7;
  far = omega arith;
  ahead = (refl, refl);
  clear = λ j u on some fewer ahead.
      subst (IsEmpty (men_after P capture_on_d6))
      (place_of (on_rank_5 u.file) u refl (sym ahead.1))
      (empty_on_rank_5 P pin is u.file (omega (arith, fewer, ahead)) (omega (arith, some, ahead)));
}

rook_gives_check : (P : State) → IsRankPin P → is_en_passant P capture_on_d6 ≡ true
    → IsCheck (men_after P capture_on_d6) P.turn
rook_gives_check P pin is = (
  on_rank_5 1,
  stays_on_rank_5 P pin is 1 (λ e. omega arith) (λ e. omega arith) ∙ pin.king
      ∙ ap (λ side. Some (king_of side)) (sym pin.turn),
  record {
    from = on_rank_5 8;
    man = rook_of Black;
    here = stays_on_rank_5 P pin is 8 (λ e. omega arith) (λ e. omega arith) ∙ pin.rook;
    own = sym (ap opposite pin.turn);
    reaches = (West, tt, rook_attacks_a5 P pin is);
  },
)

-- no other pawn attacks d6: c5 is empty, and from e5 it goes so alone
from_e5 : (P : State) → IsRankPin P → (m : Move) → IsSound P → TakesEnPassant P m
    → IsTakenFrom P capture_on_d6.to (on_rank_5 5)
from_e5 P pin m sound takes =
    let from = taken_from P _ m sound pin.square takes in
    let forward : IsForward White m.from.rank 6 =
    subst (λ side. IsForward side m.from.rank 6) pin.turn from.0.1.1 in
    let rank : m.from.rank ≡ 5 = omega (arith, forward) in
    elim (cases_eq m.from.file 5) [
      | inl file ↦
          subst (IsTakenFrom P capture_on_d6.to) (place_of m.from (on_rank_5 5) file rank) from
      | inr other ↦ absurd (
          let near = from.0.1.0 in
          let file : m.from.file ≡ 3 = omega (arith, near, other) in
          let none = pin.others 3 (omega arith) (omega arith) (λ e. omega arith)
          (λ e. omega arith) in
          some_not_none (man_at P.men m.from) (pawn_of P.turn)
          (subst (IsEmpty P.men) (place_of (on_rank_5 3) m.from (sym file) (sym rank)) none)
          from.0.0)
    ]

no_capture_off_the_rank : (P : State) → IsSound P → IsRankPin P → CanTakeEnPassant P → ⊥
no_capture_off_the_rank P sound pin taken =
    let from = from_e5 P pin taken.0 sound taken.1 in
    let takes = takes_from P _ (on_rank_5 5) pin.square from in
    takes.legal.safe (rook_gives_check P pin takes.capture)

rank_pin_does_not_matter : (P : State) → IsSound P → IsRankPin P
    → IsSamePosition P (without_square P)
rank_pin_does_not_matter P sound pin =
    idle_square_does_not_matter P (no_capture_off_the_rank P sound pin)
