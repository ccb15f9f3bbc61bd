-- A move keeps a position sound.
use Rattle.chess.proofs.Common.{◌≡◌, ◌≢◌, ◌≤◌, ◌+◌, ◌/◌, ◌&&◌, ◌⊎◌, ℕ, true, false, not, inl, inr}
use Rattle.chess.proofs.Common.{ap, refl, sym, subst, ◌∙◌, arith, Option, Some, None, IfSome}
use Rattle.chess.proofs.Common.{if◌then◌else◌, ◌==◌, eqb-true, Place, same_square, gap, man_at}
use Rattle.chess.proofs.Common.{opposite, IsEmpty, IsForward, State, king_of, rook_of, pawn_of}
use Rattle.chess.proofs.Common.{home_rank, pawn_rank, passed_rank, has_right, king_from, rook_from}
use Rattle.chess.proofs.Common.{IsCheck, IsOnlyKing, IsSound, FitsEnPassant, Goes, IsPromotion}
use Rattle.chess.proofs.Common.{Promotes, IsPawnMove, IsDoubleStep, arriving, is_pawn, men_after}
use Rattle.chess.proofs.Common.{keeps_right, rights_after, after, Man, Side, White, Black, Kind}
use Rattle.chess.proofs.Common.{Rook, Pawn, Wing, KingSide, CastlingRights, Move}
use Rattle.chess.specs.Public.Moves.{en_passant_after}
use Rattle.chess.proofs.PlaceFacts.{place_of, cases_place, same_square-same, cases_side}
use Rattle.chess.proofs.PlaceFacts.{opposite-opposite, same_kind, some_not_none, man_of, true_not}
use Rattle.chess.proofs.GoesFacts.{IsTried, goes_castle, has_arrived}
use Rattle.chess.proofs.AfterFacts.{IsNoRook, IsApart, after_apart, after_to, after_from, has_come}
use Rattle.chess.proofs.AfterFacts.{after_on_board}
use Rattle.chess.proofs.KingFacts.{pawn_kind, taken_cases, rook_to-empty, king_apart, king_stays}
use Rattle.chess.proofs.KingFacts.{king_moves, no_rook_to, and_left, and_right}

-- ---- pawns

-- a pawn goes one rank forward or two
abbrev pub IsAdvance : Side → ℕ → ℕ → Type 0
IsAdvance side a b = IsForward side a b ⊎ ((n : ℕ) × IsForward side a n × IsForward side n b)

advance : (P : State) (s t : Place) → IsPawnMove P s t → IsAdvance P.turn s.rank t.rank
advance P s t g = elim g [
  | inl single ↦ inl single.1
  | inr more ↦ elim more [
    | inl double ↦ inr (double.passed.rank, double.first, double.second)
    | inr capture ↦ inl capture.0.1
  ]
]

-- so it never comes to its own home rank
not_home : (side : Side) (a b : ℕ) → 1 ≤ a → a ≤ 8 → IsAdvance side a b → b ≡ home_rank side → ⊥
not_home White a b low high g e =
    elim g [
      | inl one ↦ omega arith
      | inr two ↦ let first = two.1 in let second = two.2 in
          omega arith
    ]
not_home Black a b low high g e =
    elim g [
      | inl one ↦ omega arith
      | inr two ↦ let first = two.1 in let second = two.2 in
          omega arith
    ]

edges : (side : Side) (b : ℕ) → (b ≡ home_rank side → ⊥) → (b ≡ home_rank (opposite side) → ⊥)
    → (b ≢ 1) × (b ≢ 8)
edges White b own other = (own, other)
edges Black b own other = (other, own)

not_a_pawn : IsPromotion (Some Pawn) → ⊥
not_a_pawn h =
    elim h [
      | inl a ↦ cc
      | inr b ↦ elim b [ inl a ↦ cc | inr d ↦ elim d [ inl a ↦ cc | inr a ↦ cc ] ]
    ]

-- a pawn that arrives as a pawn left as one, and is not on the last rank
arrived_pawn : (P : State) (m : Move) → IsTried P m → (side : Side)
    → arriving P m.promote m.from ≡ Some (pawn_of side)
    → (m.promote ≡ None) × Goes P m Pawn
arrived_pawn P m x side e =
    let new = has_arrived P m x (pawn_of side) e in
    elim new.same [
      | inl old ↦
          let kinds : x.rules.man.kind ≡ Pawn = sym (ap (λ (a : Man). a.kind) old.1) in
          (old.0, subst (Goes P m) kinds x.rules.goes)
      | inr became ↦ absurd (not_a_pawn became.1)
    ]

not_last : (side : Side) (t : Place) (promote : Option Kind) → Promotes side t promote
    → promote ≡ None → t.rank ≡ home_rank (opposite side) → ⊥
not_last side t promote h none last = elim h [
  | inl there ↦ subst IsPromotion none there.1
  | inr other ↦ other.0 last
]

pawns_after : (P : State) (m : Move) → IsTried P m → (side : Side) (s : Place)
    → man_at (men_after P m) s ≡ Some (pawn_of side)
    → (s.rank ≢ 1) × (s.rank ≢ 8)
pawns_after P m x side s here = elim (has_come P m s (pawn_of side) here) [
  | inl came ↦
      let arrived = arrived_pawn P m x side came.1 in
      let goes = arrived.1 in
      let low = x.rules.from.rank_low in let high = x.rules.from.rank_high in
      let at_to = edges P.turn m.to.rank
      (not_home P.turn m.from.rank m.to.rank low high (advance P m.from m.to goes.1))
      (not_last P.turn m.to m.promote goes.2 arrived.0) in
      subst (λ (t : Place). (t.rank ≢ 1) × (t.rank ≢ 8)) (sym came.0) at_to
  | inr other ↦ elim other [
    | inl rook ↦ let kinds : Rook ≡ Pawn = ap (λ (a : Man). a.kind) rook in absurd (cc)
    | inr stayed ↦ x.sound.pawns side s stayed.1
  ]
]

-- ---- rights

rights_are : (rights : CastlingRights) (m : Move) (side : Side) (wing : Wing)
    → has_right (rights_after rights m) side wing ≡ keeps_right rights m side wing
rights_are rights m White KingSide = refl
rights_are rights m Black KingSide = refl
rights_are rights m _ _ = refl

-- what a right that is kept says
pub record IsRightKept (P : State) (m : Move) (side : Side) (wing : Wing) : Type 0 where
  pub held : has_right P.rights side wing ≡ true
  pub king : m.from ≡ king_from side → ⊥
  pub leaves : m.from ≡ rook_from side wing → ⊥
  pub comes : m.to ≡ rook_from side wing → ⊥

right_kept : (P : State) (m : Move) (side : Side) (wing : Wing)
    → keeps_right P.rights m side wing ≡ true → IsRightKept P m side wing
right_kept P m side wing e =
    let held = has_right P.rights side wing in
    let king = not (same_square m.from (king_from side)) in
    let leaves = not (same_square m.from (rook_from side wing)) in
    let comes = not (same_square m.to (rook_from side wing)) in
    let three = and_left (held && king && leaves) comes e in
    let two = and_left (held && king) leaves three in
    record {
      held = and_left held king two;
      king = λ same. true_not _ (and_right held king two)
          (same_square-same m.from (king_from side) same);
      leaves =
          λ same. true_not _ (and_right (held && king) leaves three)
          (same_square-same m.from (rook_from side wing) same);
      comes = λ same. true_not _ (and_right (held && king && leaves) comes e)
          (same_square-same m.to (rook_from side wing) same);
    }

home_ranks : (side : Side) → home_rank (opposite side) ≡ home_rank side → ⊥
home_ranks White e = omega arith
home_ranks Black e = omega arith

rook_apart : (P : State) (m : Move) → IsTried P m → (side : Side) (wing : Wing)
    → IsRightKept P m side wing
    → man_at P.men (rook_from side wing) ≡ Some (rook_of side) → IsApart P m (rook_from side wing)
rook_apart P m x side wing kept here = record {
  from = λ e. kept.leaves (sym e);
  to = λ e. kept.comes (sym e);
  captured = λ e. elim (taken_cases P m x) [
    | inl same ↦ kept.comes (sym (e ∙ same))
    | inr pawn ↦
        let kinds : Rook ≡ Pawn =
        same_kind (rook_of side) (pawn_of (opposite P.turn)) (sym here ∙ ap (man_at P.men) e
        ∙ pawn) in cc
  ];
  rook = λ other castle.
      let castles = (goes_castle P m x.rules.man.kind x.rules.goes other castle).1 in (
        (λ e. elim (cases_side side P.turn) [
          | inl own ↦ kept.king (castles.from ∙ ap king_from (sym own))
          | inr enemy ↦ home_ranks P.turn (sym (ap home_rank enemy) ∙ ap (λ (s : Place). s.rank) e)
        ]),
        (λ e. some_not_none (man_at P.men (rook_from side wing)) (rook_of side) (ap (man_at P.men) e
            ∙ rook_to-empty P m other castles) here),
      );
}

rights_sound : (P : State) (m : Move) → IsTried P m → (side : Side) (wing : Wing)
    → has_right (rights_after P.rights m) side wing ≡ true
    → (man_at (men_after P m) (king_from side) ≡ Some (king_of side))
    × (man_at (men_after P m) (rook_from side wing) ≡ Some (rook_of side))
rights_sound P m x side wing e =
    let kept = right_kept P m side wing (sym (rights_are P.rights m side wing) ∙ e) in
    let home = x.sound.rights side wing kept.held in (
      after_apart P m (king_from side)
          (king_apart P m x side (king_from side) home.0 (λ same. kept.king (sym same))) ∙ home.0,
      after_apart P m (rook_from side wing) (rook_apart P m x side wing kept home.1) ∙ home.1,
    )

-- ---- the en passant square

forward_gap : (side : Side) (a b : ℕ) → IsForward side a b → gap a b ≡ 2 → ⊥
forward_gap White a b h e = omega arith
forward_gap Black a b h e = omega arith

double_of : (P : State) (s t : Place) → IsPawnMove P s t → gap s.rank t.rank ≡ 2
    → IsDoubleStep P s t
double_of P s t g e = elim g [
  | inl single ↦ absurd (forward_gap P.turn s.rank t.rank single.1 e)
  | inr more ↦ elim more [
    | inl double ↦ double
    | inr capture ↦ absurd (forward_gap P.turn s.rank t.rank capture.0.1 e)
  ]
]

-- the ranks of a double step
pub record AreDoubleRanks (side : Side) (a u b : ℕ) : Type 0 where
  pub middle : u ≡ (a + b) / 2
  pub passed : u ≡ passed_rank (opposite (opposite side))
  pub low : 1 ≤ u
  pub high : u ≤ 8
  pub from : u ≢ a
  pub to : u ≢ b
  pub ends : a ≢ b
  pub last : b ≡ home_rank (opposite side) → ⊥
  pub before : (c : ℕ) → IsForward (opposite side) u c → c ≡ a
  pub beyond : (c : ℕ) → IsForward (opposite side) c u → c ≡ b

double_ranks : (side : Side) (a u b : ℕ) → a ≡ pawn_rank side → IsForward side a u
    → IsForward side u b → AreDoubleRanks side a u b
double_ranks White a u b home first second = record {
  middle = omega arith;
  passed = omega arith;
  low = omega arith;
  high = omega arith;
  from = λ e. omega arith;
  to = λ e. omega arith;
  ends = λ e. omega arith;
  last = λ e. omega arith;
  before = λ c f. omega arith;
  beyond = λ c f. omega arith;
}
double_ranks Black a u b home first second = record {
  middle = omega arith;
  passed = omega arith;
  low = omega arith;
  high = omega arith;
  from = λ e. omega arith;
  to = λ e. omega arith;
  ends = λ e. omega arith;
  last = λ e. omega arith;
  before = λ c f. omega arith;
  beyond = λ c f. omega arith;
}

no_castle : (side : Side) (castle : Option Wing) (s : Place) → castle ≡ None
    → IsNoRook side castle s
no_castle side castle s none wing some = let e : None ≡ Some wing = sym none ∙ some in (cc, cc)

rank_of : (s t : Place) → s ≡ t → s.rank ≡ t.rank
rank_of s t e = ap (λ (u : Place). u.rank) e

-- the pawn that makes a double step stays a pawn
stays_pawn : (P : State) (m : Move) → man_at P.men m.from ≡ Some (pawn_of P.turn)
    → Promotes P.turn m.to m.promote
    → (m.to.rank ≡ home_rank (opposite P.turn) → ⊥)
    → arriving P m.promote m.from ≡ Some (pawn_of P.turn)
stays_pawn P m here promotes not_there = elim promotes [
  | inl last ↦ absurd (not_there last.0)
  | inr other ↦ ap (λ o. arriving P o m.from) other.1 ∙ here
]

-- the square that it passes over fits as an en passant square
passed_fits : (P : State) (m : Move) (x : IsTried P m) → x.rules.man.kind ≡ Pawn → (u : Place)
    → u.file ≡ m.from.file → m.to.file ≡ m.from.file
    → IsEmpty P.men u → AreDoubleRanks P.turn m.from.rank u.rank m.to.rank
    → FitsEnPassant (men_after P m) (opposite P.turn) u
passed_fits P m x pawn u file to_file empty ranks =
    let goes : Goes P m Pawn = subst (Goes P m) pawn x.rules.goes in
    let here : man_at P.men m.from ≡ Some (pawn_of P.turn) =
    x.rules.here ∙ ap Some (man_of x.rules.man (pawn_of P.turn) x.rules.own pawn) in
    let apart : IsApart P m u = record {
      from = λ e. ranks.from (rank_of u m.from e);
      to = λ e. ranks.to (rank_of u m.to e);
      captured = λ e. elim (taken_cases P m x) [
        | inl same ↦ ranks.to (rank_of u m.to (e ∙ same))
        | inr other ↦ some_not_none (man_at P.men u) (pawn_of (opposite P.turn)) empty
            (ap (man_at P.men) e ∙ other)
      ];
      rook = no_castle P.turn m.castle u goes.0;
    } in
    record {
      on_board = record {
        file_low = subst (λ n. 1 ≤ n) (sym file) x.rules.from.file_low;
        file_high = subst (λ n. n ≤ 8) (sym file) x.rules.from.file_high;
        rank_low = ranks.low;
        rank_high = ranks.high;
      };
      rank = ranks.passed;
      empty = after_apart P m u apart ∙ empty;
      origin = λ t same back.
          let there : m.from ≡ t =
          place_of m.from t (sym (same ∙ file)) (sym (ranks.before t.rank back)) in
          subst (IsEmpty (men_after P m)) there
          (after_from P m (no_castle P.turn m.castle m.from goes.0) (λ e.
          ranks.ends (rank_of m.from m.to e)));
      pawn = λ t same on.
          let there : t ≡ m.to =
          place_of t m.to (same ∙ file ∙ sym to_file) (ranks.beyond t.rank on) in
          ap (man_at (men_after P m)) there ∙ after_to P m (no_rook_to P m x)
          ∙ stays_pawn P m here goes.2 ranks.last
          ∙ ap (λ (side : Side). Some (pawn_of side)) (sym (opposite-opposite P.turn));
    }

double_fits : (P : State) (m : Move) → IsTried P m
    → (is_pawn (man_at P.men m.from) && (gap m.from.rank m.to.rank == 2)) ≡ true
    → FitsEnPassant (men_after P m) (opposite P.turn)
    (record { file = m.from.file; rank = (m.from.rank + m.to.rank) / 2 })
double_fits P m x e =
    let is_a_pawn = and_left (is_pawn (man_at P.men m.from)) (gap m.from.rank m.to.rank == 2) e in
    let two =
    eqb-true (gap m.from.rank m.to.rank) 2
    (and_right (is_pawn (man_at P.men m.from)) (gap m.from.rank m.to.rank == 2) e) in
    let pawn = pawn_kind x.rules.man (ap is_pawn (sym x.rules.here) ∙ is_a_pawn) in
    let goes : Goes P m Pawn = subst (Goes P m) pawn x.rules.goes in
    let double = double_of P m.from m.to goes.1 two in
    let u = double.passed in
    let ranks =
    double_ranks P.turn m.from.rank u.rank m.to.rank double.from_first_rank double.first
    double.second in
    let middle : u ≡ record { file = m.from.file; rank = (m.from.rank + m.to.rank) / 2 } =
    λ i. record { file = double.same_file i; rank = ranks.middle i } in
    subst (FitsEnPassant (men_after P m) (opposite P.turn)) middle
    (passed_fits P m x pawn u double.same_file double.file double.empty ranks)

en_passant_sound : (P : State) (m : Move) → IsTried P m
    → IfSome (en_passant_after P m) (FitsEnPassant (men_after P m) (opposite P.turn))
en_passant_sound P m x =
    elim (is_pawn (man_at P.men m.from) && (gap m.from.rank m.to.rank == 2)) as (λ b.
    (is_pawn (man_at P.men m.from) && (gap m.from.rank m.to.rank == 2)) ≡ b
    → IfSome (if b then Some (record { file = m.from.file; rank = (m.from.rank + m.to.rank) / 2 })
    else None)
    (FitsEnPassant (men_after P m) (opposite P.turn))) [
      | true ↦ λ e. double_fits P m x e
      | false ↦ λ e. tt
    ] refl

-- ---- all together

king_sound : (P : State) (m : Move) → IsTried P m → (side : Side)
    → (s : Place) × IsOnlyKing (men_after P m) side s
king_sound P m x side =
    let king = x.sound.king side in
    elim (cases_place king.0 m.from) [
      | inl moves ↦ (m.to, king_moves P m x side king.0 king.1 moves)
      | inr stays ↦ (king.0, king_stays P m x side king.0 king.1 stays)
    ]

pub after_sound : (P : State) (m : Move) → IsTried P m → (IsCheck (men_after P m) P.turn → ⊥)
    → IsSound (after P m)
after_sound P m x safe = record {
  on_board = after_on_board P m x.sound.on_board x.rules.to;
  king = king_sound P m x;
  pawns = pawns_after P m x;
  quiet = λ check. safe (subst (IsCheck (men_after P m)) (opposite-opposite P.turn) check);
  rights = rights_sound P m x;
  en_passant = en_passant_sound P m x;
}
