-- Where the kings stand after a move.
use Rattle.chess.proofs.Common.{◌≡◌, ◌&&◌, ◌⊎◌, Bool, true, false, not, inl, inr, ap, refl, sym}
use Rattle.chess.proofs.Common.{subst, ◌∙◌, arith, Option, Some, None, IfSome, if◌then◌else◌, ◌==◌}
use Rattle.chess.proofs.Common.{nat_tests, and_parts, Place, Placement, man_at, opposite, IsEmpty}
use Rattle.chess.proofs.Common.{IsForward, State, king_of, rook_of, pawn_of, king_to, rook_from}
use Rattle.chess.proofs.Common.{rook_to, IsOnlyKing, FitsEnPassant, Goes, Castles, arriving}
use Rattle.chess.proofs.Common.{capture_square, is_pawn, is_square, is_en_passant, men_after}
use Rattle.chess.proofs.Common.{IsPawnMove, Man, Side, King, Queen, Rook, Bishop, Knight, Pawn}
use Rattle.chess.proofs.Common.{Wing, KingSide, QueenSide, Move}
use Rattle.chess.specs.Shared.Codes.{IsFollowed}
use Rattle.chess.proofs.PlaceFacts.{same_square-then, cases_place, cases_side, same_kind}
use Rattle.chess.proofs.PlaceFacts.{some_not_none}
use Rattle.chess.proofs.GoesFacts.{IsTried, goes_castle, goes_promote, no_king_taken, has_arrived}
use Rattle.chess.proofs.AfterFacts.{IsNoRook, IsApart, after_apart, after_to, has_come}

-- ---- the man that is taken

pub and_left : (a b : Bool) → (a && b) ≡ true → a ≡ true
and_left a b e = (and_parts a b e).0

pub and_right : (a b : Bool) → (a && b) ≡ true → b ≡ true
and_right a b e = (and_parts a b e).1

pub pawn_kind : (man : Man) → is_pawn (Some man) ≡ true → man.kind ≡ Pawn
pawn_kind man e =
    elim man.kind as (λ k. is_pawn (Some (record { side = man.side; kind = k })) ≡ true
    → k ≡ Pawn) [
      | King ↦ λ f. let g : false ≡ true = f in cc
      | Queen ↦ λ f. let g : false ≡ true = f in cc
      | Rook ↦ λ f. let g : false ≡ true = f in cc
      | Bishop ↦ λ f. let g : false ≡ true = f in cc
      | Knight ↦ λ f. let g : false ≡ true = f in cc
      | Pawn ↦ λ f. refl
    ] e

pub is_square-then : (o : Option Place) (s : Place) → is_square o s ≡ true → o ≡ Some s
is_square-then None s e = let f : false ≡ true = e in cc
is_square-then (Some t) s e = ap Some (same_square-then t s e)

-- a pawn that goes to another file goes forward
pawn_forward : (P : State) (m : Move) → IsPawnMove P m.from m.to
    → not (m.from.file == m.to.file) ≡ true → IsForward P.turn m.from.rank m.to.rank
pawn_forward P m g other = elim g [
  | inl single ↦ let same = single.0 in absurd (grind (arith, nat_tests))
  | inr more ↦ elim more [
    | inl double ↦ let same = double.file in absurd (grind (arith, nat_tests))
    | inr capture ↦ capture.0.1
  ]
]

fits : (o : Option Place) (p : Placement) (turn : Side) (s : Place)
    → IfSome o (FitsEnPassant p turn) → o ≡ Some s → FitsEnPassant p turn s
fits None p turn s h e = cc
fits (Some t) p turn s h e = let same : t ≡ s = cc in subst (FitsEnPassant p turn) same h

pub passing_pawn : (P : State) (m : Move) → IsTried P m → is_en_passant P m ≡ true
    → man_at P.men (record { file = m.to.file; rank = m.from.rank })
    ≡ Some (pawn_of (opposite P.turn))
passing_pawn P m x e =
    let pawn_test = and_left (is_pawn (man_at P.men m.from) && not (m.from.file == m.to.file)) _ e
    in
    let square =
    and_right (is_pawn (man_at P.men m.from)
    && not (m.from.file == m.to.file)) (is_square P.en_passant m.to) e in
    let pawn = and_left (is_pawn (man_at P.men m.from)) (not (m.from.file == m.to.file)) pawn_test
    in
    let other_file =
    and_right (is_pawn (man_at P.men m.from)) (not (m.from.file == m.to.file)) pawn_test in
    let is_a_pawn = pawn_kind x.rules.man (ap is_pawn (sym x.rules.here) ∙ pawn) in
    let goes : Goes P m Pawn = subst (Goes P m) is_a_pawn x.rules.goes in
    (fits P.en_passant P.men P.turn m.to x.sound.en_passant
    (is_square-then P.en_passant m.to square)).pawn
    (record { file = m.to.file; rank = m.from.rank }) refl (pawn_forward P m goes.1 other_file)

-- the square of the man that is taken is the one that the move goes to, or a pawn of the other side
-- stands there
pub taken_cases : (P : State) (m : Move) → IsTried P m
    → (capture_square P m ≡ m.to)
    ⊎ (man_at P.men (capture_square P m) ≡ Some (pawn_of (opposite P.turn)))
taken_cases P m x =
    elim (is_en_passant P m) as (λ b. is_en_passant P m ≡ b
    → ((if b then record { file = m.to.file; rank = m.from.rank } else m.to) ≡ m.to)
    ⊎ (man_at P.men (if b then record { file = m.to.file; rank = m.from.rank } else m.to)
    ≡ Some (pawn_of (opposite P.turn)))) [
      | true ↦ λ e. inr (passing_pawn P m x e)
      | false ↦ λ e. inl refl
    ] refl

-- ---- squares that a move leaves alone

pub rook_to-empty : (P : State) (m : Move) (wing : Wing) → Castles P wing m
    → IsEmpty P.men (rook_to P.turn wing)
rook_to-empty P m KingSide c = c.empty _ refl (omega arith, omega arith)
rook_to-empty P m QueenSide c = c.empty _ refl (omega arith, omega arith)

-- castling moves no man but the king and the own rook at home
pub no_rook : (P : State) (m : Move) → IsTried P m → (s : Place) (man : Man)
    → man_at P.men s ≡ Some man → (man ≡ rook_of P.turn → ⊥)
    → IsNoRook P.turn m.castle s
no_rook P m x s man here other wing castle =
    let castles = (goes_castle P m x.rules.man.kind x.rules.goes wing castle).1 in (
      (λ e. other (
          let there = (x.sound.rights P.turn wing castles.right).1 in
          let same : Some man ≡ Some (rook_of P.turn) = sym here ∙ ap (man_at P.men) e ∙ there in
          cc)),
      (λ e. some_not_none (man_at P.men s) man (ap (man_at P.men) e
          ∙ rook_to-empty P m wing castles) here),
    )

-- the own king, or rook of a right, that neither leaves nor is taken
king_not_rook : (a b : Side) → king_of a ≡ rook_of b → ⊥
king_not_rook a b e = let kinds : King ≡ Rook = ap (λ (x : Man). x.kind) e in cc

king_not_pawn : (a b : Side) → Some (king_of a) ≡ Some (pawn_of b) → ⊥
king_not_pawn a b e = let kinds : King ≡ Pawn = same_kind _ _ e in cc

-- no move goes to a square of a king
pub not_to_king : (P : State) (m : Move) → IsTried P m → (side : Side) (s : Place)
    → man_at P.men s ≡ Some (king_of side) → s ≡ m.to → ⊥
not_to_king P m x side s here e =
    let there : man_at P.men m.to ≡ Some (king_of side) = ap (man_at P.men) (sym e) ∙ here in
    elim (cases_side side P.turn) [
      | inl own ↦ x.rules.free (king_of side, there, own)
      | inr enemy ↦ no_king_taken P m x (there ∙ ap (λ (a : Side). Some (king_of a)) enemy)
    ]

pub king_apart : (P : State) (m : Move) → IsTried P m → (side : Side) (s : Place)
    → man_at P.men s ≡ Some (king_of side) → (s ≡ m.from → ⊥) → IsApart P m s
king_apart P m x side s here stays = record {
  from = stays;
  to = not_to_king P m x side s here;
  captured = λ e. elim (taken_cases P m x) [
    | inl same ↦ not_to_king P m x side s here (e ∙ same)
    | inr pawn ↦ king_not_pawn side (opposite P.turn) (sym here ∙ ap (man_at P.men) e ∙ pawn)
  ];
  rook = no_rook P m x s (king_of side) here (king_not_rook side P.turn);
}

-- ---- the kings after the move

-- a king that arrives is the one that left
arrived_king : (P : State) (m : Move) → IsTried P m → (side : Side)
    → arriving P m.promote m.from ≡ Some (king_of side)
    → man_at P.men m.from ≡ Some (king_of side)
arrived_king P m x side e = let new = has_arrived P m x (king_of side) e in elim new.same [
  | inl old ↦ x.rules.here ∙ ap Some (sym old.1)
  | inr pawn ↦ elim pawn.1 [
    | inl a ↦ cc
    | inr b ↦ elim b [ inl a ↦ cc | inr d ↦ elim d [ inl a ↦ cc | inr a ↦ cc ] ]
  ]
]

pub king_stays : (P : State) (m : Move) → IsTried P m → (side : Side) (s : Place)
    → IsOnlyKing P.men side s → (s ≡ m.from → ⊥)
    → IsOnlyKing (men_after P m) side s
king_stays P m x side s k stays = record {
  here = after_apart P m s (king_apart P m x side s k.here stays) ∙ k.here;
  only = λ t there. elim (has_come P m t (king_of side) there) [
    | inl came ↦ absurd (stays (sym (k.only m.from (arrived_king P m x side came.1))))
    | inr other ↦ elim other [
      | inl rook ↦ absurd (king_not_rook side P.turn (sym rook))
      | inr stayed ↦ k.only t stayed.1
    ]
  ];
}

files_apart : (side : Side) (wing : Wing)
    → (king_to side wing ≡ rook_from side wing → ⊥) × (king_to side wing ≡ rook_to side wing → ⊥)
files_apart side KingSide = (
  (λ e. let f : 7 ≡ 8 = ap (λ (s : Place). s.file) e in omega arith),
  (λ e. let f : 7 ≡ 6 = ap (λ (s : Place). s.file) e in omega arith),
)
files_apart side QueenSide = (
  (λ e. let f : 3 ≡ 1 = ap (λ (s : Place). s.file) e in omega arith),
  (λ e. let f : 3 ≡ 4 = ap (λ (s : Place). s.file) e in omega arith),
)

-- no rook castles over the square that the move goes to
pub no_rook_to : (P : State) (m : Move) → IsTried P m → IsNoRook P.turn m.castle m.to
no_rook_to P m x wing castle =
    let castles = (goes_castle P m x.rules.man.kind x.rules.goes wing castle).1 in (
      (λ e. (files_apart P.turn wing).0 (sym castles.to ∙ e)),
      (λ e. (files_apart P.turn wing).1 (sym castles.to ∙ e)),
    )

-- a king becomes nothing else
pub king_keeps : (P : State) (m : Move) → IsTried P m → (side : Side)
    → man_at P.men m.from ≡ Some (king_of side)
    → arriving P m.promote m.from ≡ Some (king_of side)
king_keeps P m x side here = elim (goes_promote P m x.rules.man.kind x.rules.goes) [
  | inl none ↦ ap (λ o. arriving P o m.from) none ∙ here
  | inr pawn ↦
      let kinds : King ≡ x.rules.man.kind =
      same_kind (king_of side) x.rules.man (sym here ∙ x.rules.here) in
      let clash : King ≡ Pawn = kinds ∙ pawn.0 in absurd (cc)
]

pub king_moves : (P : State) (m : Move) → IsTried P m → (side : Side) (s : Place)
    → IsOnlyKing P.men side s → s ≡ m.from
    → IsOnlyKing (men_after P m) side m.to
king_moves P m x side s k moves =
    let here : man_at P.men m.from ≡ Some (king_of side) = ap (man_at P.men) (sym moves) ∙ k.here in
    record {
      here = after_to P m (no_rook_to P m x) ∙ king_keeps P m x side here;
      only = λ t there. elim (has_come P m t (king_of side) there) [
        | inl came ↦ came.0
        | inr other ↦ elim other [
          | inl rook ↦ absurd (king_not_rook side P.turn (sym rook))
          | inr stayed ↦ absurd (stayed.0 (k.only t stayed.1 ∙ moves))
        ]
      ];
    }

-- the king of a side is followed: he stands where the man arrived, if that man is he
pub king_follows : (P : State) (m : Move) → IsTried P m → (man : Man)
    → man_at P.men m.from ≡ Some man → (side : Side) (old new : Place)
    → IsOnlyKing P.men side old → IsFollowed man m.to side old new
    → IsOnlyKing (men_after P m) side new
king_follows P m x man here side old new k followed = elim (cases_place old m.from) [
  | inl moves ↦
      let is_king : man ≡ king_of side = let f =
      sym here ∙ ap (man_at P.men) (sym moves) ∙ k.here in cc in
      subst (IsOnlyKing (men_after P m) side) (sym (followed.moved is_king))
      (king_moves P m x side old k moves)
  | inr stays ↦
      let other : man ≡ king_of side → ⊥ =
      λ is_king. stays (sym (k.only m.from (here ∙ ap Some is_king))) in
      subst (IsOnlyKing (men_after P m) side) (sym (followed.stays other))
      (king_stays P m x side old k stays)
]
