-- Who stands where after a move.
use Rattle.chess.proofs.Common.{◌≡◌, ◌⊎◌, inl, inr, ap, refl, sym, subst, ◌∙◌, arith, Option, Some}
use Rattle.chess.proofs.Common.{None, Place, IsOnBoard, Placement, man_at, with_man, AreOnBoard}
use Rattle.chess.proofs.Common.{IsEmpty, State, rook_of, rook_from, rook_to, arriving}
use Rattle.chess.proofs.Common.{capture_square, with_rook, men_after, man_at-same, man_at-other}
use Rattle.chess.proofs.Common.{Man, Side, White, Black, Wing, KingSide, QueenSide, Move}
use Rattle.chess.proofs.PlaceFacts.{cases_place, some_not_none}

-- the men after the man that moves has left and arrived
abbrev pub men_moved : State → Move → Placement
men_moved P m =
    with_man (with_man (with_man P.men (capture_square P m) None) m.from None) m.to
    (arriving P m.promote m.from)

-- no rook castles from this square or to it
abbrev pub IsNoRook : Side → Option Wing → Place → Type 0
IsNoRook side castle s = (wing : Wing) → castle ≡ Some wing
    → (s ≡ rook_from side wing → ⊥) × (s ≡ rook_to side wing → ⊥)

-- a square that the move leaves alone
pub record IsApart (P : State) (m : Move) (s : Place) : Type 0 where
  pub from : s ≡ m.from → ⊥
  pub to : s ≡ m.to → ⊥
  pub captured : s ≡ capture_square P m → ⊥
  pub rook : IsNoRook P.turn m.castle s

apart_of_rook : (side : Side) (castle : Option Wing) (p : Placement) (s : Place)
    → IsNoRook side castle s → man_at (with_rook side castle p) s ≡ man_at p s
apart_of_rook side None p s h = refl
apart_of_rook side (Some wing) p s h =
    let other = h wing refl in
    man_at-other (with_man p (rook_from side wing) None) (rook_to side wing) s (Some (rook_of side))
    other.1
    ∙ man_at-other p (rook_from side wing) s None other.0

pub after_apart : (P : State) (m : Move) (s : Place) → IsApart P m s
    → man_at (men_after P m) s ≡ man_at P.men s
after_apart P m s a =
    apart_of_rook P.turn m.castle (men_moved P m) s a.rook
    ∙ man_at-other (with_man (with_man P.men (capture_square P m) None) m.from None) m.to s
    (arriving P m.promote m.from) a.to
    ∙ man_at-other (with_man P.men (capture_square P m) None) m.from s None a.from
    ∙ man_at-other P.men (capture_square P m) s None a.captured

pub after_to : (P : State) (m : Move) → IsNoRook P.turn m.castle m.to
    → man_at (men_after P m) m.to ≡ arriving P m.promote m.from
after_to P m h =
    apart_of_rook P.turn m.castle (men_moved P m) m.to h
    ∙ man_at-same (with_man (with_man P.men (capture_square P m) None) m.from None) m.to
    (arriving P m.promote m.from)

pub after_from : (P : State) (m : Move) → IsNoRook P.turn m.castle m.from → (m.from ≡ m.to → ⊥)
    → IsEmpty (men_after P m) m.from
after_from P m h other =
    apart_of_rook P.turn m.castle (men_moved P m) m.from h
    ∙ man_at-other (with_man (with_man P.men (capture_square P m) None) m.from None) m.to m.from
    (arriving P m.promote m.from) other
    ∙ man_at-same (with_man P.men (capture_square P m) None) m.from None

-- how a man has come to stand on a square after the move: by going there, as the rook that castles,
-- or by staying
abbrev pub HasCome : State → Move → Place → Man → Type 0
HasCome P m s man = ((s ≡ m.to) × (arriving P m.promote m.from ≡ Some man))
    ⊎ ((rook_of P.turn ≡ man) ⊎ ((s ≡ m.from → ⊥) × (man_at P.men s ≡ Some man)))

come_rook : (side : Side) (castle : Option Wing) (p : Placement) (s : Place) (man : Man)
    → man_at (with_rook side castle p) s ≡ Some man
    → (rook_of side ≡ man) ⊎ (man_at p s ≡ Some man)
come_rook side None p s man here = inr here
come_rook side (Some wing) p s man here = elim (cases_place s (rook_to side wing)) [
  | inl e ↦ inl (
      let there : Some (rook_of side) ≡ Some man =
      sym (man_at-same (with_man p (rook_from side wing) None) (rook_to side wing)
      (Some (rook_of side)))
      ∙ ap (man_at (with_rook side (Some wing) p)) (sym e) ∙ here in cc)
  | inr not_to ↦
      let left : man_at (with_man p (rook_from side wing) None) s ≡ Some man =
      sym (man_at-other (with_man p (rook_from side wing) None) (rook_to side wing) s
      (Some (rook_of side)) not_to) ∙ here in
      elim (cases_place s (rook_from side wing)) [
        | inl e ↦ absurd (some_not_none _ man
            (ap (man_at (with_man p (rook_from side wing) None)) e
            ∙ man_at-same p (rook_from side wing) None) left)
        | inr not_from ↦ inr (sym (man_at-other p (rook_from side wing) s None not_from) ∙ left)
      ]
]

come_moved : (P : State) (m : Move) (s : Place) (man : Man) → man_at (men_moved P m) s ≡ Some man
    → ((s ≡ m.to) × (arriving P m.promote m.from ≡ Some man))
    ⊎ ((s ≡ m.from → ⊥) × (man_at P.men s ≡ Some man))
come_moved P m s man here =
    let cleared = with_man P.men (capture_square P m) None in
    let left = with_man cleared m.from None in
    elim (cases_place s m.to) [
      | inl e ↦ inl (
        e,
        sym (ap (man_at (men_moved P m)) e ∙ man_at-same left m.to (arriving P m.promote m.from))
            ∙ here,
      )
      | inr not_to ↦
          let before : man_at left s ≡ Some man =
          sym (man_at-other left m.to s (arriving P m.promote m.from) not_to) ∙ here in
          elim (cases_place s m.from) [
            | inl e ↦ absurd (some_not_none (man_at left s) man (ap (man_at left) e
                ∙ man_at-same cleared m.from None) before)
            | inr not_from ↦
                let first : man_at cleared s ≡ Some man =
                sym (man_at-other cleared m.from s None not_from) ∙ before in
                elim (cases_place s (capture_square P m)) [
                  | inl e ↦ absurd (some_not_none (man_at cleared s) man (ap (man_at cleared) e
                      ∙ man_at-same P.men (capture_square P m) None) first)
                  | inr not_taken ↦ inr (
                    not_from,
                    sym (man_at-other P.men (capture_square P m) s None not_taken) ∙ first,
                  )
                ]
          ]
    ]

pub has_come : (P : State) (m : Move) (s : Place) (man : Man) → man_at (men_after P m) s ≡ Some man
    → HasCome P m s man
has_come P m s man here = elim (come_rook P.turn m.castle (men_moved P m) s man here) [
  | inl rook ↦ inr (inl rook)
  | inr other ↦ elim (come_moved P m s man other)
      [ inl came ↦ inl came | inr stayed ↦ inr (inr stayed) ]
]

-- ---- men stand on the board alone

with_on_board : (p : Placement) (s : Place) (man : Option Man) → AreOnBoard p → IsOnBoard s
    → AreOnBoard (with_man p s man)
with_on_board p s man men on t found here = elim (cases_place t s) [
  | inl same ↦ subst IsOnBoard (sym same) on
  | inr apart ↦ men t found (sym (man_at-other p s t man apart) ∙ here)
]

without_on_board : (p : Placement) (s : Place) → AreOnBoard p → AreOnBoard (with_man p s None)
without_on_board p s men t found here = elim (cases_place t s) [
  | inl same ↦ absurd (some_not_none _ found (ap (man_at (with_man p s None)) same
      ∙ man_at-same p s None) here)
  | inr apart ↦ men t found (sym (man_at-other p s t None apart) ∙ here)
]

rook_on_board : (side : Side) (wing : Wing) → IsOnBoard (rook_to side wing)
rook_on_board White KingSide =
    record {
      file_low = omega arith;
      file_high = omega arith;
      rank_low = omega arith;
      rank_high =
          omega arith;
    }
rook_on_board White QueenSide =
    record {
      file_low = omega arith;
      file_high = omega arith;
      rank_low = omega arith;
      rank_high =
          omega arith;
    }
rook_on_board Black KingSide =
    record {
      file_low = omega arith;
      file_high = omega arith;
      rank_low = omega arith;
      rank_high =
          omega arith;
    }
rook_on_board Black QueenSide =
    record {
      file_low = omega arith;
      file_high = omega arith;
      rank_low = omega arith;
      rank_high =
          omega arith;
    }

castled_on_board : (side : Side) (castle : Option Wing) (p : Placement) → AreOnBoard p
    → AreOnBoard (with_rook side castle p)
castled_on_board side None p men = men
castled_on_board side (Some wing) p men =
    with_on_board (with_man p (rook_from side wing) None) (rook_to side wing) (Some (rook_of side))
    (without_on_board p (rook_from side wing) men)
    (rook_on_board side wing)

pub after_on_board : (P : State) (m : Move) → AreOnBoard P.men → IsOnBoard m.to
    → AreOnBoard (men_after P m)
after_on_board P m men to =
    let cleared = with_man P.men (capture_square P m) None in
    castled_on_board P.turn m.castle (men_moved P m)
    (with_on_board (with_man cleared m.from None) m.to (arriving P m.promote m.from)
    (without_on_board cleared m.from (without_on_board P.men (capture_square P m) men)) to)
