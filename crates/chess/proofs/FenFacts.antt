-- What is right and what is wrong with a position that a text spells.
use Rattle.std.proofs.lemmas.Bool.{both_ways}
use Rattle.chess.proofs.Common.{◌≡◌, ◌↔◌, ℕ, List, Bool, true, false, inl, inr, sym, refl, subst}
use Rattle.chess.proofs.Common.{◌∙◌, Option, Some, None, IfSome, IsTrue, is_some, Place, Placement}
use Rattle.chess.proofs.Common.{AreOnBoard, opposite, IsAttacked, State, king_of, IsOnlyKing}
use Rattle.chess.proofs.Common.{FitsEnPassant, IsKept, SpellsPosition, HasWrongKings, HasWrongPawns}
use Rattle.chess.proofs.Common.{HasWrongCheck, IsEdgePawn, Places, is_in, IsSquaresOf, IsTakenFirst}
use Rattle.chess.proofs.Common.{Side, White, Black}
use Rattle.chess.proofs.PlaceFacts.{cases_place, opposite-opposite, true_not_false}
use Rattle.chess.proofs.LoopFacts.{not_in, still_left, taken_none}

-- the square of each side's king
pub record HasKings (P : State) (white black : Place) : Type 0 where
  pub white_only : IsOnlyKing P.men White white
  pub black_only : IsOnlyKing P.men Black black

each_king : (P : State) (white black : Place) → HasKings P white black → (side : Side)
    → (s : Place) × IsOnlyKing P.men side s
each_king P white black kings White = (white, kings.white_only)
each_king P white black kings Black = (black, kings.black_only)

pub right_kings : (P : State) (white black : Place) → HasKings P white black → HasWrongKings P → ⊥
right_kings P white black kings wrong = let king = each_king P white black kings wrong.0 in
    wrong.1 king.0 king.1

pub wrong_pawns : (P : State) (b : Bool) → IsTrue b ↔ ((s : Place) × IsEdgePawn P.men s) → b ≡ true
    → HasWrongPawns P
wrong_pawns P b test found = let s = test.0 found in (s.1.0.0, s.0, s.1.0.1, s.1.1)

pub right_pawns : (P : State) (b : Bool) → IsTrue b ↔ ((s : Place) × IsEdgePawn P.men s) → b ≡ false
    → HasWrongPawns P → ⊥
right_pawns P b test none wrong = both_ways b none (test.1 (wrong.1, ((wrong.0, wrong.2), wrong.3)))

-- the king of the side not to move
pub enemy_white : (P : State) (white black king : Place) → HasKings P white black → P.turn ≡ White
    → king ≡ black → IsOnlyKing P.men (opposite P.turn) king
enemy_white P white black king kings turn e =
    rw turn (subst (λ (s : Place). IsOnlyKing P.men Black s) (sym e) kings.black_only)

pub enemy_black : (P : State) (white black king : Place) → HasKings P white black → P.turn ≡ Black
    → king ≡ white → IsOnlyKing P.men (opposite P.turn) king
enemy_black P white black king kings turn e =
    rw turn (subst (λ (s : Place). IsOnlyKing P.men White s) (sym e) kings.white_only)

pub wrong_check : (P : State) (king : Place) (b : Bool) → IsOnlyKing P.men (opposite P.turn) king
    → IsTrue b ↔ IsAttacked P.men P.turn king → b ≡ true
    → HasWrongCheck P
wrong_check P king b only test attacked = (
  king,
  only.here,
  rw (opposite-opposite P.turn) (test.0 attacked),
)

pub right_check : (P : State) (king : Place) (b : Bool) → IsOnlyKing P.men (opposite P.turn) king
    → IsTrue b ↔ IsAttacked P.men P.turn king → b ≡ false
    → HasWrongCheck P → ⊥
right_check P king b only test quiet wrong =
    both_ways b quiet (test.1
    (subst (IsAttacked P.men P.turn) (only.only wrong.0 wrong.1)
    (subst (λ side. IsAttacked P.men side wrong.0) (opposite-opposite P.turn) wrong.2)))

if_some : (o : Option Place) (fact : Place → Type 0) → ((s : Place) → o ≡ Some s → fact s)
    → IfSome o fact
if_some None fact each = tt
if_some (Some s) fact each = each s refl

-- a position that is spelled, and with which nothing is wrong, keeps all facts
pub spelled_kept : (x : List ℕ) (P : State) (white black : Place) → SpellsPosition x P
    → HasKings P white black → (HasWrongPawns P → ⊥) → (HasWrongCheck P → ⊥)
    → IsKept P white black
spelled_kept x P white black spelled kings pawns quiet = record {
  sound = record {
    on_board = spelled.men.on_board;
    king = each_king P white black kings;
    pawns = λ side s here. (
      (λ e. pawns (side, s, here, inl e)),
      (λ e. pawns (side, s, here, inr e)),
    );
    quiet = quiet;
    rights = λ side wing held. ((spelled.rights side wing).0 held).1;
    en_passant =
        if_some P.en_passant (FitsEnPassant P.men P.turn) (λ s here.
        ((spelled.en_passant s).0 here).1);
  };
  white = kings.white_only;
  black = kings.black_only;
}

-- ---- the only king, by the squares on which the side's kings stand

pub no_king : (p : Placement) (side : Side) (kings rest : Places) (o : Option Place) → AreOnBoard p
    → IsSquaresOf p (king_of side) kings
    → IsTakenFirst kings rest o → o ≡ None → (s : Place) → IsOnlyKing p side s → ⊥
no_king p side kings rest o men are capture_square none s king =
    true_not_false (is_in kings s) ((are s).1 (men s (king_of side) king.here, king.here))
    (not_in kings s (taken_none kings rest o capture_square none))

none_found : (o : Option Place) (b : Bool) → b ≡ is_some o → b ≡ false → o ≡ None
none_found None b e f = refl
none_found (Some s) b e f = let clash : true ≡ false = sym e ∙ f in absurd (cc)

pub one_king : (p : Placement) (side : Side) (kings rest more : Places) (t : Place)
    (o : Option Place) (b : Bool) → AreOnBoard p
    → IsSquaresOf p (king_of side) kings → IsTakenFirst kings rest (Some t)
    → IsTakenFirst rest more o → b ≡ is_some o → b ≡ false
    → IsOnlyKing p side t
one_king p side kings rest more t o b men are capture_square next asked none = record {
  here = ((are t).0 capture_square.1).1;
  only = λ s here. elim (cases_place s t) [
    | inl same ↦ same
    | inr other ↦
        let left =
        still_left kings rest t s capture_square
        ((are s).1 (men s (king_of side) here, here)) other in
        absurd (true_not_false (is_in rest s) left
        (not_in rest s (taken_none rest more o next (none_found o b asked none))))
  ];
}
