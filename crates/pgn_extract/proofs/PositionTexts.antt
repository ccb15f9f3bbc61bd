-- The men of a position and the sign of its check have one text each, and each position has them.
use Rattle.std.proofs.Common.{◌≡◌, ℕ, Bool, true, false, List, [], ◌∷◌, inl, inr, refl, sym, ap}
use Rattle.std.proofs.Common.{◌∙◌}
use Rattle.std.specs.Prelude.{◌↔◌, IsTrue, codes}
use Rattle.chess.specs.Public.Fen.{IsFen, parted_at}
use Rattle.chess.specs.Public.Moves.{HasMove}
use Rattle.chess.specs.Public.Placements.{AreOnBoard}
use Rattle.chess.specs.Public.Positions.{State, IsCheck}
use Rattle.chess.specs.Public.San.{IsCheckSign}
use Rattle.chess.specs.Public.San.IsCheckSign.{mate, check, quiet}
use Rattle.chess.specs.Shared.Runs.{run_of, after_run}
use Rattle.chess.proofs.FenOneText.{one_fen, some_fen}
use Rattle.chess.proofs.FieldFacts.{parted_after, parted_by_run}
use Rattle.chess.proofs.LegalSettled.{settled_check}
use Rattle.chess.proofs.MateSettled.{settled_mate, settled_stalemate}
use Rattle.pgn_extract.specs.Private.PositionSigns.{sign_text}
use Rattle.pgn_extract.specs.Public.PositionCells.{IsMenText, IsCheckText}

-- The men.

pub first_alike : {x y : List ℕ} {xs ys : List (List ℕ)} → x ∷ xs ≡ y ∷ ys → x ≡ y
first_alike e = cc

pub one_men_text : (P : State) (x y : List ℕ) → IsMenText P x → IsMenText P y → x ≡ y
one_men_text P x y (fen, more, is, parts) (other, rest, also, split) =
    first_alike (sym parts ∙ ap (parted_at 32) (one_fen P fen other is also) ∙ split)

pub some_men_text : (P : State) → (x : List ℕ) × IsMenText P x
some_men_text P =
    let fen = some_fen P in (
      run_of 32 fen.0,
      (fen.0, parted_after 32 (after_run 32 fen.0), fen.1, parted_by_run 32 fen.0),
    )

pub men_of_run : (P : State) (fen text men : List ℕ) → IsFen P fen → text ≡ fen
    → men ≡ run_of 32 text → IsMenText P men
men_of_run P fen text men is same run = (
  fen,
  parted_after 32 (after_run 32 fen),
  is,
  parted_by_run 32 fen
      ∙ ap (λ first. first ∷ parted_after 32 (after_run 32 fen)) (sym (run ∙ ap (run_of 32) same)),
)

-- The sign.

pub sign_is : (P : State) (is_check has_move : Bool) → (IsTrue is_check ↔ IsCheck P.men P.turn)
    → (IsTrue has_move ↔ HasMove P) → IsCheckText P (sign_text is_check has_move)
sign_is P true true is has = inr (
  (λ still. still.0 (is.0 refl)),
  check (is.0 refl) (λ mated. mated.1 (has.0 refl)),
)
sign_is P false true is has = inr (
  (λ still. still.1 (has.0 refl)),
  quiet (λ checked. let no : false ≡ true = is.1 checked in absurd (cc)),
)
sign_is P true false is has = inr (
  (λ still. still.0 (is.0 refl)),
  mate (is.0 refl, λ moves. let no : false ≡ true = has.1 moves in absurd (cc)),
)
sign_is P false false is has = inl (
  (
    (λ checked. let no : false ≡ true = is.1 checked in absurd (cc)),
    λ moves. let no : false ≡ true = has.1 moves in absurd (cc),
  ),
  refl,
)

one_sign : (P : State) (x y : List ℕ) → IsCheckSign P x → IsCheckSign P y → x ≡ y
one_sign P _ _ (mate mated) (check also other) = absurd (other mated)
one_sign P _ _ (mate mated) (quiet calm) = absurd (calm mated.0)
one_sign P _ _ (check in_check other) (mate mated) = absurd (other mated)
one_sign P _ _ (check in_check other) (quiet calm) = absurd (calm in_check)
one_sign P _ _ (quiet calm) (mate mated) = absurd (calm mated.0)
one_sign P _ _ (quiet calm) (check in_check other) = absurd (calm in_check)
one_sign P _ _ _ _ = refl

some_sign : (P : State) → AreOnBoard P.men → (x : List ℕ) × IsCheckSign P x
some_sign P on_board = elim (settled_check P.men P.turn on_board) [
  | inr calm ↦ ([], quiet calm)
  | inl in_check ↦ elim (settled_mate P on_board) [
    | inl mated ↦ (35 ∷ [], mate mated)
    | inr other ↦ (43 ∷ [], check in_check other)
  ]
]

pub one_check_text : (P : State) (x y : List ℕ) → IsCheckText P x → IsCheckText P y → x ≡ y
one_check_text P x y (inl (still, is)) (inl (also, too)) = is ∙ sym too
one_check_text P x y (inl (still, is)) (inr (other, sign)) = absurd (other still)
one_check_text P x y (inr (other, sign)) (inl (still, is)) = absurd (other still)
one_check_text P x y (inr (other, sign)) (inr (also, too)) = one_sign P x y sign too

pub some_check_text : (P : State) → AreOnBoard P.men → (x : List ℕ) × IsCheckText P x
some_check_text P on_board = elim (settled_stalemate P on_board) [
  | inl still ↦ (codes "=", inl (still, refl))
  | inr other ↦ let sign = some_sign P on_board in (sign.0, inr (other, sign.1))
]
