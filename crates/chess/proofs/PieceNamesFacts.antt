-- The text of a piece's move names that move and no other.
use Rattle.std.specs.Prelude.{if◌then◌else◌}
use Rattle.chess.proofs.Common.{◌≡◌, ◌⊎◌, ℕ, Bool, true, false, inl, inr, ap, refl, sym, subst, ◌∙◌}
use Rattle.chess.proofs.Common.{Option, Some, None, IsTrue, List, [], ◌∷◌, ◌++◌, list_all}
use Rattle.chess.proofs.Common.{append_assoc, IsOnBoard, man_at, State, IsLegal, kind_letter}
use Rattle.chess.proofs.Common.{square_text, is_check_sign, is_sign, Said, Spells, Agrees}
use Rattle.chess.proofs.Common.{IsOnlyNamed, IsRival, IsPieceText, is_capture, capture_text}
use Rattle.chess.proofs.Common.{file_text, rank_text, IsMoveSaid, Man, Kind, Pawn, Move}
use Rattle.chess.proofs.PlaceFacts.{cases_place, same_kind}
use Rattle.chess.proofs.GoesFacts.{goes_promote}
use Rattle.chess.proofs.NamedFacts.{said_man}
use Rattle.chess.proofs.OriginFacts.{IsSaid, reports, said_on_board}
use Rattle.chess.proofs.SaidNamesFacts.{said_named}

-- ---- x before the target

abbrev pub sign_text : Bool → List ℕ
sign_text capture = if capture then 120 ∷ [] else []

sign_is : (capture : Bool) → (sign_text capture ≡ [])
    ⊎ ((b : ℕ) × IsTrue (is_sign b) × (sign_text capture ≡ b ∷ []))
sign_is true = inr (120, refl, refl)
sign_is false = inl refl

-- ---- what the text says, and its spelling

abbrev pub piece_said : Move → Kind → Option ℕ → Option ℕ → Said
piece_said m piece file rank =
    record { letter = Some piece; file = file; rank = rank; target = m.to; promote = None }

piece_spelled : (P : State) (m : Move) (piece : Kind) (file rank : Option ℕ) (mark : List ℕ)
    → IsOnBoard m.from → IsOnBoard m.to
    → IsSaid P m file rank → list_all is_check_sign mark ≡ true
    → Spells ((kind_letter piece
    ∷ ((file_text file ++ rank_text rank) ++ (capture_text P m ++ square_text m.to)))
    ++ mark) (piece_said m piece file rank)
piece_spelled P m piece file rank mark on there own marks = record {
  file = (said_on_board P m file rank own on).0;
  rank = (said_on_board P m file rank own on).1;
  target = there;
  promote = tt;
  sign = capture_text P m;
  sign_is = sign_is (is_capture P m);
  equals = true;
  marks = mark;
  marks_are = marks;
  text = simp (append_assoc);
}

-- a rival that agrees with what is said has the file and the rank that are given
piece_only : (P : State) (m n : Move) (piece : Kind) (file rank : Option ℕ) → IsSaid P m file rank
    → IsMoveSaid P (piece_said m piece file rank) m
    → IsMoveSaid P (piece_said m piece file rank) n → n.from ≡ m.from
piece_only P m n piece file rank own says others = elim (cases_place n.from m.from) [
  | inl same ↦ same
  | inr other ↦
      let said = piece_said m piece file rank in
      let rival : IsRival P m n.from = record {
        other = other;
        alike = said_man P said n others ∙ sym (said_man P said m says);
        goes = (
          n.promote,
          n.castle,
          rw (← others.1.target) others.0,
        );
      } in absurd (own.apart n.from rival others.1.file others.1.rank)
]

-- only a pawn becomes anything
plain_piece : (P : State) (m : Move) (man : Man) → IsLegal P m → man_at P.men m.from ≡ Some man
    → (man.kind ≡ Pawn → ⊥) → m.promote ≡ None
plain_piece P m man legal here no_pawn =
    let rules = legal.pseudo_legal in
    elim (goes_promote P m rules.man.kind rules.goes) [
      | inl none ↦ none
      | inr pawn ↦ absurd (no_pawn (same_kind man rules.man (sym here ∙ rules.here) ∙ pawn.0))
    ]

pub piece_named : (P : State) (m : Move) (man : Man) (body mark : List ℕ) → IsLegal P m
    → m.castle ≡ None → man_at P.men m.from ≡ Some man
    → (man.kind ≡ Pawn → ⊥) → IsPieceText P m man.kind body → list_all is_check_sign mark ≡ true
    → IsOnlyNamed P (body ++ mark) m
piece_named P m man body mark legal castle here no_pawn text marks =
    let own = reports P m text.0 text.1 in
    let said = piece_said m man.kind own.0 own.1 in
    let agrees : Agrees P said m = record {
      not_castling = castle;
      man = man;
      here = here;
      kind = refl;
      target = refl;
      file = own.2.file;
      rank = own.2.rank;
      promote = plain_piece P m man legal here no_pawn;
      stays = λ pawn none. absurd (no_pawn pawn);
    } in
    let spelled =
    piece_spelled P m man.kind own.0 own.1 mark legal.pseudo_legal.from legal.pseudo_legal.to
    own.2 marks in
    let whole : body ≡ kind_letter man.kind
    ∷ ((file_text own.0 ++ rank_text own.1) ++ (capture_text P m ++ square_text m.to)) =
    text.2 ∙ ap (λ origin. kind_letter man.kind
    ∷ (origin ++ (capture_text P m ++ square_text m.to))) own.3 in
    said_named P m (body ++ mark) said legal
    (subst (λ z. Spells (z ++ mark) said) (sym whole) spelled) agrees
    (λ n named. piece_only P m n man.kind own.0 own.1 own.2 (legal, agrees) named)
