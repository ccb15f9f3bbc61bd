-- The text of a pawn's move names that move and no other.
use Rattle.std.specs.Prelude.{if◌then◌else◌}
use Rattle.chess.proofs.Common.{◌≡◌, ℕ, Bool, true, false, inl, inr, ap, refl, sym, subst, ◌∙◌}
use Rattle.chess.proofs.Common.{Option, Some, None, IfSome, List, [], ◌∷◌, ◌++◌, list_all}
use Rattle.chess.proofs.Common.{IsOnBoard, man_at, State, pawn_of, IsSound, IsLegal, IsPromotion}
use Rattle.chess.proofs.Common.{IsPromotionKind, IsPawnMove, Goes, file_letter, square_text}
use Rattle.chess.proofs.Common.{is_check_sign, Said, Spells, Agrees, IsOnlyNamed, is_capture}
use Rattle.chess.proofs.Common.{pawn_text, promotion_text, IsMoveSaid, Man, Kind, Pawn, Move}
use Rattle.chess.proofs.PlaceFacts.{same_side, same_kind, man_of}
use Rattle.chess.proofs.GoesFacts.{goes_promote}
use Rattle.chess.proofs.NamedFacts.{said_man}
use Rattle.chess.proofs.PawnTextFacts.{capture_leaves, step_stays, same_capture, same_step}
use Rattle.chess.proofs.SaidNamesFacts.{said_named}

abbrev pub pawn_file : Bool → Move → Option ℕ
pawn_file true m = Some m.from.file
pawn_file false m = None

abbrev pub pawn_said : Bool → Move → Said
pawn_said capture m =
    record {
      letter = None;
      file = pawn_file capture m;
      rank = None;
      target = m.to;
      promote =
          m.promote;
    }

-- the text of a pawn's move, as a capture or not
abbrev pub pawn_body : Bool → Move → List ℕ
pawn_body capture m = (if capture then file_letter m.from.file ∷ 120 ∷ [] else [])
    ++ (square_text m.to ++ promotion_text true m.promote)

pawn_spelled : (capture : Bool) (m : Move) (mark : List ℕ) → IsOnBoard m.from → IsOnBoard m.to
    → IfSome m.promote IsPromotionKind
    → list_all is_check_sign mark ≡ true
    → Spells (pawn_body capture m ++ mark) (pawn_said capture m)
pawn_spelled true m mark on there becomes marks = record {
  file = (on.file_low, on.file_high);
  rank = tt;
  target = there;
  promote = becomes;
  sign = 120 ∷ [];
  sign_is = inr (120, refl, refl);
  equals = true;
  marks = mark;
  marks_are = marks;
  text = refl;
}
pawn_spelled false m mark on there becomes marks = record {
  file = tt;
  rank = tt;
  target = there;
  promote = becomes;
  sign = [];
  sign_is = inl refl;
  equals = true;
  marks = mark;
  marks_are = marks;
  text = refl;
}

becomes_kind : (o : Option Kind) → IsPromotion o → IfSome o IsPromotionKind
becomes_kind None is = tt
becomes_kind (Some found) is = is

promotes_kind : (P : State) (m : Move) → IsLegal P m → IfSome m.promote IsPromotionKind
promotes_kind P m legal =
    elim (goes_promote P m legal.pseudo_legal.man.kind legal.pseudo_legal.goes) [
      | inl none ↦ subst (λ p. IfSome p IsPromotionKind) (sym none) tt
      | inr pawn ↦ becomes_kind m.promote pawn.1
    ]

pawn_goes : (P : State) (m : Move) (man : Man) → IsLegal P m → man_at P.men m.from ≡ Some man
    → man.kind ≡ Pawn → IsPawnMove P m.from m.to
pawn_goes P m man legal here pawn =
    let rules = legal.pseudo_legal in
    let own : rules.man.kind ≡ Pawn = same_kind rules.man man (sym rules.here ∙ here) ∙ pawn in
    (subst (Goes P m) own rules.goes).1

pawn_only : (P : State) (capture : Bool) (m n : Move) → is_capture P m ≡ capture
    → IsMoveSaid P (pawn_said capture m) m
    → IsMoveSaid P (pawn_said capture m) n → n.from ≡ m.from
pawn_only P true m n is says others =
    let goes = pawn_goes P m _ says.0 (said_man P (pawn_said true m) m says) refl in
    let go = pawn_goes P n _ others.0 (said_man P (pawn_said true m) n others) refl in
    same_capture P m n goes go others.1.target others.1.file (capture_leaves P m goes is)
pawn_only P false m n is says others =
    let here = said_man P (pawn_said false m) m says in
    let there = said_man P (pawn_said false m) n others in
    same_step P m n _ here there (pawn_goes P m _ says.0 here refl)
    (pawn_goes P n _ others.0 there refl) others.1.target (says.1.stays says.1.kind refl)
    (others.1.stays others.1.kind refl)

-- the file that is given is the pawn's, and where none is given the pawn stays on its file
gives_file : (capture : Bool) (m : Move) → IfSome (pawn_file capture m) (λ n. m.from.file ≡ n)
gives_file true m = refl
gives_file false m = tt

gives_none : (capture : Bool) (m : Move) → pawn_file capture m ≡ None → capture ≡ false
gives_none true m e = absurd (cc)
gives_none false m e = refl

pub pawn_named : (P : State) (m : Move) (man : Man) (mark : List ℕ) → IsSound P → IsLegal P m
    → m.castle ≡ None
    → man_at P.men m.from ≡ Some man → man.kind ≡ Pawn → list_all is_check_sign mark ≡ true
    → IsOnlyNamed P (pawn_text P m ++ mark) m
pawn_named P m man mark sound legal castle here pawn marks =
    let capture = is_capture P m in
    let rules = legal.pseudo_legal in
    let own : man_at P.men m.from ≡ Some (pawn_of P.turn) =
    here ∙ ap Some (man_of man (pawn_of P.turn) (same_side man rules.man (sym here ∙ rules.here)
    ∙ rules.own) pawn) in
    let goes = pawn_goes P m man legal here pawn in
    let agrees : Agrees P (pawn_said capture m) m = record {
      not_castling = castle;
      man = man;
      here = here;
      kind = pawn;
      target = refl;
      file = gives_file capture m;
      rank = tt;
      promote = refl;
      stays = λ of_pawn none. step_stays P m (record { sound = sound; rules = rules }) own goes
          (gives_none capture m none);
    } in
    said_named P m (pawn_text P m ++ mark) (pawn_said capture m) legal
    (pawn_spelled capture m mark rules.from rules.to (promotes_kind P m legal) marks) agrees
    (λ n named. pawn_only P capture m n refl (legal, agrees) named)
