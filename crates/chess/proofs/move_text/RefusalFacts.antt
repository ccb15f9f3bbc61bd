-- Why a text names no legal move; and the move from a square that it names.
use Rattle.chess.proofs.Common.{◌≡◌, ◌≢◌, ℕ, inl, inr, refl, ap, sym, subst, ◌∙◌, Option, Some}
use Rattle.chess.proofs.Common.{None, List, Place, IsOnBoard, AreOnBoard, State, IsCheck, Goes}
use Rattle.chess.proofs.Common.{IsPseudoLegal, IsLegal, IsUnbarred, Promotes, men_after, Said}
use Rattle.chess.proofs.Common.{IsNamed, kind_said, IsRefusal, IsFrom, CanGoAs, becoming}
use Rattle.chess.proofs.Common.{IsCandidate, CanGoSaid, IsMoveSaid, IsCastlingOn, man_said}
use Rattle.chess.proofs.Common.{move_from, castling_on, Places, is_in, no_places, HoldsExactly}
use Rattle.chess.proofs.Common.{Kind, King, Pawn, Wing, Move, NoMoveText, CastlingAttacked}
use Rattle.chess.proofs.Common.{NoCastling, WrongPromotion, NoneCan, LeavesKingAttacked}
use Rattle.chess.specs.Private.RefusalWords.{IsCastlingRefusal, IsSaidRefusal, IsFitting}
use Rattle.chess.specs.Private.RefusalWords.{NoCandidates}
use Rattle.chess.specs.declared.move_text.refusal.Refusal.{Refusal}
use Rattle.chess.proofs.AfterFacts.{after_on_board}
use Rattle.chess.proofs.LegalSettled.{settled_check}
use Rattle.chess.proofs.LoopFacts.{not_in}
use Rattle.chess.proofs.NamedFacts.{AreCastling, AreSaid, agreed_candidate, agrees_candidate}
use Rattle.chess.proofs.NamedFacts.{candidate_said, said_move, castling_is, castling_only, no_wing}
use Rattle.chess.proofs.NamedFacts.{by_castling, by_said}
use Rattle.chess.proofs.PlaceFacts.{same_kind, true_not_false}

-- ---- why none is legal

-- a text that castles
pub castling_refused : (P : State) (x : List ℕ) (wing : Wing) (read : Option Wing) (found : Refusal)
    → AreCastling x read → read ≡ Some wing
    → IsCastlingRefusal P wing found → IsRefusal P x found
castling_refused P x wing read CastlingAttacked texts is rules = (
  (wing, (texts wing).1 is),
  (castling_on P.turn wing, (rules, inl (wing, (texts wing).1 is, refl))),
)
castling_refused P x wing read NoCastling texts is fails = (
  (wing, (texts wing).1 is),
  (λ m meant.
      fails (subst (IsPseudoLegal P)
      (castling_is P wing m meant.0 (by_castling P x wing read m texts is meant.1)) meant.0)),
)
castling_refused P x wing read _ texts is none = absurd none

-- a text that says nothing
pub nothing_said : (P : State) (x : List ℕ) (read : Option Wing) (said : Option Said)
    → AreCastling x read → read ≡ None → AreSaid x said → said ≡ None
    → IsRefusal P x NoMoveText
nothing_said P x read said texts is spelled none = (
  (λ castles. no_wing x read texts is castles.0 castles.1),
  (λ s spells. let e : None ≡ Some s = sym none ∙ (spelled s).0 spells in cc),
)

-- a move of a man that is a candidate, which no text names legally, leaves its king attacked
unsafe : (P : State) (m : Move) → AreOnBoard P.men → IsPseudoLegal P m → m.castle ≡ None
    → (IsLegal P m → ⊥) → IsCheck (men_after P m) P.turn
unsafe P m on_board rules plain fails =
    elim (settled_check (men_after P m) P.turn (after_on_board P m on_board rules.to)) [
      | inl check ↦ check
      | inr safe ↦ absurd
          (fails (record {
            pseudo_legal = rules;
            safe = safe;
            unbarred =
                subst (IsUnbarred P) (sym plain) tt;
          }))
    ]

-- where no man is a candidate none goes there by its own rules, and where one is it does
none_goes : (P : State) (said : Said) → NoCandidates P said → CanGoAs P said → ⊥
none_goes P said candidates goes =
    candidates goes.0.from goes.1.from (agreed_candidate P said goes.0 goes.1 goes.2)

some_goes : (P : State) (said : Said) (s : Place) → IsCandidate P said s → CanGoAs P said
some_goes P said s candidates =
    (move_from said s, candidates.rules, agrees_candidate P said s candidates)

-- a text that says something else
pub said_refused : (P : State) (x : List ℕ) (read : Option Wing) (said : Option Said) (own : Said)
    (found : Refusal) → AreOnBoard P.men
    → AreCastling x read → read ≡ None → AreSaid x said → said ≡ Some own
    → ((m : Move) → IsNamed P x m → ⊥) → IsSaidRefusal P own found → IsRefusal P x found
said_refused P x read said own WrongPromotion on_board texts is spelled some none (
  no_candidates,
  other,
) = (
  own,
  (spelled own).1 some,
  none_goes P own no_candidates,
  (other.0, some_goes P (becoming other.0 own) other.1 other.2),
)
said_refused P x read said own NoneCan on_board texts is spelled some none candidates = (
  own,
  (spelled own).1 some,
  (λ promote. none_goes P (becoming promote own) (candidates promote)),
)
said_refused P x read said own LeavesKingAttacked on_board texts is spelled some none (
  s,
  candidates,
) = (
  own,
  (spelled own).1 some,
  (
    move_from own s,
    (candidates.rules, inr (own, (spelled own).1 some, agrees_candidate P own s candidates)),
  ),
  (λ m meant.
      let agrees = by_said P x read said own m texts is spelled some meant.1 in
      unsafe P m on_board meant.0 agrees.not_castling (λ legal.
      none m (record { legal = legal; by = meant.1 }))),
)
said_refused P x read said own _ on_board texts is spelled some none fails = absurd fails

-- what goes with one promotion goes with one that fits
goes_fitting : (P : State) (said : Said) (s : Place) (fit : Option Kind) (kind : Kind)
    → (kind ≡ Pawn → Promotes P.turn said.target fit) × (kind ≢ Pawn → fit ≡ None)
    → Goes P (move_from said s) kind → Goes P (move_from (becoming fit said) s) kind
goes_fitting P said s fit Pawn fits goes = (goes.0, goes.1, fits.0 refl)
goes_fitting P said s fit King fits goes = (fits.1 (λ e. cc), goes.1)
goes_fitting P said s fit _ fits goes = (goes.0, fits.1 (λ e. cc), goes.2)

-- a man that is a candidate with some promotion is a candidate with one that fits
pub fitting_candidate : (P : State) (said : Said) (fit promote : Option Kind) (s : Place)
    → IsFitting P said fit → IsCandidate P (becoming promote said) s
    → IsCandidate P (becoming fit said) s
fitting_candidate P said fit promote s fits candidates =
    let other = becoming promote said in
    let goes : Goes P (move_from other s) (kind_said said.letter) =
    subst (Goes P (move_from other s))
    (same_kind candidates.rules.man (man_said P other) (sym candidates.rules.here
    ∙ candidates.here)) candidates.rules.goes in
    record {
      here = candidates.here;
      asked = candidates.asked;
      stays = candidates.stays;
      rules = record {
        from = candidates.rules.from;
        to = candidates.rules.to;
        man = man_said P said;
        here = candidates.here;
        own = refl;
        free = candidates.rules.free;
        goes = goes_fitting P other s fit (kind_said said.letter) fits goes;
      };
    }

-- no man is a candidate where the set of those that are is empty; else some man is
pub none_fitting : (P : State) (said : Said) (fit : Option Kind) → IsFitting P said fit
    → NoCandidates P (becoming fit said)
    → (promote : Option Kind) → NoCandidates P (becoming promote said)
none_fitting P said fit fits none promote s on candidates =
    none s on (fitting_candidate P said fit promote s fits candidates)

pub no_candidates : (P : State) (said : Said) (candidates : Places)
    → HoldsExactly (IsCandidate P said) candidates → candidates ≡ no_places → (s : Place)
    → IsOnBoard s → IsCandidate P said s → ⊥
no_candidates P said candidates are none s on here =
    true_not_false (is_in candidates s) ((are s).1 (on, here)) (not_in candidates s none)

-- ---- the move from a square

pub same_from : (fact own : Move → Type 0) (s : Place) (found : Option Move)
    → ((m : Move) → fact m → own m) × ((m : Move) → own m → fact m)
    → IsFrom fact s found → IsFrom own s found
same_from fact own s None same none = λ m here holds. none m here (same.1 m holds)
same_from fact own s (Some m) same (here, holds, only) =
    (here, same.0 m holds, (λ n there other. only n there (same.1 n other)))

pub castled_here : (P : State) (wing : Wing) (s : Place) → (castling_on P.turn wing).from ≡ s
    → IsLegal P (castling_on P.turn wing)
    → IsFrom (IsCastlingOn P wing) s (Some (castling_on P.turn wing))
castled_here P wing s here legal =
    (here, (legal, refl), (λ n there castles. castling_only P wing n castles))

pub said_here : (P : State) (said : Said) (s : Place) → IsCandidate P said s → CanGoSaid P said s
    → IsFrom (IsMoveSaid P said) s (Some (move_from said s))
said_here P said s candidates legal = (
  refl,
  candidate_said P said s candidates legal,
  (λ n there holds. sym (said_move P said n holds.1) ∙ ap (move_from said) there),
)
