-- The men that may make the move that a text says, whether or not their king is then attacked.
use Rattle.chess.proofs.Common.{◌≡◌, ◌⊎◌, ℕ, Bool, true, false, inl, inr, ap, refl, sym, subst, ◌∙◌}
use Rattle.chess.proofs.Common.{Option, Some, None, IfSome, is_some, cases_eq, Place, IsOnBoard}
use Rattle.chess.proofs.Common.{man_at, IsOccupiedBy, Reaches, State, IsSound, FitsEnPassant}
use Rattle.chess.proofs.Common.{IsPawnMove, IsPawnCapture, IsSingleStep, IsDoubleStep, IsKingMove}
use Rattle.chess.proofs.Common.{Promotes, Goes, IsMover, IsStepper, IsTaker, Said, HasRival}
use Rattle.chess.proofs.Common.{kind_said, IsMoveSaid, IsCandidate, CanGoSaid, man_said, move_from}
use Rattle.chess.proofs.Common.{Places, is_in, no_places, HoldsExactly, IsAttacker, IsTakenFirst}
use Rattle.chess.proofs.Common.{Kind, King, Pawn, Move}
use Rattle.chess.specs.Private.SanWords.{IsAsked, ChangesFile}
use Rattle.chess.proofs.PlaceFacts.{cases_place, true_not_false, same_side, same_kind}
use Rattle.chess.proofs.PlaceFacts.{some_not_none, not_opposite}
use Rattle.chess.proofs.LoopFacts.{not_in, still_left}
use Rattle.chess.proofs.move_text.SanTextFacts.{rival_on, rival_reaches}
use Rattle.chess.proofs.StepperFacts.{on_file, off_file, step_file, step_free}
use Rattle.chess.proofs.NamedFacts.{said_move, said_legal, said_on, said_candidate, candidate_said}

-- ---- the only man

-- where no man is a candidate no move is said
pub none_said : (P : State) (said : Said) (set : Places) → HoldsExactly (IsCandidate P said) set
    → set ≡ no_places → (m : Move) → IsMoveSaid P said m → ⊥
none_said P said set candidates none m named =
    true_not_false (is_in set m.from)
    ((candidates m.from).1 (said_on P said m named, said_candidate P said m named))
    (not_in set m.from none)

-- one man alone is a candidate
one_said : (P : State) (said : Said) (old new : Places) (from : Place)
    → HoldsExactly (IsCandidate P said) old → IsTakenFirst old new (Some from)
    → ((s : Place) × IsOnBoard s × (is_in new s ≡ true) → ⊥) → (m : Move) → IsMoveSaid P said m
    → m.from ≡ from
one_said P said old new from candidates capture_square alone m named =
    let on = said_on P said m named in elim (cases_place m.from from) [
      | inl same ↦ same
      | inr other ↦ absurd
          (alone (
            m.from,
            on,
            still_left old new from m.from capture_square
                ((candidates m.from).1 (on, said_candidate P said m named)) other,
          ))
    ]

pub not_said : (P : State) (said : Said) (old new : Places) (from : Place)
    → HoldsExactly (IsCandidate P said) old → IsTakenFirst old new (Some from)
    → ((s : Place) × IsOnBoard s × (is_in new s ≡ true) → ⊥) → (CanGoSaid P said from → ⊥)
    → (m : Move) → IsMoveSaid P said m → ⊥
not_said P said old new from candidates capture_square alone fails m named =
    fails (subst (CanGoSaid P said)
    (one_said P said old new from candidates capture_square alone m named)
    (said_legal P said m named))

pub the_said : (P : State) (said : Said) (old new : Places) (from : Place)
    → HoldsExactly (IsCandidate P said) old → IsTakenFirst old new (Some from)
    → ((s : Place) × IsOnBoard s × (is_in new s ≡ true) → ⊥) → CanGoSaid P said from
    → IsMoveSaid P said (move_from said from)
    × ((n : Move) → IsMoveSaid P said n → n ≡ move_from said from)
the_said P said old new from candidates capture_square alone legal = (
  candidate_said P said from ((candidates from).0 capture_square.1).1 legal,
  (λ n named. sym (said_move P said n named.1)
      ∙ ap (move_from said) (one_said P said old new from candidates capture_square alone n named)),
)

-- ---- pieces

-- no square is in the set of a fact that none has
pub none_hold : (fact : Place → Type 0) (set : Places) → set ≡ no_places
    → ((s : Place) → IsOnBoard s → fact s → ⊥) → HoldsExactly fact set
none_hold fact set none fails s = (
  (λ here. absurd (true_not_false (is_in set s) here (not_in set s none))),
  (λ holds. absurd (fails s holds.0 holds.1)),
)

-- the rules for the man that is spoken of
candidate_goes : (P : State) (said : Said) (s : Place) (candidates : IsCandidate P said s)
    → Goes P (move_from said s) (kind_said said.letter)
candidate_goes P said s candidates =
    subst (Goes P (move_from said s))
    (same_kind candidates.rules.man (man_said P said) (sym candidates.rules.here
    ∙ candidates.here)) candidates.rules.goes

piece_goes : (P : State) (m : Move) (other : Kind) → (other ≡ Pawn → ⊥) → m.castle ≡ None
    → Goes P m other
    → (m.promote ≡ None) × Reaches P.men P.turn other m.from m.to
piece_goes P m King piece plain goes = (goes.0, subst (λ o. IsKingMove P m o) plain goes.1)
piece_goes P m Pawn piece plain goes = absurd (piece refl)
piece_goes P m _ piece plain goes = (goes.1, goes.2)

goes_piece : (P : State) (said : Said) (s : Place) (other : Kind) → (other ≡ Pawn → ⊥)
    → said.promote ≡ None
    → Reaches P.men P.turn other s said.target → Goes P (move_from said s) other
goes_piece P said s King piece plain attacks = (plain, attacks)
goes_piece P said s Pawn piece plain attacks = absurd (piece refl)
goes_piece P said s _ piece plain attacks = (refl, plain, attacks)

pub candidate_pieces : (P : State) (said : Said) (among set : Places)
    → (kind_said said.letter ≡ Pawn → ⊥) → IsOnBoard said.target → said.promote ≡ None
    → (IsOccupiedBy P.men P.turn said.target → ⊥) → HoldsExactly (IsAsked said) among
    → HoldsExactly (IsAttacker P.men (man_said P said) said.target among) set
    → HoldsExactly (IsCandidate P said) set
candidate_pieces P said among set piece there plain free asked found s = (
  (λ here.
      let parts = (found s).0 here in (
        parts.0,
        record {
          here = parts.1.1;
          asked = ((asked s).0 parts.1.0).1;
          stays = λ pawn. absurd (piece pawn);
          rules = record {
            from = parts.0;
            to = there;
            man = man_said P said;
            here = parts.1.1;
            own = refl;
            free = free;
            goes = goes_piece P said s (kind_said said.letter) piece plain parts.1.2;
          };
        },
      )),
  (λ holds.
      (found s).1 (
        holds.0,
        (
          (asked s).1 (holds.0, holds.1.asked),
          holds.1.here,
          (piece_goes P (move_from said s) (kind_said said.letter) piece refl
              (candidate_goes P said s holds.1)).1,
        ),
      )),
)

-- a piece promotes to nothing, and takes none of its own side
pub no_piece : (P : State) (said : Said) (s : Place) → (kind_said said.letter ≡ Pawn → ⊥)
    → (said.promote ≡ None → ⊥) ⊎ IsOccupiedBy P.men P.turn said.target → IsCandidate P said s → ⊥
no_piece P said s piece (inl promotes) candidates =
    promotes (piece_goes P (move_from said s) (kind_said said.letter) piece refl
    (candidate_goes P said s candidates)).0
no_piece P said s piece (inr held) candidates = candidates.rules.free held

pub promotes_some : (promote : Option Kind) (b : Bool) → b ≡ is_some promote → b ≡ true
    → promote ≡ None → ⊥
promotes_some promote b e some none = let clash : true ≡ false = sym some ∙ e ∙ ap is_some none in
    cc

pub promotes_none : (promote : Option Kind) (b : Bool) → b ≡ is_some promote → b ≡ false
    → promote ≡ None
promotes_none None b e none = refl
promotes_none (Some other) b e none = let clash : true ≡ false = sym e ∙ none in absurd (cc)

-- ---- pawns

pub pawn_goes : (P : State) (said : Said) (s : Place) → kind_said said.letter ≡ Pawn
    → IsCandidate P said s
    → IsPawnMove P s said.target × Promotes P.turn said.target said.promote
pawn_goes P said s e candidates = let goes =
    subst (Goes P (move_from said s)) e (candidate_goes P said s candidates) in (goes.1, goes.2)

pawn_here : (P : State) (said : Said) (s : Place) → kind_said said.letter ≡ Pawn
    → IsCandidate P said s → IsMover P Pawn s
pawn_here P said s e candidates = candidates.here
    ∙ ap (λ (k : Kind). Some (record { side = P.turn; kind = k })) e

pawn_candidate : (P : State) (said : Said) (s : Place) → kind_said said.letter ≡ Pawn → IsOnBoard s
    → IsOnBoard said.target → IsMover P Pawn s
    → IsAsked said s → (said.file ≡ None → s.file ≡ said.target.file)
    → (IsOccupiedBy P.men P.turn said.target → ⊥)
    → IsPawnMove P s said.target → Promotes P.turn said.target said.promote → IsCandidate P said s
pawn_candidate P said s e on there pawn asked stays free goes promotes =
    let here : man_at P.men s ≡ Some (man_said P said) =
    pawn ∙ ap (λ (k : Kind). Some (record { side = P.turn; kind = k })) (sym e) in record {
      here = here;
      asked = asked;
      stays = λ k. stays;
      rules = record {
        from = on;
        to = there;
        man = man_said P said;
        here = here;
        own = refl;
        free = free;
        goes = subst (Goes P (move_from said s)) (sym e) (refl, goes, promotes);
      };
    }

-- a pawn that takes finds none of its own side there
taker_free : (P : State) (t s : Place) → IsSound P → IsPawnCapture P s t
    → IsOccupiedBy P.men P.turn t → ⊥
taker_free P t s sound capture held = elim capture.1 [
  | inl enemy ↦ not_opposite P.turn (sym held.2 ∙ same_side held.0 enemy.0 (sym held.1 ∙ enemy.1)
      ∙ enemy.2)
  | inr passes ↦
      let fits : FitsEnPassant P.men P.turn t =
      subst (λ o. IfSome o (FitsEnPassant P.men P.turn)) passes sound.en_passant in
      some_not_none (man_at P.men t) held.0 fits.empty held.1
]

-- the file that is said
other_file : (said : Said) (s : Place) → ChangesFile said → IsAsked said s
    → s.file ≡ said.target.file → ⊥
other_file said s (n, e, other) asked same =
    other (sym (subst (λ o. IfSome o (λ m. s.file ≡ m)) e asked.0) ∙ same)

no_file_said : (said : Said) (n : ℕ) → said.file ≡ Some n → said.file ≡ None → ⊥
no_file_said said n e none = let f : None ≡ Some n = sym none ∙ e in cc

own_file : (said : Said) (s : Place) (file : Option ℕ) → said.file ≡ file → (ChangesFile said → ⊥)
    → IfSome file (λ n. s.file ≡ n)
    → (file ≡ None → s.file ≡ said.target.file) → s.file ≡ said.target.file
own_file said s None e same asked stays = stays refl
own_file said s (Some n) e same asked stays = asked ∙ elim (cases_eq n said.target.file) [
  | inl f ↦ f
  | inr g ↦ absurd (same (n, e, g))
]

pub candidate_takers : (P : State) (said : Said) (among set : Places) → IsSound P
    → kind_said said.letter ≡ Pawn → IsOnBoard said.target
    → Promotes P.turn said.target said.promote → ChangesFile said
    → HoldsExactly (IsAsked said) among
    → HoldsExactly (λ s. (is_in among s ≡ true) × IsTaker P said.target s) set
    → HoldsExactly (IsCandidate P said) set
candidate_takers P said among set sound e there promotes changes asked found s = (
  (λ here.
      let parts = (found s).0 here in
      let given = ((asked s).0 parts.1.0).1 in (
        parts.0,
        pawn_candidate P said s e parts.0 there parts.1.1.0 given (λ none.
            absurd (no_file_said said changes.0 changes.1 none))
            (taker_free P said.target s sound parts.1.1.1) (inr (inr parts.1.1.1)) promotes,
      )),
  (λ holds.
      let candidates = holds.1 in (found s).1 (
        holds.0,
        (
          (asked s).1 (holds.0, candidates.asked),
          (
            pawn_here P said s e candidates,
            off_file P s said.target (other_file said s changes candidates.asked)
                (pawn_goes P said s e candidates).0,
          ),
        ),
      )),
)

as_move : (P : State) (s t : Place) → IsSingleStep P s t ⊎ IsDoubleStep P s t → IsPawnMove P s t
as_move P s t (inl single) = inl single
as_move P s t (inr double) = inr (inl double)

pub candidate_steppers : (P : State) (said : Said) (steppers among set : Places)
    → kind_said said.letter ≡ Pawn → IsOnBoard said.target
    → Promotes P.turn said.target said.promote → (ChangesFile said → ⊥)
    → HoldsExactly (IsStepper P said.target) steppers
    → HoldsExactly (IsAsked said) among
    → HoldsExactly (λ s. (is_in steppers s ≡ true) × (is_in among s ≡ true)) set
    → HoldsExactly (IsCandidate P said) set
candidate_steppers P said steppers among set e there promotes same stepping asked found s = (
  (λ here.
      let parts = (found s).0 here in
      let step = ((stepping s).0 parts.1.0).1 in
      let given = ((asked s).0 parts.1.1).1 in (
        parts.0,
        pawn_candidate P said s e parts.0 there step.0 given (λ none.
            step_file P s said.target step.1)
            (λ held.
            some_not_none (man_at P.men said.target) held.0 (step_free P s said.target step.1)
            held.1) (as_move P s said.target step.1) promotes,
      )),
  (λ holds.
      let candidates = holds.1 in
      let on_own = own_file said s said.file refl same candidates.asked.0 (candidates.stays e) in
      (found s).1 (
        holds.0,
        (
          (stepping s).1 (
            holds.0,
            (
              pawn_here P said s e candidates,
              on_file P s said.target on_own (pawn_goes P said s e candidates).0,
            ),
          ),
          (asked s).1 (holds.0, candidates.asked),
        ),
      )),
)

-- ---- rivals

-- where nothing is said of where a piece comes from, a man who is the only candidate has no rival
pub no_rival : (P : State) (said : Said) (old new : Places) (from : Place) → IsSound P
    → (kind_said said.letter ≡ Pawn → ⊥) → ((s : Place) → IsAsked said s)
    → HoldsExactly (IsCandidate P said) old → IsTakenFirst old new (Some from)
    → ((s : Place) × IsOnBoard s × (is_in new s ≡ true) → ⊥)
    → ¬ HasRival P (move_from said from) (λ s. Unit {0})
no_rival P said old new from sound piece asked candidates capture_square alone has =
    let s = has.0 in
    let rival = has.1 in
    let own = ((candidates from).0 capture_square.1).1 in
    let on = rival_on P (move_from said from) s rival in
    let here : man_at P.men s ≡ Some (man_said P said) = rival.alike ∙ own.here in
    let goes =
    piece_goes P (move_from said from) (kind_said said.letter) piece refl
    (candidate_goes P said from own) in
    let other : IsCandidate P said s = record {
      here = here;
      asked = asked s;
      stays = λ pawn. absurd (piece pawn);
      rules = record {
        from = on;
        to = own.rules.to;
        man = man_said P said;
        here = here;
        own = refl;
        free = own.rules.free;
        goes = goes_piece P said s (kind_said said.letter) piece goes.0
            (rival_reaches P (move_from said from) (man_said P said) s sound own.here piece rival);
      };
    } in
    alone (
      s,
      on,
      still_left old new from s capture_square ((candidates s).1 (on, other)) rival.other,
    )
