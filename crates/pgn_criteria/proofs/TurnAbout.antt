-- What conditions on moves say at a ply: of its position, of the next move and of the last one.
use Rattle.pgn_criteria.proofs.Common.{◌≡◌, ◌↔◌, ◌+◌, ◌++◌, ℕ, Bool, true, false, List, []}
use Rattle.pgn_criteria.proofs.Common.{◌∷◌, length, Option, Some, None, IsTrue, refl, sym, ap, ◌∙◌}
use Rattle.pgn_criteria.proofs.Common.{subst, arith, append-nil, append_assoc, slice_get}
use Rattle.pgn_criteria.proofs.Common.{State, Replay, Conditions, Taken, AllTaken, IsSoOfMoves}
use Rattle.pgn_criteria.proofs.Common.{PositionsHold, AllClaims, AllOfSeen, FitsAt, GoesOnBy}
use Rattle.pgn_criteria.proofs.Common.{IsReachedBy, IsCheck, HasMove, false≢true, length-append}
use Rattle.pgn_criteria.proofs.Common.{MoveClaim, Next, Played, Setup, Stated}
use Rattle.std.proofs.lemmas.Option.{slice_get_past}
use Rattle.std.specs.Prelude.{IfSome, is_some}
use Rattle.chess.specs.Public.Moves.{IsLegal}
use Rattle.chess.specs.declared.moves.Move.{Move as OneMove}
use Rattle.pgn_game.specs.Public.PlayedLines.{PlayedLine, HasGoneOn}
use Rattle.pgn_criteria.proofs.MoveFacts.{gone_on}
use Rattle.pgn_criteria.proofs.SeenFacts.{all_position}
use Rattle.pgn_criteria.proofs.ToldFacts.{told_all, told_more}
use Rattle.pgn_criteria.specs.Private.Told.{AreTold, AreToldOf}
use Rattle.pgn_criteria.specs.Private.MoveEnds.{IsSomeLike}
use Rattle.pgn_criteria.specs.Private.Told.{AllAbout, FitsBefore, IsAbout, IsSetup, SaysAbout}
use Rattle.pgn_criteria.specs.Private.Told.{StartsWith}
use Rattle.pgn_criteria.specs.declared.played.About.TheVariants as about

-- ---- one condition

-- a condition is what it says of each of the three
one_parted : (replay : Replay) (ply : ℕ) (denied : Bool) (claim : MoveClaim (List ℕ))
    → Taken denied (IsSoOfMoves replay ply claim)
    ↔ (SaysAbout about.Here replay ply denied claim × SaysAbout about.Next replay ply denied claim
    × SaysAbout about.Last replay ply denied claim)
one_parted replay ply denied (Next word) = (λ so. (tt, so, tt), λ parts. parts.1)
one_parted replay ply denied (Played word) = (λ so. (tt, tt, so), λ parts. parts.2)
one_parted replay ply denied (Setup setup) = (λ so. (so, tt, tt), λ parts. parts.0)

pub all_parted : (replay : Replay) (ply : ℕ) (moves : List (Stated (MoveClaim (List ℕ))))
    → AllTaken (IsSoOfMoves replay ply) moves
    ↔ (AllAbout about.Here replay ply moves × AllAbout about.Next replay ply moves
    × AllAbout about.Last replay ply moves)
all_parted replay ply [] = (λ all. (tt, tt, tt), λ parts. tt)
all_parted replay ply (first ∷ more) =
    let one = one_parted replay ply first.is_denied first.claim in
    let rest = all_parted replay ply more in (
      λ all.
          let here = one.0 all.0 in
          let there = rest.0 all.1 in
          ((here.0, there.0), (here.1, there.1), (here.2, there.2)),
      λ parts. (
        one.1 (parts.0.0, parts.1.0, parts.2.0),
        rest.1 (parts.0.1, parts.1.1, parts.2.1),
      ),
    )

-- what `position` says speaks of no move
pub none_of_setups : (replay : Replay) (ply : ℕ) (moves : List (Stated (MoveClaim (List ℕ))))
    → AllClaims IsSetup moves
    → AllAbout about.Next replay ply moves × AllAbout about.Last replay ply moves
none_of_setups replay ply [] setups = (tt, tt)
none_of_setups replay ply (first ∷ more) setups =
    let rest = none_of_setups replay ply more setups.1 in
    let one = still first.is_denied first.claim setups.0 in ((one.0, rest.0), (one.1, rest.1))
  where
    still : (denied : Bool) (claim : MoveClaim (List ℕ)) → IsSetup claim
        → SaysAbout about.Next replay ply denied claim
        × SaysAbout about.Last replay ply denied claim
    still denied (Setup setup) is = (tt, tt)
    still denied (Next word) is = absurd is
    still denied (Played word) is = absurd is

-- ---- the move from a position

pub next_like : (replay : Replay) (ply : ℕ) (word : List ℕ) (P : State) (m : Option OneMove)
    (r : Bool) → slice_get replay.positions ply ≡ Some P → slice_get replay.played ply ≡ m
    → (IsTrue r ↔ IsSomeLike P m word) → IsTrue r ↔ GoesOnBy replay ply word
next_like replay ply word P None r here played reports =
    (λ t. absurd (reports.0 t), λ goes. let is = goes.played in absurd (cc (is, played)))
next_like replay ply word P (Some m) r here played reports =
    gone_on replay ply word P m r here played reports

pub last_like : (replay : Replay) (ply : ℕ) (word : List ℕ) (P : State) (m : Option OneMove)
    (r : Bool) → IsAbout about.Last replay ply P m → (IsTrue r ↔ IsSomeLike P m word)
    → IsTrue r ↔ IsReachedBy replay ply word
last_like replay ply word P None r first reports = (
  λ t. absurd (reports.0 t),
  λ reached. let is = reached.1 in absurd (omega (arith, first, is)),
)
last_like replay ply word P (Some m) r (before, is, here, played) reports =
    let goes = gone_on replay before word P m r here played reports in (
      λ t. (before, is, goes.0 t),
      λ reached.
          let at = reached.1 in
          let same : reached.0 ≡ before = omega (arith, is, at) in
          goes.1 (subst (λ n. GoesOnBy replay n word) same reached.2),
    )

-- ---- what is told of a ply

-- all that conditions say of a ply
pub fits_whole : (replay : Replay) (asked : Conditions) (ply : ℕ) → FitsAt replay asked ply
    ↔ (FitsBefore replay asked ply × AllAbout about.Next replay ply asked.moves)
fits_whole replay asked ply =
    let parts = all_parted replay ply asked.moves in (
      λ fits. let said = parts.0 fits.3 in ((fits.0, fits.1, fits.2, said.0, said.2), said.1),
      λ both. (both.0.0, both.0.1, both.0.2, parts.1 (both.0.3, both.1, both.0.4)),
    )

-- not so, where what led there is not, or the position is not met
pub not_reached : (replay : Replay) (asked : Conditions) (ply : ℕ) (r : Bool) → r ≡ false
    → (IsTrue r ↔ AllAbout about.Last replay ply asked.moves)
    → IsTrue false ↔ FitsBefore replay asked ply
not_reached replay asked ply r fails reports = (
  λ t. absurd (false≢true t),
  λ fits. let so = reports.1 fits.4 in absurd (cc (so, fails)),
)

pub not_met : (replay : Replay) (asked : Conditions) (ply : ℕ) (P : State) (r : Bool) → r ≡ false
    → slice_get replay.positions ply ≡ Some P
    → (IsTrue r ↔ AllOfSeen P.men P.turn (IsCheck P.men P.turn) (¬ HasMove P) asked.positions)
    → IsTrue false ↔ FitsBefore replay asked ply
not_met replay asked ply P r fails here reports = (
  λ t. absurd (false≢true t),
  λ fits.
      let same : fits.0 ≡ P = cc (fits.1, here) in
      let so = reports.1
      ((all_position P asked.positions).1
      (subst (λ Q. PositionsHold Q asked.positions) same fits.2)) in
      absurd (cc (so, fails)),
)

pub fits_rest : (replay : Replay) (asked : Conditions) (ply : ℕ) (P : State) (reached met r : Bool)
    → reached ≡ true → (IsTrue reached ↔ AllAbout about.Last replay ply asked.moves)
    → met ≡ true → slice_get replay.positions ply ≡ Some P
    → (IsTrue met ↔ AllOfSeen P.men P.turn (IsCheck P.men P.turn) (¬ HasMove P) asked.positions)
    → (IsTrue r ↔ AllAbout about.Here replay ply asked.moves)
    → IsTrue r ↔ FitsBefore replay asked ply
fits_rest replay asked ply P reached met r led last is here of_position reports = (
  λ t. (
    P,
    here,
    (all_position P asked.positions).0 (of_position.0 is),
    reports.0 t,
    last.0 led,
  ),
  λ fits. reports.1 fits.3,
)

-- the same of all that is said, once it is known of the rest
pub turn_not : (replay : Replay) (asked : Conditions) (ply : ℕ) (r : Bool) → r ≡ false
    → (IsTrue r ↔ FitsBefore replay asked ply) → IsTrue false ↔ FitsAt replay asked ply
turn_not replay asked ply r fails reports = (
  λ t. absurd (false≢true t),
  λ fits. let so = reports.1 ((fits_whole replay asked ply).0 fits).0 in absurd (cc (so, fails)),
)

pub turn_fits : (replay : Replay) (asked : Conditions) (ply : ℕ) (met r : Bool) → met ≡ true
    → (IsTrue met ↔ FitsBefore replay asked ply)
    → (IsTrue r ↔ AllAbout about.Next replay ply asked.moves) → IsTrue r ↔ FitsAt replay asked ply
turn_fits replay asked ply met r is before next =
    let whole = fits_whole replay asked ply in
    (λ t. whole.1 (before.0 is, next.0 t), λ fits. next.1 (whole.0 fits).1)

pub still_fits : (replay : Replay) (asked : Conditions) (ply : ℕ) (r : Bool)
    → AllClaims IsSetup asked.moves → (IsTrue r ↔ FitsBefore replay asked ply)
    → IsTrue r ↔ FitsAt replay asked ply
still_fits replay asked ply r setups before =
    let whole = fits_whole replay asked ply in
    let none = none_of_setups replay ply asked.moves setups in
    (λ t. whole.1 (before.0 t, none.0), λ fits. before.1 (whole.0 fits).0)

-- and what is known of the last move at one ply is known of it at each
pub still_reached : (replay : Replay) (asked : Conditions) (ply next : ℕ) (r : Bool)
    → AllClaims IsSetup asked.moves → (IsTrue r ↔ AllAbout about.Last replay ply asked.moves)
    → IsTrue r ↔ AllAbout about.Last replay next asked.moves
still_reached replay asked ply next r setups reports = (
  λ t. (none_of_setups replay next asked.moves setups).1,
  λ all. reports.1 (none_of_setups replay ply asked.moves setups).1,
)

pub none_of : (next : Option OneMove) → is_some next ≡ false → next ≡ None
none_of None none = refl
none_of (Some m) none = absurd (cc (none))

-- the move by which a line goes on is legal
pub legal_next : (old new : PlayedLine) (P : State) (next : Option OneMove) → P ≡ old.position
    → HasGoneOn old new next → IfSome next (IsLegal P)
legal_next old new P None same gone = tt
legal_next old new P (Some m) same gone =
    subst (λ Q. IsLegal Q m) (sym same)
    (subst (IsLegal old.position) gone.1 gone.0.named.named.legal)

pub some_of : (next : Option OneMove) → is_some next ≡ true
    → (m : OneMove) × (next ≡ Some m)
some_of None none = absurd (cc (none))
some_of (Some m) some = (m, refl)

at_seam : {A : Type 0} (before : List A) (P : A) (rest : List A)
    → slice_get (before ++ P ∷ rest) (length before) ≡ Some P
at_seam [] P rest = refl
at_seam (first ∷ before) P rest = at_seam before P rest

-- where a list goes on, it has this element there
seam_of : {A : Type 0} (whole before rest : List A) (P : A) → whole ≡ (before ++ P ∷ []) ++ rest
    → slice_get whole (length before) ≡ Some P
seam_of whole before rest P is =
    ap (λ xs. slice_get xs (length before)) (is ∙ append_assoc before (P ∷ []) rest)
    ∙ at_seam before P rest

module _ (before : List State) (played : List OneMove) (P : State)
    (even : length played ≡ length before) where
  -- a replay that goes on by a move
  pub goes_next : (m : OneMove) (replay : Replay)
      → StartsWith (before ++ P ∷ []) (played ++ m ∷ []) replay
      → IsAbout about.Next replay (length before) P (Some m)
  goes_next m replay (rest, more, positions, moves) = (
    seam_of replay.positions before rest P positions,
    subst (λ n. slice_get replay.played n ≡ Some m) even
        (seam_of replay.played played more m moves),
  )

  -- and then that move led on
  pub goes_last : (m : OneMove) (replay : Replay)
      → StartsWith (before ++ P ∷ []) (played ++ m ∷ []) replay
      → IsAbout about.Last replay (length before + 1) P (Some m)
  goes_last m replay starts =
      let next = goes_next m replay starts in (length before, refl, next.0, next.1)

  pub goes_from : (m : OneMove) (replay : Replay)
      → StartsWith (before ++ P ∷ []) (played ++ m ∷ []) replay → StartsWith before played replay
  goes_from m replay (rest, more, positions, moves) = (
    P ∷ rest,
    m ∷ more,
    positions ∙ append_assoc before (P ∷ []) rest,
    moves ∙ append_assoc played (m ∷ []) more,
  )

  -- a replay that ends there
  module _ (replay : Replay) (positions : replay.positions ≡ before ++ P ∷ [])
      (moves : replay.played ≡ played) where
    pub ends_next : IsAbout about.Next replay (length before) P None
    ends_next = (
      ap (λ ps. slice_get ps (length before)) positions ∙ at_seam before P [],
      ap (λ ms. slice_get ms (length before)) moves
          ∙ slice_get_past played (length before) (omega (arith, even)),
    )

    pub ends_from : StartsWith before played replay
    ends_from = (P ∷ [], [], positions, moves ∙ sym (append-nil played))

  -- what is told of one more ply
  module _ (asked : Conditions) (told new : List Bool) (is : Bool)
      (so_far : AreToldOf asked (length before) (StartsWith before played) told)
      (items : new ≡ told ++ is ∷ []) where
    pub told_on : (m : OneMove)
        → ((replay : Replay) → StartsWith (before ++ P ∷ []) (played ++ m ∷ []) replay
        → IsTrue is ↔ FitsAt replay asked (length before))
        → AreToldOf asked (length (before ++ P ∷ []))
        (StartsWith (before ++ P ∷ []) (played ++ m ∷ [])) new
    told_on m here =
        subst (λ n. AreToldOf asked n (StartsWith (before ++ P ∷ []) (played ++ m ∷ [])) new)
        (sym (length-append before (P ∷ [])))
        (told_more asked (length before) (StartsWith before played)
        (StartsWith (before ++ P ∷ []) (played ++ m ∷ [])) told new is so_far items
        (λ replay starts. (goes_from m replay starts, here replay starts)))

    pub told_end : (replay : Replay) → replay.positions ≡ before ++ P ∷ []
        → replay.played ≡ played → (IsTrue is ↔ FitsAt replay asked (length before))
        → (length new ≡ length replay.positions) × AreTold (FitsAt replay asked) new
    told_end replay positions moves here =
        let starts = ends_from replay positions moves in
        let size : length replay.positions ≡ length before + 1 =
        ap length positions ∙ length-append before (P ∷ []) in
        let all = told_more asked (length before) (StartsWith before played) (λ r. r ≡ replay) told
        new is so_far items (λ r same. (
          subst (StartsWith before played) (sym same) starts,
          subst (λ q. IsTrue is ↔ FitsAt q asked (length before)) (sym same) here,
        )) in (
          all.each ∙ sym size,
          told_all asked (λ r. r ≡ replay) new replay refl
              (subst (λ n. AreToldOf asked n (λ r. r ≡ replay) new) (sym size) all),
        )
