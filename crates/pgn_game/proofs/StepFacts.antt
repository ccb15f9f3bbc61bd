-- A walk's steps, one after another.
use Rattle.std.specs.Prelude.{Result, Ok, Err}
use Rattle.pgn_game.proofs.Common.{◌≡◌, ℕ, ◌+◌, Bool, true, false, List, [], ◌∷◌, ◌++◌, refl, sym}
use Rattle.pgn_game.proofs.Common.{ap, subst, arith, Item, MoveText, GlyphNumber, CommentText}
use Rattle.pgn_game.proofs.Common.{VariationOpen, VariationClose, OnOk, AreWithin, IsWithin, Step}
use Rattle.pgn_game.proofs.Common.{Turned, Beside, Visits, Walks, around, shown_items, Runs, begun}
use Rattle.pgn_game.proofs.Common.{gone_on, LineStack, LineMove, Level}
use Rattle.pgn_game.specs.Private.Steps.{IsBack}

pub visits_one_more : {V : Type 0} (does : V → Step → V
    → Type 0) (done : List Step) (old mid new : V) (step : Step) → Visits does old done mid
    → does mid step new → Visits does old (done ++ step ∷ []) new
visits_one_more does [] old mid new step is goes = (new, subst (λ v. does v step new) is goes, refl)
visits_one_more does (first ∷ done) old mid new step (next, goes_first, rest) goes =
    (next, goes_first, visits_one_more does done next mid new step rest goes)

pub on_ok_so : {A E : Type 0} {P : Type 0} (r : Result A E) → P → OnOk r P
on_ok_so (Ok a) p = p
on_ok_so (Err e) p = tt

pub within_more : (n : ℕ) (lines : List Level) → AreWithin n lines → AreWithin (n + 1) lines
within_more n [] all = tt
within_more n (line ∷ lines) (here, all) = (omega arith, within_more n lines all)

within_at_back : (n : ℕ) (line new : Level) (outer left : List Level) → IsBack line outer new left
    → AreWithin n (line ∷ outer) → AreWithin n (new ∷ left)
within_at_back n line new [] left (same, none) all =
    rw same (subst (λ ls. AreWithin n (line ∷ ls)) (sym none) all)
within_at_back n line new (next ∷ outer) left (same, rest) (here, all) =
    rw same (subst (λ ls. AreWithin n (next ∷ ls)) (sym rest) all)

pub within_back : (n : ℕ) (old new : LineStack Level)
    → IsBack old.line (around old) new.line (around new) → IsWithin n old → IsWithin n new
within_back n old new back all =
    within_at_back n old.line new.line (around old) (around new) back all

pub within_begun : (n : ℕ) (old new : LineStack Level) → new.line ≡ begun old.line
    → around new ≡ old.line ∷ around old → IsWithin n old → IsWithin n new
within_begun n old new line outer all =
    let here = all.0 in
    rw line (subst (λ ls. AreWithin n (begun old.line ∷ ls)) (sym outer) (omega arith, all))

pub within_turned : (n : ℕ) (old new : LineStack Level) (turn : LineMove)
    → new.line ≡ gone_on old.line turn → around new ≡ around old → IsWithin n old
    → IsWithin (n + 1) new
within_turned n old new turn line outer all =
    let here = all.0 in
    rw line (rw outer (omega arith, within_more n (around old) all.1))

-- of no elements none are gone over
pub none_shown : (variations : Bool) (depth : ℕ) → shown_items variations depth [] ≡ []
none_shown true depth = refl
none_shown false depth = refl

-- the turns of a walk
abbrev pub turns_of : List Step → List LineMove
turns_of [] = []
turns_of (Turned inside now turn ∷ steps) = turn ∷ turns_of steps
turns_of (Beside item ∷ steps) = turns_of steps

pub walks_run : (items : List Item) (line : Level) (outer : List Level) (steps : List Step)
    → Walks items line outer steps → Runs items line outer (turns_of steps)
walks_run [] line outer steps none = ap turns_of none
walks_run (MoveText word ∷ items) line outer steps (turn, more, is, says, walks) = (
  turn,
  turns_of more,
  ap turns_of is,
  says,
  walks_run items (gone_on line turn) outer more walks,
)
walks_run (GlyphNumber number ∷ items) line outer steps (more, is, walks) =
    rw is (walks_run items line outer more walks)
walks_run (CommentText text ∷ items) line outer steps (more, is, walks) =
    rw is (walks_run items line outer more walks)
walks_run (VariationOpen ∷ items) line outer steps (more, is, walks) =
    rw is (walks_run items (begun line) (line ∷ outer) more walks)
walks_run (VariationClose ∷ items) line [] steps (more, is, walks) =
    subst (λ ss. Runs items line [] (turns_of ss)) (sym is) (walks_run items line [] more walks)
walks_run (VariationClose ∷ items) line (next ∷ outer) steps (more, is, walks) =
    rw is (walks_run items next outer more walks)
