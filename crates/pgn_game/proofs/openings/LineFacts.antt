-- The line of the opening of a game, found along the steps of a walk.
use Rattle.pgn_game.proofs.Common.{◌≡◌, ℕ, true, false, List, [], ◌∷◌, ◌++◌, length, Option, Some}
use Rattle.pgn_game.proofs.Common.{None, refl, sym, ap, subst, append_assoc, append-nil, State}
use Rattle.pgn_game.proofs.Common.{after_turn, Step, Turned, Beside, Visits}
use Rattle.pgn_game.specs.Public.Openings.{IsFirstIn, ends_of}
use Rattle.pgn_game.specs.Private.Following.{FindsLine, FollowsStep, Follows}
use Rattle.pgn_game.specs.Public.Openings.{HasLine}
use Rattle.pgn_game.specs.declared.exports.following.Follower.{Follower}
use Rattle.pgn_game.proofs.OpeningFacts.{opening_here, opening_stays}
use Rattle.pgn_game.proofs.replays.MainSteps.{main_of}

-- ---- one more position

-- the first line that ends there is that of the opening
pub line_here : (ends : List State) (old : Option ℕ) (P : State) (line : ℕ)
    → IsFirstIn ends P (Some line) → FindsLine ends old P (Some line)
line_here ends old P line first = λ seen before. (length seen, opening_here ends seen P line first)

-- where no line ends there, the line stays
pub line_stays : (ends : List State) (old : Option ℕ) (P : State) → IsFirstIn ends P None
    → FindsLine ends old P old
line_stays ends None P none = λ seen before. opening_stays ends seen P None none before
line_stays ends (Some line) P none = λ seen before. (
  before.0,
  opening_stays ends seen P (Some (record { ply = before.0; line = line })) none before.1,
)

-- ---- the steps of a walk

-- after a step, whatever steps follow
stepped : (ends : List State) (old new : Option ℕ) (step : Step) (seen : List State)
    → FollowsStep ends old step new → HasLine ends seen old
    → (grown : List State) × HasLine ends grown new
    × ((more : List Step) → grown ++ main_of more ≡ seen ++ main_of (step ∷ more))
stepped ends old new (Turned true before turn) seen same has =
    (seen, subst (HasLine ends seen) (sym same) has, (λ more. refl))
stepped ends old new (Turned false before turn) seen finds has = (
  seen ++ after_turn before turn ∷ [],
  finds seen has,
  (λ more. append_assoc seen (after_turn before turn ∷ []) (main_of more)),
)
stepped ends old new (Beside item) seen same has =
    (seen, subst (HasLine ends seen) (sym same) has, (λ more. refl))

-- what a follower did along the steps: its visitor went along them, and the line is found
pub record WentAlong {V : Type 0} (does : V → Step → V → Type 0) (old : Follower V)
    (steps : List Step) (new : Follower V) : Type 0 where
  pub inner : Visits does old.inner steps new.inner
  pub place : (seen : List State) → HasLine (ends_of old.openings.now) seen old.place
      → HasLine (ends_of old.openings.now) (seen ++ main_of steps) new.place

pub went_along : {V : Type 0} (does : V → Step → V → Type 0) (old : Follower V) (steps : List Step)
    (new : Follower V) → Visits (Follows does) old steps new → WentAlong does old steps new
went_along does old [] new same = record {
  inner = ap (λ f. f.inner) same;
  place = λ seen has.
      subst (λ place. HasLine (ends_of old.openings.now) (seen ++ []) place)
      (ap (λ f. f.place) (sym same))
      (subst (λ ps. HasLine (ends_of old.openings.now) ps old.place) (sym (append-nil seen)) has);
}
went_along does old (step ∷ steps) new (mid, follows, visits) =
    let there = went_along does mid steps new visits in
    let ends = ends_of old.openings.now in
    record {
      inner = (mid.inner, follows.inner, there.inner);
      place = λ seen has.
          let first = stepped ends old.place mid.place step seen follows.place has in
          subst (λ ps. HasLine ends ps new.place) (first.2 steps)
          (subst (λ lines. (seen : List State) → HasLine (ends_of lines) seen mid.place
          → HasLine (ends_of lines) (seen ++ main_of steps) new.place) follows.same there.place
          first.0 first.1);
    }
