-- What reading one part of a game does.
use Rattle.std.specs.Prelude.{◌≡◌, ◌≢◌, ◌⊎◌, ℕ, Bool, true, false, List, ◌++◌, Option, Some, None}
use Rattle.std.specs.Option.{option_or}
use Rattle.pgn_text.specs.Public.Games.{Item}
use Rattle.pgn_text.specs.Private.Reading.{Kept, is_kept_result, step_kept, items_of_kept}
use Rattle.pgn_text.specs.Private.Reading.{named_kept}
use Rattle.pgn_text.specs.Private.Steps.{State}
use Rattle.pgn_text.specs.Private.Walk.{KeptAt, NothingAt}
use Rattle.pgn_text.specs.declared.game.Reading.{Reading}
use Rattle.pgn_text.specs.declared.game.Reading.TheVariants.{Part, Move, Number, Result, Stuck}

-- where tags and elements were kept, those of the token are kept too
abbrev pub AddsToken : ((List ℕ → Option (List ℕ)) → List Item → Type 0)
    → ((List ℕ → Option (List ℕ)) → List Item → Type 0) → Kept → Type 0
AddsToken kept_old kept_new token =
    (tags : List ℕ → Option (List ℕ)) (items : List Item) → kept_old tags items
    → kept_new (λ wanted. option_or (tags wanted) (named_kept wanted token)) (items
    ++ items_of_kept token)

-- a part that may stand at the place reaches to the other, and what it gives is kept
pub record GoesOn (kept_old kept_new : (List ℕ → Option (List ℕ)) → List Item
    → Type 0) (max_depth : ℕ) (file_start : Bool) (block : List ℕ) (at : ℕ) (old new : State)
    (end : ℕ) : Type 0 where
  pub token : Kept
  pub here : KeptAt file_start block at token end
  pub no_result : is_kept_result token ≡ false
  pub steps : step_kept max_depth old token ≡ Some new
  pub keeps : AddsToken kept_old kept_new token

-- a result stands at the place, outside all variations, and nothing of it is kept
pub record EndsAt (kept_old kept_new : (List ℕ → Option (List ℕ)) → List Item
    → Type 0) (file_start : Bool) (block : List ℕ) (at : ℕ) (old : State) (end : ℕ) : Type 0 where
  pub token : Kept
  pub here : KeptAt file_start block at token end
  pub is_result : is_kept_result token ≡ true
  pub closed : old.depth ≡ 0
  pub same : (tags : List ℕ → Option (List ℕ)) (items : List Item) → kept_old tags items
      → kept_new tags items

-- a part stands at the place that may not stand there
pub record StuckAt (max_depth : ℕ) (file_start : Bool) (block : List ℕ) (at : ℕ)
    (old : State) : Type 0 where
  pub token : Kept
  pub end : ℕ
  pub here : KeptAt file_start block at token end
  pub deep : is_kept_result token ≡ true → old.depth ≢ 0
  pub stuck : is_kept_result token ≡ false → step_kept max_depth old token ≡ None

-- what stands at the place of the block
abbrev pub IsReading : ((List ℕ → Option (List ℕ)) → List Item → Type 0)
    → ((List ℕ → Option (List ℕ)) → List Item → Type 0) → ℕ → Bool → List ℕ → ℕ → State → State
    → Reading → Type 0
IsReading kept_old kept_new max_depth file_start block at old new (Part end) =
    GoesOn kept_old kept_new max_depth file_start block at old new end
IsReading kept_old kept_new max_depth file_start block at old new (Move end) =
    GoesOn kept_old kept_new max_depth file_start block at old new end × (new.in_tags ≡ false)
    × (new.has_move ≡ true)
IsReading kept_old kept_new max_depth file_start block at old new (Number end) =
    GoesOn kept_old kept_new max_depth file_start block at old new end × (new.in_tags ≡ false)
IsReading kept_old kept_new max_depth file_start block at old new (Result end) =
    EndsAt kept_old kept_new file_start block at old end
IsReading kept_old kept_new max_depth file_start block at old new Stuck =
    NothingAt file_start block at ⊎ StuckAt max_depth file_start block at old

-- the token is kept, and read up to the place, if it may follow
abbrev pub IsStep : ((List ℕ → Option (List ℕ)) → List Item → Type 0)
    → ((List ℕ → Option (List ℕ)) → List Item → Type 0) → ℕ → Kept → ℕ → State → State → Reading
    → Type 0
IsStep kept_old kept_new max_depth token end old new (Part after) =
    (after ≡ end) × (step_kept max_depth old token ≡ Some new) × AddsToken kept_old kept_new token
IsStep kept_old kept_new max_depth token end old new (Move after) = ⊥
IsStep kept_old kept_new max_depth token end old new (Number after) = ⊥
IsStep kept_old kept_new max_depth token end old new (Result after) = ⊥
IsStep kept_old kept_new max_depth token end old new Stuck = step_kept max_depth old token ≡ None
