-- What stands at a place of a game, by the token that was found there.
use Rattle.std.specs.Prelude.{Result as ResultOf, IfOk}
use Rattle.std.proofs.lemmas.Result.{IfOk-weaker}
use Rattle.pgn_text.proofs.Common.{◌≡◌, ℕ, Bool, false, List, sym, subst, inr, Option, Item, Kept}
use Rattle.pgn_text.proofs.Common.{is_kept_result, State, KeptAt}
use Rattle.pgn_text.specs.Private.Readings.{IsReading, IsStep}
use Rattle.pgn_text.specs.declared.game.Reading.{Reading}
use Rattle.pgn_text.specs.declared.game.Reading.TheVariants.{Part, Move, Number, Result, Stuck}

module _ (kept_old kept_new : (List ℕ → Option (List ℕ)) → List Item
    → Type 0) (max_depth : ℕ) (old new : State) where
  -- a step over the token that stands at a place is what stands there
  step_is_reading : {f : Bool} {block : List ℕ} {at end : ℕ} {token : Kept}
      → KeptAt f block at token end → is_kept_result token ≡ false
      → (reading : Reading) → IsStep kept_old kept_new max_depth token end old new reading
      → IsReading kept_old kept_new max_depth f block at old new reading
  step_is_reading {f} {block} {at} {end} {token} here no_result (Part after) (ends, steps, keeps) =
      record {
        token = token;
        here = subst (KeptAt f block at token) (sym ends) here;
        no_result = no_result;
        steps = steps;
        keeps = keeps;
      }
  step_is_reading here no_result (Move after) step = absurd step
  step_is_reading here no_result (Number after) step = absurd step
  step_is_reading here no_result (Result after) step = absurd step
  step_is_reading {f} {block} {at} {end} {token} here no_result Stuck step =
      inr (record {
        token = token;
        end = end;
        here = here;
        deep = λ yes. absurd (cc);
        stuck =
            λ _. step;
      })

  -- the same of what a call answered
  pub reading_of : {f : Bool} {block : List ℕ} {at end : ℕ} {token : Kept}
      → KeptAt f block at token end → is_kept_result token ≡ false
      → {E : Type 0} (result : ResultOf Reading E)
      → IfOk result (λ reading. IsStep kept_old kept_new max_depth token end old new reading)
      → IfOk result (λ reading. IsReading kept_old kept_new max_depth f block at old new reading)
  reading_of {f} {block} {at} {end} {token} here no_result result steps =
      IfOk-weaker result (λ reading.
      IsStep kept_old kept_new max_depth token end old new reading)
      (λ reading. IsReading kept_old kept_new max_depth f block at old new reading)
      (λ reading step. step_is_reading here no_result reading step) steps

  -- the same where it does not matter whether the block is at the start of the file
  pub readings_of : {block : List ℕ} {at end : ℕ} {token : Kept}
      → ((f : Bool) → KeptAt f block at token end) → is_kept_result token ≡ false
      → {E : Type 0} (result : ResultOf Reading E)
      → IfOk result (λ reading. IsStep kept_old kept_new max_depth token end old new reading)
      → IfOk result (λ reading. (f : Bool)
      → IsReading kept_old kept_new max_depth f block at old new reading)
  readings_of {block} {at} {end} {token} here no_result result steps =
      IfOk-weaker result (λ reading.
      IsStep kept_old kept_new max_depth token end old new reading) (λ reading. (f : Bool)
      → IsReading kept_old kept_new max_depth f block at old new reading)
      (λ reading step f. step_is_reading (here f) no_result reading step) steps
