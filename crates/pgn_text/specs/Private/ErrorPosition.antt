-- How far the parts of a game go, where the text may end before the game does: what the function
-- `walk` of `error_position` answers.
use Rattle.std.specs.Prelude.{◌≡◌, ℕ, Bool, true, false, not, ◌||◌, ◌<◌, ◌≤◌, IsTrue, List, [], ◌∷◌}
use Rattle.std.specs.Prelude.{◌++◌, length, take, drop, Some}
use Rattle.std.specs.List.{list_any}
use Rattle.pgn_text.specs.Public.Bytes.{begins}
use Rattle.pgn_text.specs.Public.Parts.{Part, standing_of, AllStand, spelled}
use Rattle.pgn_text.specs.Public.Games.{is_result}
use Rattle.pgn_text.specs.Private.PartFronts.{NoneFollows}
use Rattle.pgn_text.specs.Private.Steps.{State, start, step}
use Rattle.pgn_text.specs.Public.Stops.{IsErrorPosition}
use Rattle.pgn_text.specs.Public.StopPlaces.{PartsThen, is_open_brace, is_open_bracket, is_quote}
use Rattle.pgn_text.specs.Private.Tokens.{state_of}
use Rattle.pgn_text.specs.declared.error.error_position.Reached.{Reached}
use Rattle.pgn_text.specs.declared.error.error_position.Reached.TheVariants.{GameTo, Stuck}
use Rattle.pgn_text.specs.declared.error.error_position.Within.{Within}
use Rattle.pgn_text.specs.declared.error.error_position.Within.TheVariants.{Comment, Tags, MainLine}
use Rattle.pgn_text.specs.declared.error.error_position.Within.TheVariants.{TagName, Game}
use Rattle.pgn_text.specs.declared.error.error_position.Within.TheVariants.{TagValue, Variation}

-- the parts lead from one state to the other, and none of them is a result
abbrev pub Walks : ℕ → State → List Part → State → Type 0
Walks max_depth s [] t = s ≡ t
Walks max_depth s (p ∷ back) t =
    (is_result p ≡ false)
    × ((next : State) × (step max_depth s p ≡ Some next) × Walks max_depth next back t)

-- the block has been read from the place `begin` to the place `at`, part by part, and this is the
-- state there
pub record WalkedTo (max_depth : ℕ) (file_start : Bool) (block : List ℕ) (begin at : ℕ)
    (state : State) : Type 0 where
  pub done : List Part
  pub walks : Walks max_depth start done state
  pub stand : AllStand file_start (take begin block) done (drop at block)
  pub parted : drop begin block ≡ spelled done ++ drop at block
  pub passed : take at block ≡ take begin block ++ spelled done
  pub forward : begin ≤ at
  pub within : at ≤ length block

-- after a game, with no byte more
abbrev pub AfterGame : Bool → List ℕ → ℕ → ℕ → Type 0
AfterGame file_start block begin end =
    (parts : List Part) × (result : Part)
    × PartsThen file_start block begin end end (parts ++ result ∷ []) []
    × IsTrue (is_result result)

-- what the bytes after the parts, of which the last ends at the place `at` and leaves this state,
-- stand in
abbrev pub FrontWithin : State → List ℕ → ℕ → Within → Type 0
FrontWithin state front at (Comment begun) = (begun ≡ at) × IsTrue (begins is_open_brace front)
FrontWithin state front at (TagName begun) =
    (begun ≡ at) × IsTrue (begins is_open_bracket front) × (list_any is_quote front ≡ false)
FrontWithin state front at (TagValue begun) =
    (begun ≡ at) × IsTrue (begins is_open_bracket front) × (list_any is_quote front ≡ true)
FrontWithin state front at Variation =
    IsTrue (not (begins (λ b. is_open_brace b || is_open_bracket b) front)) × (0 < state.depth)
FrontWithin state front at Tags =
    IsTrue (not (begins (λ b. is_open_brace b || is_open_bracket b) front)) × (state.in_tags ≡ true)
FrontWithin state front at MainLine =
    IsTrue (not (begins (λ b. is_open_brace b || is_open_bracket b) front)) × (state.depth ≡ 0)
    × (state.in_tags ≡ false)
FrontWithin state front at Game = ⊥

-- the text stops after its game; or no part follows at the place
abbrev pub IsReached : ℕ → Bool → List ℕ → ℕ → Reached → Type 0
IsReached max_depth file_start block begin (GameTo end) =
    IsErrorPosition max_depth file_start block begin end × AfterGame file_start block begin end
IsReached max_depth file_start block begin (Stuck at progress) =
    WalkedTo max_depth file_start block begin at (state_of progress)
    × NoneFollows max_depth (standing_of file_start (take at block)) (state_of progress)
    (drop at block)
