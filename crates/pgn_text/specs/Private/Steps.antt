-- A game read part by part: what has to be remembered of the parts before a place, and how a part
-- changes it.
use Rattle.std.specs.Prelude.{◌≡◌, ℕ, Bool, true, false, ◌&&◌, ◌+◌, ◌-◌, nat_lt, if◌then◌else◌}
use Rattle.std.specs.Prelude.{List, [], ◌∷◌, Option, Some, None, MatchBool}
use Rattle.pgn_text.specs.Public.Parts.{Part, ByteOrderMark, White, Brace, Line, EscapeLine, Tag}
use Rattle.pgn_text.specs.Public.Parts.{Word, Star, Dot, Glyph, Marks, Open, Close}
use Rattle.pgn_text.specs.Public.Games.{is_number, is_move_text, is_result}

-- what is remembered of the parts so far
pub record State : Type 0 where
  -- only tags and what a gap may have so far
  pub in_tags : Bool
  -- how many variations are open
  pub depth : ℕ
  -- a move stands before this place in its own line
  pub has_move : Bool

-- before the first part
abbrev pub start : State
start = record { in_tags = true; depth = 0; has_move = false }

-- movetext stands here, so no more tags
abbrev pub in_movetext : State → State
in_movetext state = record state { in_tags = false }

-- the state after a part that is no result, if it may stand there
abbrev pub step : ℕ → State → Part → Option State
step max_depth state ByteOrderMark = Some state
step max_depth state (White b) = Some state
step max_depth state (Brace text) = Some state
step max_depth state (Line text) = Some state
step max_depth state (EscapeLine text) = Some state
step max_depth state (Tag first name second contents third) =
    if state.in_tags then Some state else None
step max_depth state (Word text) =
    if is_move_text text then
    Some (record { in_tags = false; depth = state.depth; has_move = true })
    else (if is_number text then Some (in_movetext state) else None)
step max_depth state Star = None
step max_depth state Dot = Some (in_movetext state)
step max_depth state (Glyph digits) = Some (in_movetext state)
step max_depth state (Marks marks) = Some (in_movetext state)
step max_depth state Open =
    if state.has_move && nat_lt state.depth max_depth
    then Some (record { in_tags = false; depth = state.depth + 1; has_move = false })
    else None
step max_depth state Close =
    if nat_lt 0 state.depth
    then Some (record { in_tags = false; depth = state.depth - 1; has_move = true })
    else None

-- a step is made to the new state where there is a next one, and none where there is none
abbrev pub Steps : Bool → State → Option State → Type 0
Steps true new next = next ≡ Some new
Steps false new next = next ≡ None

-- the parts lead from this state to a result outside all variations, which is the last of them
abbrev pub Leads : ℕ → State → List Part → Type 0
Leads max_depth state [] = ⊥
Leads max_depth state (part ∷ back) =
    MatchBool (is_result part)
    ((state.depth ≡ 0) × (back ≡ []))
    ((next : State) × (step max_depth state part ≡ Some next) × Leads max_depth next back)
