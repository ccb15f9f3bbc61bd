-- Where a text is cut into blocks, by place: the words of the search, which the code equals.
use Rattle.std.specs.Prelude.{◌≡◌, ℕ, ◌-◌, ◌<◌, ◌≤◌, Bool, false, ◌&&◌, ◌==◌, nat_eq, List, drop}
use Rattle.std.specs.Prelude.{get_or}
use Rattle.std.specs.List.{starts_with}
use Rattle.pgn_text.specs.Public.Blocks.{event_line}

-- an event line begins at the place, which is after some byte
abbrev pub is_cut : List ℕ → ℕ → Bool
is_cut text at = (get_or text (at - 1) 0 == 10) && starts_with nat_eq (drop at text) event_line

-- no event line begins from one place up to another
abbrev pub NoCutBefore : List ℕ → ℕ → ℕ → Type 0
NoCutBefore text from end = (j : ℕ) → from ≤ j → j < end → is_cut text j ≡ false
