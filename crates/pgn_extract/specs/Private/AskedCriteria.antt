-- The criteria that the options ask for.
use Rattle.std.specs.Prelude.{◌≡◌, ℕ, List, [], ◌∷◌, ◌++◌, Option, Some, None, true, false}
use Rattle.std.specs.Prelude.{if◌then◌else◌, ◌||◌, flat_map, is_none, map}
use Rattle.pgn_text.specs.Public.Bytes.{ends_in_line_feed, is_empty}
use Rattle.pgn_criteria.specs.Public.Conditions.{Conditions}
use Rattle.pgn_criteria.specs.Public.Lines.{Accepts}
use Rattle.pgn_extract.specs.Public.Requests.{gives_criteria}
use Rattle.pgn_extract.specs.declared.app.command.Request.{Request}

-- the text with these lines after it: where there are some, its own last line gets a line feed if
-- it has none, and so does each of them
abbrev pub with_lines : List ℕ → List (List ℕ) → List ℕ
with_lines text lines =
    (if is_empty lines || (is_empty text || ends_in_line_feed text) then text else text ++ 10 ∷ [])
    ++ flat_map (λ line. line ++ 10 ∷ []) lines

-- none where none are given; else those that the text of the file spells, if one is named, with the
-- given lines after it
abbrev pub AreAskedCriteria : Request → Option (List Conditions) → Type 0
AreAskedCriteria request None = gives_criteria request ≡ false
AreAskedCriteria request (Some criteria) = (file : List ℕ) × (gives_criteria request ≡ true)
    × (is_none request.criteria ≡ true → file ≡ [])
    × Accepts (with_lines file (map (λ line. line.now) request.conditions.items)) criteria
