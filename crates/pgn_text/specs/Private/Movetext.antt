-- Plain movetext: moves, move numbers, periods and gaps, with nothing else between them.
use Rattle.std.specs.Prelude.{◌≡◌, ℕ, Bool, true, false, ◌≤◌, List, [], ◌++◌, length, Option}
use Rattle.pgn_text.specs.Public.Games.{Item}
use Rattle.pgn_text.specs.Private.Reading.{Kept, KeptGap, KeptMove, KeptNumber, KeptDot}
use Rattle.pgn_text.specs.Private.Reading.{items_of_kept}
use Rattle.pgn_text.specs.Private.Walk.{KeptAt}

-- what a game keeps of the part is a move, or nothing since it is a move number, a period or a
-- gap's
abbrev pub is_plain_kept : Kept → Bool
is_plain_kept KeptGap = true
is_plain_kept (KeptMove word) = true
is_plain_kept KeptNumber = true
is_plain_kept KeptDot = true
is_plain_kept _ = false

-- parts of plain movetext, if any, reach from the place `from` of the block to the other, and these
-- are their elements
pub data ArePlain (file_start : Bool) (block : List ℕ) (from : ℕ) : List Item → ℕ → Type 0 where
  none : ArePlain file_start block from [] from
  one_more : {items : List Item} {at end : ℕ} (token : Kept)
      → ArePlain file_start block from items at → KeptAt file_start block at token end
      → is_plain_kept token ≡ true
      → ArePlain file_start block from (items ++ items_of_kept token) end

-- plain movetext, which may be empty, reaches from the place `from` of the block to the place
-- `end`, whether or not the block begins the file; these are its elements
pub record PlainTo (block : List ℕ) (from : ℕ) (items : List Item) (end : ℕ) : Type 0 where
  pub parts : (file_start : Bool) → ArePlain file_start block from items end
  pub forward : from ≤ end
  pub within : end ≤ length block

-- whichever tags and elements were kept, these elements are kept too
abbrev pub AddsElements : ((List ℕ → Option (List ℕ)) → List Item → Type 0)
    → ((List ℕ → Option (List ℕ)) → List Item → Type 0) → List Item → Type 0
AddsElements kept_old kept_new more = (tags : List ℕ → Option (List ℕ)) (items : List Item)
    → kept_old tags items → kept_new tags (items ++ more)
