-- The blocks of a text: each runs from the text's begin, or from an event line, to the next event
-- line or the end.
use Rattle.std.specs.Prelude.{◌≡◌, ◌≢◌, ℕ, Bool, ◌&&◌, nat_eq, List, [], ◌∷◌, ◌++◌, codes, IsTrue}
use Rattle.std.specs.List.{starts_with}
use Rattle.pgn_text.specs.Public.Bytes.{ends_in_line_feed}

-- the eight bytes that begin an event tag and, where they stand directly after a line feed, a new
-- block
abbrev pub event_line : List ℕ
event_line = codes "[Event \""

-- an event line begins where a text is cut into these two: the byte before is a line feed, and the
-- eight bytes follow
abbrev pub is_event_line : List ℕ → List ℕ → Bool
is_event_line before after = ends_in_line_feed before && starts_with nat_eq after event_line

-- the bytes `block`, with `rest` after them, are a block: an event line or the text's end follows,
-- and no event line begins within
pub record IsFirstBlock (block rest : List ℕ) : Type 0 where
  pub ends : rest ≢ [] → IsTrue (is_event_line block rest)
  pub whole : (x y : List ℕ) → block ≡ x ++ y → x ≢ [] → y ≢ []
      → IsTrue (is_event_line x (y ++ rest)) → ⊥

-- the blocks of a text, in order: at least one, which is empty only where the text is
abbrev pub AreBlocks : List (List ℕ) → List ℕ → Type 0
AreBlocks [] text = ⊥
AreBlocks (block ∷ []) text = (text ≡ block) × IsFirstBlock block []
AreBlocks (block ∷ next ∷ more) text =
    (rest : List ℕ) × (text ≡ block ++ rest) × (rest ≢ []) × IsFirstBlock block rest
    × AreBlocks (next ∷ more) rest
