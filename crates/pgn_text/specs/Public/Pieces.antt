-- A block parted into gaps and games, up to its end or to bytes that are no game.
use Rattle.std.specs.Prelude.{◌≡◌, ◌≢◌, ℕ, Bool, List, [], ◌∷◌, ◌++◌, length}
use Rattle.pgn_text.specs.Public.Parts.{Part, spelled}
use Rattle.pgn_text.specs.Public.Games.{IsGame}
use Rattle.pgn_text.specs.Public.Gaps.{IsLongestGap}

-- no front of the text is a game
abbrev pub NoGame : ℕ → Bool → List ℕ → List ℕ → Type 0
NoGame max_depth file_start before text =
    (parts : List Part) (after : List ℕ) → text ≡ spelled parts ++ after
    → IsGame max_depth file_start before parts after → ⊥

-- a piece of a block, with its place in the block
pub data Piece : Type 0 where
  -- a game, with its parts
  Game : ℕ → List Part → Piece
  -- bytes that are none, to the block's end
  Unreadable : ℕ → List ℕ → Piece

-- the pieces of the text that follows `before` in a block: a longest gap, a game, a longest gap, a
-- game and so on. After the last longest gap the block ends, or no front of what is left is a game;
-- that is then one unreadable piece to the block's end
abbrev pub ArePieces : ℕ → Bool → List ℕ → List Piece → List ℕ → Type 0
ArePieces max_depth file_start before [] text =
    (gap : List Part) × (text ≡ spelled gap) × IsLongestGap file_start before gap []
ArePieces max_depth file_start before (Game at parts ∷ more) text =
    (gap : List Part) × (after : List ℕ) × (text ≡ spelled gap ++ (spelled parts ++ after))
    × IsLongestGap file_start before gap (spelled parts ++ after)
    × (at ≡ length (before ++ spelled gap))
    × IsGame max_depth file_start (before ++ spelled gap) parts after
    × ArePieces max_depth file_start ((before ++ spelled gap) ++ spelled parts) more after
ArePieces max_depth file_start before (Unreadable at bytes ∷ more) text =
    (gap : List Part) × (text ≡ spelled gap ++ bytes)
    × IsLongestGap file_start before gap bytes
    × (at ≡ length (before ++ spelled gap))
    × (bytes ≢ [])
    × NoGame max_depth file_start (before ++ spelled gap) bytes
    × (more ≡ [])
