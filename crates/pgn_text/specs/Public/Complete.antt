-- What stands of a text whose reading was broken off: the last of the blocks that it shows may go
-- on.
use Rattle.std.specs.Prelude.{ℕ, List, [], ◌∷◌, ◌++◌}
use Rattle.pgn_text.specs.Public.Blocks.{AreBlocks}
use Rattle.pgn_text.specs.Public.Marks.{MarkedPiece, AreOfBlocks}

-- the complete blocks of a text: all but the last
pub record AreCompleteBlocks (blocks : List (List ℕ)) (text : List ℕ) : Type 0 where
  pub last : List ℕ
  pub parted : AreBlocks (blocks ++ last ∷ []) text

-- the pieces of the complete blocks of a text that begins at the offset
pub record AreCompletePieces (limit max_depth offset : ℕ) (text : List ℕ)
    (marks : List MarkedPiece) : Type 0 where
  pub blocks : List (List ℕ)
  pub complete : AreCompleteBlocks blocks text
  pub each : AreOfBlocks limit max_depth offset blocks marks
