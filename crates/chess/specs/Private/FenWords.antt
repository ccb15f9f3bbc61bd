-- What the reader of Forsyth-Edwards notation knows on its way.
use Rattle.std.specs.Prelude.{◌≡◌, ◌⊎◌, ℕ, ◌+◌, ◌≤◌, ◌<◌, List, ◌++◌, length, get_or, replicate}
use Rattle.std.specs.Prelude.{Option, Some, None}
use Rattle.chess.specs.Public.Squares.{Place}
use Rattle.chess.specs.Public.Placements.{Placement, man_at}
use Rattle.chess.specs.Public.Positions.{pawn_of}
use Rattle.chess.specs.Public.Fen.{IsSquares, SpellsRank}
use Rattle.chess.specs.declared.board.man.Man.{Man}
use Rattle.chess.specs.declared.board.man.Side.{Side}

-- the byte spells so many squares, each with that man or none, and nothing else
pub record IsByteOf (b : ℕ) (man : Option Man) (count : ℕ) : Type 0 where
  pub spelled : IsSquares b (replicate count man)
  pub only : (own : List (Option Man)) → IsSquares b own → own ≡ replicate count man
  pub some : 1 ≤ count
  pub few : count ≤ 8
  pub one : (man ≡ None) ⊎ (count ≡ 1)

-- the first squares of a row are spelled, the others hold no man yet, and the rest of the text is
-- still to be read
pub record IsRow (squares : List (Option Man)) (file : ℕ) (rest text : List ℕ) : Type 0 where
  pub done : List (Option Man)
  pub size : length done ≡ file
  pub small : file ≤ 8
  pub full : length squares ≡ 8
  pub shown : (k : ℕ) → get_or squares k None ≡ get_or done k None
  pub onward : (more : List (Option Man)) → SpellsRank rest more → SpellsRank text (done ++ more)
  pub back : (all : List (Option Man)) → SpellsRank text all
      → (more : List (Option Man)) × SpellsRank rest more × (all ≡ done ++ more)

-- a pawn stands on a square of the first or the last rank
abbrev pub IsEdgePawn : Placement → Place → Type 0
IsEdgePawn p s = ((side : Side) × (man_at p s ≡ Some (pawn_of side)))
    × ((s.rank ≡ 1) ⊎ (s.rank ≡ 8))

-- the first men of a row stand on their squares of the rank, and the other ranks are as they were
pub record IsPutUpTo (old new : Placement) (squares : List (Option Man)) (r n : ℕ) : Type 0 where
  pub put : (k : ℕ) → k < n → man_at new (record { file = k + 1; rank = r }) ≡ get_or squares k None
  pub others : (s : Place) → (s.rank ≡ r → ⊥) → man_at new s ≡ man_at old s
