-- A placement given square by square, as a board holds it.
use Rattle.std.specs.Prelude.{ℕ, List, Option, None, get_or}
use Rattle.chess.specs.Public.Placements.{Placement, men_of}
use Rattle.chess.specs.declared.board.man.Man.{Man}

-- the men that 64 cells hold
abbrev pub cell_of : List (Option Man) → ℕ → Option Man
cell_of cells n = get_or cells n None

abbrev pub cells_men : List (Option Man) → Placement
cells_men cells = men_of (cell_of cells)
