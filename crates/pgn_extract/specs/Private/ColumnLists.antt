-- A list of columns, name by name.
use Rattle.std.specs.Prelude.{◌≡◌, ◌≤◌, ℕ, List, ◌++◌, length}
use Rattle.chess.specs.Public.Fen.{parted_at}
use Rattle.pgn_extract.specs.Public.Columns.{AreDistinct, HaveNames}
use Rattle.pgn_extract.specs.declared.rows.column.Column.{Column}

-- the columns that are read before the rest of a list
pub record HasRead (text rest : List ℕ) (columns : List Column) : Type 0 where
  pub before : List (List ℕ)
  pub parts : parted_at 44 text ≡ before ++ parted_at 44 rest
  pub named : HaveNames before columns
  pub distinct : AreDistinct before
  pub few : length columns ≤ 64
