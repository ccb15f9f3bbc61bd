-- What a `Blocks` keeps of the bytes that it holds.
use Rattle.std.specs.Prelude.{ℕ, ◌+◌, ◌-◌, ◌≤◌, List, length}
use Rattle.pgn_text.specs.Public.Limits.{largest_offset, window_limit}

-- the place is within the bytes held, which are no more than the window's, and those ahead reach no
-- further than the largest offset
pub record IsOccupiedBy (held : List ℕ) (at place : ℕ) : Type 0 where
  pub within : at ≤ length held
  pub bound : length held ≤ window_limit
  pub room : place + (length held - at) ≤ largest_offset
