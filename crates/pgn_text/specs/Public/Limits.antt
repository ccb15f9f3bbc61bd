-- The limits of texts. Every definition takes those of blocks and of nesting as values; contracts
-- name them by these words.
use Rattle.std.specs.Prelude.{ℕ, ◌+◌, ◌^◌}

-- the most bytes that a block may have and still be read
abbrev pub block_limit : ℕ
block_limit = 16777216

-- the most bytes that are held at once: a block, and what one read gives
abbrev pub window_limit : ℕ
window_limit = block_limit + 8192

-- how many variations may be open at once
abbrev pub depth_limit : ℕ
depth_limit = 255

-- the largest offset that a text may reach
abbrev pub largest_offset : ℕ
largest_offset = 2 ^ 62
