-- Facts about squares and their places in order.
use Rattle.std.proofs.Common.{◌≡◌, ℕ, ◌<◌, arith}
use Rattle.chess.specs.Public.Squares.{square_at, index_of}

pub index_of-square_at : (n : ℕ) → n < 64 → index_of (square_at n) ≡ n
index_of-square_at n h = omega arith
