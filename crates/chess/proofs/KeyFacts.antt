-- The key that is made: each man has the bitboard at the place of his number, and each number fits.
use Rattle.chess.proofs.Common.{◌<◌, ◌^◌, ℕ, zero, suc, List, [], ◌∷◌, get_or, arith}
use Rattle.chess.proofs.Common.{Placement, row_of, Side, White, Black, Kind, King, Queen, Rook}
use Rattle.chess.proofs.Common.{Bishop, Knight, Pawn}
use Rattle.chess.specs.Public.Keys.{IsBitboardOfMan}

-- the bitboard is that of the side's men of the kind
abbrev AreOfKind : Placement → Side → Kind → ℕ → Type 0
AreOfKind p side other bitboard = IsBitboardOfMan p (record { side = side; kind = other }) bitboard

-- six bitboards are those of the side's kinds
abbrev pub AreOfSide : Placement → Side → ℕ → ℕ → ℕ → ℕ → ℕ → ℕ → Type 0
AreOfSide p side k q r b n pawn = AreOfKind p side King k × AreOfKind p side Queen q
    × AreOfKind p side Rook r × AreOfKind p side Bishop b × AreOfKind p side Knight n
    × AreOfKind p side Pawn pawn

pub each_man : (p : Placement) (k q r b n pawn k2 q2 r2 b2 n2 pawn2 rest : ℕ)
    → AreOfSide p White k q r b n pawn → AreOfSide p Black k2 q2 r2 b2 n2 pawn2
    → (side : Side) (other : Kind) → AreOfKind p side other
    (get_or (k ∷ q ∷ r ∷ b ∷ n ∷ pawn ∷ k2 ∷ q2 ∷ r2 ∷ b2 ∷ n2 ∷ pawn2 ∷ rest ∷ [])
    (row_of (record { side = side; kind = other })) 0)
each_man p _ _ _ _ _ _ _ _ _ _ _ _ _ white black White King = white.0
each_man p _ _ _ _ _ _ _ _ _ _ _ _ _ white black White Queen = white.1
each_man p _ _ _ _ _ _ _ _ _ _ _ _ _ white black White Rook = white.2
each_man p _ _ _ _ _ _ _ _ _ _ _ _ _ white black White Bishop = white.3
each_man p _ _ _ _ _ _ _ _ _ _ _ _ _ white black White Knight = white.4
each_man p _ _ _ _ _ _ _ _ _ _ _ _ _ white black White Pawn = white.5
each_man p _ _ _ _ _ _ _ _ _ _ _ _ _ white black Black King = black.0
each_man p _ _ _ _ _ _ _ _ _ _ _ _ _ white black Black Queen = black.1
each_man p _ _ _ _ _ _ _ _ _ _ _ _ _ white black Black Rook = black.2
each_man p _ _ _ _ _ _ _ _ _ _ _ _ _ white black Black Bishop = black.3
each_man p _ _ _ _ _ _ _ _ _ _ _ _ _ white black Black Knight = black.4
each_man p _ _ _ _ _ _ _ _ _ _ _ _ _ white black Black Pawn = black.5

-- each of the numbers fits into 64 bits
pub record AreFitting (numbers : List ℕ) : Type 0 where
  pub each : (k : ℕ) → get_or numbers k 0 < 2 ^ 64

none_fits : (k : ℕ) → get_or [] k 0 < 2 ^ 64
none_fits zero = omega arith
none_fits (suc k) = omega arith

pub no_numbers : AreFitting []
no_numbers = record { each = none_fits }

one_more : (number : ℕ) (numbers : List ℕ) → number < 2 ^ 64
    → ((k : ℕ) → get_or numbers k 0 < 2 ^ 64) → (k : ℕ) → get_or (number ∷ numbers) k 0 < 2 ^ 64
one_more number numbers fits others zero = fits
one_more number numbers fits others (suc k) = others k

pub more_numbers : {number : ℕ} {numbers : List ℕ} → number < 2 ^ 64 → AreFitting numbers
    → AreFitting (number ∷ numbers)
more_numbers fits others = record { each = one_more _ _ fits others.each }
