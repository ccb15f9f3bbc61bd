-- Each man has its own letter.
use Rattle.std.specs.Prelude.{nat_le}
use Rattle.chess.proofs.Common.{◌≡◌, ◌≤◌, ◌-◌, ℕ, sym, ap, refl, ◌∙◌, arith, if◌then◌else◌, ◌==◌}
use Rattle.chess.proofs.Common.{kind_letter, man_letter, Man, Side, White, Black, Kind, King, Queen}
use Rattle.chess.proofs.Common.{Rook, Bishop, Knight, Pawn}

kind_by : ℕ → Kind
kind_by n =
    if n == 75 then King else if n == 81 then Queen else if n == 82 then Rook else if n == 66
    then Bishop else if n == 78 then Knight else Pawn

man_by : ℕ → Man
man_by n = if nat_le n 90 then record { side = White; kind = kind_by n }
    else record { side = Black; kind = kind_by (n - 32) }

man_back : (side : Side) (other : Kind)
    → man_by (man_letter (record { side = side; kind = other }))
    ≡ record { side = side; kind = other }
unfolding man_by kind_by
man_back White King = refl
man_back Black King = refl
man_back _ _ = refl

pub one_man : (a b : Man) → man_letter a ≡ man_letter b → a ≡ b
one_man a b e = sym (man_back a.side a.kind) ∙ ap man_by e ∙ man_back b.side b.kind

-- letters stand after the digits
kind_high : (other : Kind) → 57 ≤ kind_letter other
kind_high King = omega arith
kind_high _ = omega arith

pub letter_high : (side : Side) (other : Kind)
    → 57 ≤ man_letter (record { side = side; kind = other })
letter_high White other = kind_high other
letter_high Black other = let high = kind_high other in omega arith
