-- One step of a bitboard is the next square on its way, or none: computed for each square and way.
use Rattle.chess.proofs.Common.{◌≡◌, ◌<◌, ◌-◌, ◌^◌, ◌%◌, ◌/◌, ℕ, Bool, true, false, nat_eq, inl}
use Rattle.chess.proofs.Common.{inr, ap, refl, sym, ◌∙◌, arith, if◌then◌else◌, agree_below}
use Rattle.chess.proofs.Common.{agree_below_at, eqb-true, false≢true, Place, IsOnBoard, index_of}
use Rattle.chess.proofs.Common.{index_of-below, square_bitboard, step_bitboard, IsNextBitboard}
use Rattle.chess.proofs.Common.{Direction, North}
use Rattle.chess.proofs.AxisSteps.{has_room, place_to, ahead_at, room_from, room_to, room_at}
use Rattle.chess.proofs.AxisSteps.{ahead_index}

fits_step : Direction → ℕ → Bool
fits_step way n =
    nat_eq (step_bitboard way (2 ^ n)) (if has_room way (n % 8) (n / 8) 1 then 2 ^ ahead_at way n 1
    else 0)

steps_fit : (way : Direction) → agree_below (fits_step way) (λ _. true) 64 ≡ true
unfolding fits_step
steps_fit North = refl
steps_fit way = refl

step_at : (way : Direction) (n : ℕ) → n < 64
    → step_bitboard way (2 ^ n)
    ≡ (if has_room way (n % 8) (n / 8) 1 then 2 ^ ahead_at way n 1 else 0)
unfolding fits_step
step_at way n h = eqb-true _ _ (agree_below_at (fits_step way) (λ _. true) 64 n (steps_fit way) h)

-- a step from the bitboard of a square
step_square : (way : Direction) (s : Place) → IsOnBoard s
    → step_bitboard way (square_bitboard s)
    ≡ (if has_room way (s.file - 1) (s.rank - 1) 1 then 2 ^ ahead_at way (index_of s) 1 else 0)
step_square way s h =
    step_at way (index_of s) (index_of-below s h)
    ∙ ap (λ b. if b then 2 ^ ahead_at way (index_of s) 1 else 0) (room_at way 1 s h)

next_bitboard : (way : Direction) (s : Place) → IsOnBoard s → (b : Bool)
    → has_room way (s.file - 1) (s.rank - 1) 1 ≡ b
    → (w : ℕ) → w ≡ (if b then 2 ^ ahead_at way (index_of s) 1 else 0) → IsNextBitboard way s w
next_bitboard way s h true e w is =
    let next = room_to way 1 1 s (omega arith) h e in
    inl (
      place_to way 1 s,
      next.0,
      next.1,
      is
          ∙ ap (λ n. 2 ^ n) (sym (ahead_index way 1 s (place_to way 1 s) h next.0 next.1)),
    )
next_bitboard way s h false e w is =
    inr ((λ t on ahead. false≢true (sym e ∙ room_from way 1 s t h on ahead)), is)

pub step_next : (way : Direction) (bitboard : ℕ) (s : Place) → IsOnBoard s
    → bitboard ≡ square_bitboard s
    → IsNextBitboard way s (step_bitboard way bitboard)
step_next way bitboard s h e =
    next_bitboard way s h (has_room way (s.file - 1) (s.rank - 1) 1) refl
    (step_bitboard way bitboard)
    (ap (step_bitboard way) e ∙ step_square way s h)

-- the same where the way is known by an equation
pub step_by : (way other : Direction) (bitboard : ℕ) (s : Place) → way ≡ other → IsOnBoard s
    → bitboard ≡ square_bitboard s → IsNextBitboard way s (step_bitboard other bitboard)
step_by way other bitboard s e h at =
    rw (← e) (step_next way bitboard s h at)
