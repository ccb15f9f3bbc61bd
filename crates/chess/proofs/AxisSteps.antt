-- A way as two steps, one of the file and one of the rank, each of them up, down or none: what
-- holds of each step holds of the way.
use Rattle.std.proofs.Math.Dec.{leb}
use Rattle.std.proofs.lemmas.Bool.{and_parts, and_from, ltb-true, lt-ltb, leb-true, le-leb}
use Rattle.chess.proofs.Common.{◌≡◌, ◌⊎◌, ◌≤◌, ◌+◌, ◌-◌, ◌*◌, ◌/◌, ◌%◌, ◌&&◌, ℕ, Bool, true, max}
use Rattle.chess.proofs.Common.{refl, inl, inr, sym, ap, ap₂, ◌∙◌, arith, ltb, Place, IsOnBoard}
use Rattle.chess.proofs.Common.{IsStraight, IsAhead, index_of, gap, Direction, North, South, East}
use Rattle.chess.proofs.Common.{West, NorthEast, NorthWest, SouthEast, SouthWest}
use Rattle.chess.proofs.PlaceFacts.{place_of}

-- how a file or a rank goes on along a way
pub data Axis : Type 0 where
  Up : Axis
  Level : Axis
  Down : Axis

abbrev pub file_step : Direction → Axis
file_step North = Level
file_step South = Level
file_step East = Up
file_step West = Down
file_step NorthEast = Up
file_step NorthWest = Down
file_step SouthEast = Up
file_step SouthWest = Down

abbrev pub rank_step : Direction → Axis
rank_step North = Up
rank_step South = Down
rank_step East = Level
rank_step West = Level
rank_step NorthEast = Up
rank_step NorthWest = Up
rank_step SouthEast = Down
rank_step SouthWest = Down

-- the way with two steps
abbrev pub way_of : Axis → Axis → Direction
way_of Up Up = NorthEast
way_of Up Level = East
way_of Up Down = SouthEast
way_of Level Up = North
way_of Level y = South
way_of Down Up = NorthWest
way_of Down Level = West
way_of Down Down = SouthWest

-- the first clause has antt go through the ways, and the second is checked of each of the other
-- seven
pub way_back : (way : Direction) → way_of (file_step way) (rank_step way) ≡ way
way_back North = refl
way_back way = refl

-- b is k steps from a
abbrev pub IsAxisAhead : Axis → ℕ → ℕ → ℕ → Type 0
IsAxisAhead Up k a b = b ≡ a + k
IsAxisAhead Level k a b = b ≡ a
IsAxisAhead Down k a b = b + k ≡ a

abbrev pub IsAheadBy : Axis → Axis → ℕ → Place → Place → Type 0
IsAheadBy x y k s t = IsAxisAhead x k s.file t.file × IsAxisAhead y k s.rank t.rank

pub to_axes : (way : Direction) (k : ℕ) (s t : Place) → IsAhead way k s t
    → IsAheadBy (file_step way) (rank_step way) k s t
to_axes North k s t a = a
to_axes way k s t a = a

pub of_axes : (way : Direction) (k : ℕ) (s t : Place)
    → IsAheadBy (file_step way) (rank_step way) k s t → IsAhead way k s t
of_axes North k s t a = a
of_axes way k s t a = a

-- ---- steps that are taken, and steps that are left

axis_one : (x : Axis) (k a b c : ℕ) → IsAxisAhead x k a b → IsAxisAhead x k a c → b ≡ c
axis_one Up k a b c e f = omega arith
axis_one _ k a b c e f = omega arith

axis_none : (x : Axis) (a : ℕ) → IsAxisAhead x 0 a a
axis_none Up a = omega arith
axis_none Level a = refl
axis_none Down a = omega arith

axis_more : (x : Axis) (j k a b c : ℕ) → IsAxisAhead x j a b → IsAxisAhead x k b c
    → IsAxisAhead x (j + k) a c
axis_more Up j k a b c e f = omega arith
axis_more _ j k a b c e f = omega arith

axis_rest : (x : Axis) (j k a b c : ℕ) → IsAxisAhead x j a b → IsAxisAhead x (j + k) a c
    → IsAxisAhead x k b c
axis_rest Up j k a b c e f = omega arith
axis_rest _ j k a b c e f = omega arith

-- a square is the only one so many steps ahead
pub one_ahead : (way : Direction) (k : ℕ) (s t u : Place) → IsAhead way k s t → IsAhead way k s u
    → t ≡ u
one_ahead way k s t u a b =
    let by = to_axes way k s t a in let too = to_axes way k s u b in
    place_of t u (axis_one (file_step way) k s.file t.file u.file by.0 too.0)
    (axis_one (rank_step way) k s.rank t.rank u.rank by.1 too.1)

-- no step leads to the square itself
pub itself : (way : Direction) (s : Place) → IsAhead way 0 s s
itself way s =
    of_axes way 0 s s (axis_none (file_step way) s.file, axis_none (rank_step way) s.rank)

-- steps follow on one another
pub ahead_more : (way : Direction) (j k : ℕ) (s u t : Place) → IsAhead way j s u → IsAhead way k u t
    → IsAhead way (j + k) s t
ahead_more way j k s u t a b =
    let by = to_axes way j s u a in let then = to_axes way k u t b in
    of_axes way (j + k) s t (
      axis_more (file_step way) j k s.file u.file t.file by.0 then.0,
      axis_more (rank_step way) j k s.rank u.rank t.rank by.1 then.1,
    )

-- what is left of the steps leads from the one square to the other
pub ahead_rest : (way : Direction) (j k : ℕ) (s u t : Place) → IsAhead way j s u
    → IsAhead way (j + k) s t → IsAhead way k u t
ahead_rest way j k s u t a b =
    let by = to_axes way j s u a in let all = to_axes way (j + k) s t b in
    of_axes way k u t (
      axis_rest (file_step way) j k s.file u.file t.file by.0 all.0,
      axis_rest (rank_step way) j k s.rank u.rank t.rank by.1 all.1,
    )

-- ---- squares of the board

-- a file or a rank of the board
abbrev pub IsFileOrRank : ℕ → Type 0
IsFileOrRank n = (1 ≤ n) × (n ≤ 8)

pub file_within : (s : Place) → IsOnBoard s → IsFileOrRank s.file
file_within s on = (on.file_low, on.file_high)

pub rank_within : (s : Place) → IsOnBoard s → IsFileOrRank s.rank
rank_within s on = (on.rank_low, on.rank_high)

-- where k steps lead
abbrev pub axis_to : Axis → ℕ → ℕ → ℕ
axis_to Up k a = a + k
axis_to Level k a = a
axis_to Down k a = a - k

abbrev pub place_to : Direction → ℕ → Place → Place
place_to way k s =
    record { file = axis_to (file_step way) k s.file; rank = axis_to (rank_step way) k s.rank }

-- k steps lead to a square of the board, from a file and a rank counted from 0
abbrev pub axis_room : Axis → ℕ → ℕ → Bool
axis_room Up n k = ltb (n + k) 8
axis_room Level n k = true
axis_room Down n k = leb k n

abbrev pub has_room : Direction → ℕ → ℕ → ℕ → Bool
has_room way file rank k = axis_room (file_step way) file k && axis_room (rank_step way) rank k

axis_room_from : (x : Axis) (k a b : ℕ) → IsFileOrRank a → IsFileOrRank b → IsAxisAhead x k a b
    → axis_room x (a - 1) k ≡ true
axis_room_from Up k a b p q e = lt-ltb ((a - 1) + k) 8 (omega (arith, p.0, q.1))
axis_room_from Level k a b p q e = refl
axis_room_from Down k a b p q e = le-leb k (a - 1) (omega (arith, q.0))

axis_room_to : (x : Axis) (j k a : ℕ) → j ≤ k → IsFileOrRank a → axis_room x (a - 1) k ≡ true
    → IsFileOrRank (axis_to x j a) × IsAxisAhead x j a (axis_to x j a)
axis_room_to Up j k a less p e = let n = ltb-true ((a - 1) + k) 8 e in
    ((omega (arith, p.0), omega arith), refl)
axis_room_to Level j k a less p e = (p, refl)
axis_room_to Down j k a less p e = let n = leb-true k (a - 1) e in
    ((omega (arith, p.0), omega (arith, p.1)), omega (arith, p.0))

pub room_from : (way : Direction) (k : ℕ) (s t : Place) → IsOnBoard s → IsOnBoard t
    → IsAhead way k s t → has_room way (s.file - 1) (s.rank - 1) k ≡ true
room_from way k s t on on_t a =
    let by = to_axes way k s t a in
    and_from (axis_room (file_step way) (s.file - 1) k) (axis_room (rank_step way) (s.rank - 1) k)
    (axis_room_from (file_step way) k s.file t.file (file_within s on) (file_within t on_t) by.0)
    (axis_room_from (rank_step way) k s.rank t.rank (rank_within s on) (rank_within t on_t) by.1)

pub room_to : (way : Direction) (j k : ℕ) (s : Place) → j ≤ k → IsOnBoard s
    → has_room way (s.file - 1) (s.rank - 1) k ≡ true
    → IsOnBoard (place_to way j s) × IsAhead way j s (place_to way j s)
room_to way j k s less on e =
    let room =
    and_parts (axis_room (file_step way) (s.file - 1) k)
    (axis_room (rank_step way) (s.rank - 1) k) e in
    let f = axis_room_to (file_step way) j k s.file less (file_within s on) room.0 in
    let r = axis_room_to (rank_step way) j k s.rank less (rank_within s on) room.1 in (
      record { file_low = f.0.0; file_high = f.0.1; rank_low = r.0.0; rank_high = r.0.1 },
      of_axes way j s (place_to way j s) (f.1, r.1),
    )

pub file_of : (s : Place) → IsOnBoard s → index_of s % 8 ≡ s.file - 1
file_of s on = omega (arith, on.file_low, on.file_high, on.rank_low)

pub rank_of : (s : Place) → IsOnBoard s → index_of s / 8 ≡ s.rank - 1
rank_of s on = omega (arith, on.file_low, on.file_high, on.rank_low)

-- the same of the square's place
pub room_at : (way : Direction) (k : ℕ) (s : Place) → IsOnBoard s
    → has_room way (index_of s % 8) (index_of s / 8) k ≡ has_room way (s.file - 1) (s.rank - 1) k
room_at way k s on = ap₂ (λ f r. has_room way f r k) (file_of s on) (rank_of s on)

-- between a square of the board and one ahead of it there is one at each number of steps
pub between_ahead : (way : Direction) (j k : ℕ) (s t : Place) → j ≤ k → IsOnBoard s → IsOnBoard t
    → IsAhead way k s t
    → (u : Place) × IsOnBoard u × IsAhead way j s u
between_ahead way j k s t less on on_t a =
    let there = room_to way j k s less on (room_from way k s t on on_t a) in
    (place_to way j s, there.0, there.1)

-- the place of the square k steps ahead of the nth
abbrev pub ahead_at : Direction → ℕ → ℕ → ℕ
ahead_at way n k = axis_to (file_step way) k (axis_to (rank_step way) (8 * k) n)

file_index : (x : Axis) (m k a b : ℕ) → 1 ≤ a → 1 ≤ b → IsAxisAhead x k a b
    → axis_to x k (m + (a - 1)) ≡ m + (b - 1)
file_index Up m k a b p q e = omega arith
file_index _ m k a b p q e = omega arith

rank_index : (x : Axis) (m k a b : ℕ) → 1 ≤ a → 1 ≤ b → IsAxisAhead x k a b
    → axis_to x (8 * k) (8 * (a - 1) + m) ≡ 8 * (b - 1) + m
rank_index Up m k a b p q e = omega arith
rank_index _ m k a b p q e = omega arith

pub ahead_index : (way : Direction) (k : ℕ) (s t : Place) → IsOnBoard s → IsOnBoard t
    → IsAhead way k s t → index_of t ≡ ahead_at way (index_of s) k
ahead_index way k s t on on_t a =
    let by = to_axes way k s t a in
    sym
    (ap (axis_to (file_step way) k)
    (rank_index (rank_step way) (s.file - 1) k s.rank t.rank on.rank_low on_t.rank_low by.1)
    ∙ file_index (file_step way) (8 * (t.rank - 1)) k s.file t.file on.file_low on_t.file_low by.0)

-- ---- how many steps

-- how far k steps lead
abbrev axis_reach : Axis → ℕ → ℕ
axis_reach Up k = k
axis_reach Level k = 0
axis_reach Down k = k

axis_gap : (x : Axis) (k a b : ℕ) → IsAxisAhead x k a b → gap a b ≡ axis_reach x k
axis_gap Up k a b e = omega arith
axis_gap _ k a b e = omega arith

most_reach : (way : Direction) (k : ℕ)
    → max (axis_reach (file_step way) k) (axis_reach (rank_step way) k) ≡ k
most_reach North k = omega arith
most_reach way k = omega arith

-- the steps are the larger of the two gaps
pub steps_gap : (way : Direction) (k : ℕ) (s t : Place) → IsAhead way k s t
    → max (gap s.file t.file) (gap s.rank t.rank) ≡ k
steps_gap way k s t a =
    let by = to_axes way k s t a in
    ap₂ max (axis_gap (file_step way) k s.file t.file by.0)
    (axis_gap (rank_step way) k s.rank t.rank by.1) ∙ most_reach way k

-- and where there are two, they are one
axis_far : (x : Axis) (k a b : ℕ) → IsAxisAhead x k a b → 1 ≤ gap a b → gap a b ≡ k
axis_far Up k a b e far = omega arith
axis_far Level k a b e far = absurd (omega arith)
axis_far Down k a b e far = omega arith

pub even_gaps : (way : Direction) (k : ℕ) (s t : Place) → IsAhead way k s t → 1 ≤ gap s.file t.file
    → 1 ≤ gap s.rank t.rank
    → gap s.file t.file ≡ gap s.rank t.rank
even_gaps way k s t a wide high =
    let by = to_axes way k s t a in
    axis_far (file_step way) k s.file t.file by.0 wide
    ∙ sym (axis_far (rank_step way) k s.rank t.rank by.1 high)

-- a square is so many steps ahead for one number of steps only
pub one_count : (way : Direction) (j k : ℕ) (s t : Place) → IsAhead way j s t → IsAhead way k s t
    → j ≡ k
one_count way j k s t a b = sym (steps_gap way j s t a) ∙ steps_gap way k s t b

-- no square of the board is more than seven steps from another
pub seven_steps : (way : Direction) (k : ℕ) (s t : Place) → IsOnBoard s → IsOnBoard t
    → IsAhead way k s t → k ≤ 7
seven_steps way k s t on on_t a =
    let most = steps_gap way k s t a in
    let wide = gap_low s.file t.file (file_within s on) (file_within t on_t) in
    let high = gap_low s.rank t.rank (rank_within s on) (rank_within t on_t) in
    omega arith
  where
    gap_low : (a b : ℕ) → IsFileOrRank a → IsFileOrRank b → gap a b ≤ 7
    gap_low a b p q = omega (arith, p.0, p.1, q.0, q.1)

-- ---- straight ways and diagonal ones

abbrev pub IsMoving : Axis → Type 0
IsMoving Up = Unit {0}
IsMoving Level = ⊥
IsMoving Down = Unit {0}

-- one step of a straight way moves, and both of a diagonal one
pub steps_of : (way : Direction)
    → (IsStraight way
    × (((IsMoving (file_step way) → ⊥) × IsMoving (rank_step way))
    ⊎ (IsMoving (file_step way) × (IsMoving (rank_step way) → ⊥))))
    ⊎ ((¬ IsStraight way) × IsMoving (file_step way) × IsMoving (rank_step way))
steps_of North = inl (tt, inl ((λ i. i), tt))
steps_of South = inl (tt, inl ((λ i. i), tt))
steps_of East = inl (tt, inr (tt, (λ i. i)))
steps_of West = inl (tt, inr (tt, (λ i. i)))
steps_of way = inr ((λ i. i), tt, tt)

pub straight_or_not : (way : Direction) → IsStraight way ⊎ (¬ IsStraight way)
straight_or_not way = elim (steps_of way) [ inl h ↦ inl h.0 | inr h ↦ inr h.0 ]

pub axis_level : (x : Axis) (k a b : ℕ) → (IsMoving x → ⊥) → IsAxisAhead x k a b → a ≡ b
axis_level Level k a b still e = sym e
axis_level x k a b still e = absurd (still tt)

pub axis_apart : (x : Axis) (k a b : ℕ) → IsMoving x → 1 ≤ k → IsAxisAhead x k a b → a ≡ b → ⊥
axis_apart Up k a b moves far e same = omega arith
axis_apart Level k a b moves far e same = moves
axis_apart Down k a b moves far e same = omega arith

-- one way leads to a square
axis_same : (x y : Axis) (k m a b : ℕ) → 1 ≤ k → 1 ≤ m → IsAxisAhead x k a b → IsAxisAhead y m a b
    → x ≡ y
axis_same Up Up k m a b p q e f = refl
axis_same Level Level k m a b p q e f = refl
axis_same Down Down k m a b p q e f = refl
axis_same x y k m a b p q e f = absurd (omega arith)

pub one_way : (way other : Direction) (k m : ℕ) (s t : Place) → 1 ≤ k → 1 ≤ m → IsAhead way k s t
    → IsAhead other m s t → way ≡ other
one_way way other k m s t p q a b =
    let by = to_axes way k s t a in let too = to_axes other m s t b in
    sym (way_back way)
    ∙ ap₂ way_of (axis_same (file_step way) (file_step other) k m s.file t.file p q by.0 too.0)
    (axis_same (rank_step way) (rank_step other) k m s.rank t.rank p q by.1 too.1)
    ∙ way_back other
