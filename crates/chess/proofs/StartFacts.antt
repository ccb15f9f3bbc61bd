-- The initial position is sound.
use Rattle.chess.proofs.Common.{◌≡◌, ◌≢◌, ◌≤◌, ◌+◌, ◌-◌, ◌/◌, ◌&&◌, ◌||◌, ℕ, suc, Bool, true, false}
use Rattle.chess.proofs.Common.{not, inl, inr, ap, refl, sym, subst, ◌∙◌, arith, Option, Some, None}
use Rattle.chess.proofs.Common.{if◌then◌else◌, ◌==◌, agree_below, agree_below_at, eqb-true}
use Rattle.chess.proofs.Common.{nat_tests, Place, IsOnBoard, square_at, index_of, IsAhead}
use Rattle.chess.proofs.Common.{square_at-index_of, index_of-below, Reaches, IsOnRay, IsAttacked}
use Rattle.chess.proofs.Common.{man_at-men_of, on_board-men_of, king_of, rook_of, pawn_of}
use Rattle.chess.proofs.Common.{king_from, rook_from, IsOnlyKing, IsCheck, IsKept, initial_piece}
use Rattle.chess.proofs.Common.{initial_man, initial_men, initial, Direction, North, NorthEast}
use Rattle.chess.proofs.Common.{NorthWest, Man, Side, White, Black, Kind, King, Queen, Rook, Bishop}
use Rattle.chess.proofs.Common.{Knight, Pawn, Wing, KingSide, QueenSide}
use Rattle.chess.specs.Public.Placements.{first_men, no_men, with_man, man_at, IsEmpty}
use Rattle.chess.proofs.PlaceFacts.{some_not_none, same_kind}

-- who stands on a square of the board
pub initial_at : (s : Place) → IsOnBoard s → man_at initial_men s ≡ initial_man s
initial_at s on = man_at-men_of (λ n. initial_man (square_at n)) s on
    ∙ ap initial_man (square_at-index_of s on)

pub initial_on : (s : Place) (man : Man) → man_at initial_men s ≡ Some man → IsOnBoard s
initial_on s man here = on_board-men_of (λ n. initial_man (square_at n)) s man here

-- ---- kings, by tables over the 64 squares

abbrev is_king : Kind → Bool
is_king King = true
is_king Queen = false
is_king Rook = false
is_king Bishop = false
is_king Knight = false
is_king Pawn = false

abbrev is_white : Side → Bool
is_white White = true
is_white Black = false

abbrev is_white_king : Option Man → Bool
is_white_king None = false
is_white_king (Some man) = is_white man.side && is_king man.kind

abbrev is_black_king : Option Man → Bool
is_black_king None = false
is_black_king (Some man) = not (is_white man.side) && is_king man.kind

abbrev is_white_man : Option Man → Bool
is_white_man None = false
is_white_man (Some man) = is_white man.side

abbrev is_low : ℕ → Bool
is_low n = (n / 8 == 0) || (n / 8 == 1)

white_kings : agree_below (λ n. is_white_king (initial_man (square_at n))) (λ n. n == 4) 64 ≡ true
white_kings = refl

black_kings : agree_below (λ n. is_black_king (initial_man (square_at n))) (λ n. n == 60) 64 ≡ true
black_kings = refl

white_men : agree_below (λ n. is_white_man (initial_man (square_at n))) is_low 64 ≡ true
white_men = refl

low_number : (n : ℕ) → is_low n ≡ true → n / 8 ≤ 1
low_number n e = grind (arith, nat_tests)

-- a square on which such a man stands has its place in the table
place_by : (test : Option Man → Bool) (table : ℕ → Bool)
    → agree_below (λ n. test (initial_man (square_at n))) table 64 ≡ true → (s : Place) (man : Man)
    → man_at initial_men s ≡ Some man → test (Some man) ≡ true → table (index_of s) ≡ true
place_by test table all s man here passes =
    let on = initial_on s man here in
    sym (agree_below_at (λ n. test (initial_man (square_at n))) table 64 (index_of s) all
    (index_of-below s on))
    ∙ ap (λ (t : Place). test (initial_man t)) (square_at-index_of s on)
    ∙ ap test (sym (initial_at s on)) ∙ ap test here ∙ passes

only_king : (side : Side) (n : ℕ) (s t : Place) → square_at n ≡ s
    → (man_at initial_men t ≡ Some (king_of side) → (index_of t == n) ≡ true)
    → man_at initial_men t ≡ Some (king_of side) → t ≡ s
only_king side n s t e table here =
    sym (square_at-index_of t (initial_on t (king_of side) here))
    ∙ ap square_at (eqb-true (index_of t) n (table here)) ∙ e

e1 : IsOnBoard (king_from White)
e1 = record {
  file_low = omega arith;
  file_high = omega arith;
  rank_low = omega arith;
  rank_high =
      omega arith;
}

e8 : IsOnBoard (king_from Black)
e8 = record {
  file_low = omega arith;
  file_high = omega arith;
  rank_low = omega arith;
  rank_high =
      omega arith;
}

pub white_king : IsOnlyKing initial_men White (king_from White)
white_king = record {
  here = initial_at (king_from White) e1;
  only = λ t here. only_king White 4 (king_from White) t refl
      (λ h. place_by is_white_king (λ n. n == 4) white_kings t (king_of White) h refl) here;
}

pub black_king : IsOnlyKing initial_men Black (king_from Black)
black_king = record {
  here = initial_at (king_from Black) e8;
  only = λ t here. only_king Black 60 (king_from Black) t refl
      (λ h. place_by is_black_king (λ n. n == 60) black_kings t (king_of Black) h refl) here;
}

initial_king : (side : Side) → (s : Place) × IsOnlyKing initial_men side s
initial_king White = (king_from White, white_king)
initial_king Black = (king_from Black, black_king)

-- ---- pawns

not_pawn : (a b c d : Bool)
    → (if a then Rook else if b then Knight else if c then Bishop else if d then Queen else King)
    ≡ Pawn → ⊥
not_pawn true b c d e = let f : Rook ≡ Pawn = e in cc
not_pawn false true c d e = let f : Knight ≡ Pawn = e in cc
not_pawn false false true d e = let f : Bishop ≡ Pawn = e in cc
not_pawn false false false true e = let f : Queen ≡ Pawn = e in cc
not_pawn false false false false e = let f : King ≡ Pawn = e in cc

piece_not_pawn : (side other : Side) (file : ℕ)
    → Some (record { side = side; kind = initial_piece file }) ≡ Some (pawn_of other) → ⊥
piece_not_pawn side other file e =
    not_pawn ((file == 1) || (file == 8)) ((file == 2) || (file == 7)) ((file == 3)
    || (file == 6)) (file == 4)
    (same_kind (record { side = side; kind = initial_piece file }) (pawn_of other) e)

on_rank : (s : Place) (n : ℕ) → s.rank ≡ n → s ≡ record { file = s.file; rank = n }
on_rank s n e = λ i. record { file = s.file; rank = e i }

initial_pawns : (side : Side) (s : Place) → man_at initial_men s ≡ Some (pawn_of side)
    → (s.rank ≢ 1) × (s.rank ≢ 8)
initial_pawns side s here =
    let there = sym (initial_at s (initial_on s (pawn_of side) here)) ∙ here in (
      (λ e. piece_not_pawn White side s.file (ap initial_man (sym (on_rank s 1 e)) ∙ there)),
      (λ e. piece_not_pawn Black side s.file (ap initial_man (sym (on_rank s 8 e)) ∙ there)),
    )

-- ---- no man of White attacks e8: each is on the first two ranks, and the seventh is full

seventh : (file : ℕ) → 1 ≤ file → file ≤ 8
    → man_at initial_men (record { file = file; rank = 7 }) ≡ Some (pawn_of Black)
seventh file low high =
    initial_at (record { file = file; rank = 7 })
    (record {
      file_low = low;
      file_high = high;
      rank_low = omega arith;
      rank_high =
          omega arith;
    })

blocked : (file : ℕ) → 1 ≤ file → file ≤ 8 → IsEmpty initial_men (record { file = file; rank = 7 })
    → ⊥
blocked file low high empty =
    some_not_none (man_at initial_men (record { file = file; rank = 7 })) (pawn_of Black) empty
    (seventh file low high)

on_seventh : (file : ℕ) → 1 ≤ file → file ≤ 8 → IsOnBoard (record { file = file; rank = 7 })
on_seventh file low high =
    record { file_low = low; file_high = high; rank_low = omega arith; rank_high = omega arith }

ray_blocked : (way : Direction) (s : Place) (file : ℕ) → 1 ≤ file → file ≤ 8
    → (ray : IsOnRay initial_men way s (king_from Black)) → 2 ≤ ray.steps
    → IsAhead way (ray.steps - 1) s (record { file = file; rank = 7 }) → ⊥
ray_blocked way s file low high ray far a =
    blocked file low high
    (ray.clear (ray.steps - 1) (record { file = file; rank = 7 }) (on_seventh file low high)
    (omega arith) (omega arith) a)

ray_ends : (way : Direction) (s : Place) → s.rank ≤ 2 → IsOnRay initial_men way s (king_from Black)
    → ⊥
ray_ends North s low ray =
    let a = ray.ahead.0 in let b = ray.ahead.1 in
    ray_blocked North s 5 (omega arith) (omega arith) ray (omega arith) (
      omega arith,
      omega arith,
    )
ray_ends NorthEast s low ray =
    let a = ray.ahead.0 in let b = ray.ahead.1 in
    ray_blocked NorthEast s 4 (omega arith) (omega arith) ray (omega arith) (
      omega arith,
      omega arith,
    )
ray_ends NorthWest s low ray =
    let a = ray.ahead.0 in let b = ray.ahead.1 in
    ray_blocked NorthWest s 6 (omega arith) (omega arith) ray (omega arith) (
      omega arith,
      omega arith,
    )
ray_ends way s low ray = let b = ray.ahead.1 in omega arith

no_attack : (other : Kind) (s : Place) → s.rank ≤ 2
    → Reaches initial_men White other s (king_from Black) → ⊥
no_attack King s low h = let a = h.1 in omega arith
no_attack Queen s low h = ray_ends h.0 s low h.1
no_attack Rook s low h = ray_ends h.0 s low h.2
no_attack Bishop s low h = ray_ends h.0 s low h.2
no_attack Knight s low h =
    elim h [ inl a ↦ let b = a.1 in omega arith | inr a ↦ let b = a.1 in omega arith ]
no_attack Pawn s low h = let a = h.1 in omega arith

white_low : (s : Place) (man : Man) → man_at initial_men s ≡ Some man → man.side ≡ White
    → s.rank ≤ 2
white_low s man here own =
    let on = initial_on s man here in
    let low =
    low_number (index_of s)
    (place_by is_white_man is_low white_men s man here (ap is_white own)) in
    let a = on.file_low in let b = on.file_high in let d = on.rank_low in
    omega arith

initial_quiet : IsCheck initial_men Black → ⊥
initial_quiet check =
    let at_e8 : check.0 ≡ king_from Black = black_king.only check.0 check.1 in
    let attack : IsAttacked initial_men White (king_from Black) =
    subst (IsAttacked initial_men White) at_e8 check.2 in
    no_attack attack.man.kind attack.from (white_low attack.from attack.man attack.here attack.own)
    attack.reaches

-- ---- rights

corner : (side : Side) (wing : Wing) → IsOnBoard (rook_from side wing)
corner White KingSide =
    record {
      file_low = omega arith;
      file_high = omega arith;
      rank_low = omega arith;
      rank_high =
          omega arith;
    }
corner White QueenSide =
    record {
      file_low = omega arith;
      file_high = omega arith;
      rank_low = omega arith;
      rank_high =
          omega arith;
    }
corner Black KingSide =
    record {
      file_low = omega arith;
      file_high = omega arith;
      rank_low = omega arith;
      rank_high =
          omega arith;
    }
corner Black QueenSide =
    record {
      file_low = omega arith;
      file_high = omega arith;
      rank_low = omega arith;
      rank_high =
          omega arith;
    }

initial_homes : (side : Side) (wing : Wing)
    → (man_at initial_men (king_from side) ≡ Some (king_of side))
    × (man_at initial_men (rook_from side wing) ≡ Some (rook_of side))
initial_homes White KingSide =
    (white_king.here, initial_at (rook_from White KingSide) (corner White KingSide))
initial_homes White QueenSide =
    (white_king.here, initial_at (rook_from White QueenSide) (corner White QueenSide))
initial_homes Black KingSide =
    (black_king.here, initial_at (rook_from Black KingSide) (corner Black KingSide))
initial_homes Black QueenSide =
    (black_king.here, initial_at (rook_from Black QueenSide) (corner Black QueenSide))

pub initial_kept : IsKept initial (king_from White) (king_from Black)
initial_kept = record {
  sound = record {
    on_board = initial_on;
    king = initial_king;
    pawns = initial_pawns;
    quiet = initial_quiet;
    rights = λ side wing held. initial_homes side wing;
    en_passant = tt;
  };
  white = white_king;
  black = black_king;
}

-- ---- the board, filled square by square

pub initial_none : first_men (λ n. initial_man (square_at n)) 0 ≡ no_men
unfolding first_men
initial_none = refl

next_men : (cell : ℕ → Option Man) (n : ℕ)
    → first_men cell (suc n) ≡ with_man (first_men cell n) (square_at n) (cell n)
unfolding first_men
next_men cell n = refl

pub initial_next : (n : ℕ) → first_men (λ n. initial_man (square_at n)) (n + 1)
    ≡ with_man (first_men (λ n. initial_man (square_at n)) n) (square_at n)
    (initial_man (square_at n))
initial_next n =
    let next : n + 1 ≡ suc n = omega arith in
    ap (λ m. first_men (λ n. initial_man (square_at n)) m) next
    ∙ next_men (λ n. initial_man (square_at n)) n
