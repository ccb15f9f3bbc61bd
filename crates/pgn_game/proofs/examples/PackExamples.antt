-- Codes of plies and a record, worked out by hand.
use Rattle.std.proofs.Common.{codes}
use Rattle.pgn_game.proofs.Common.{◌≡◌, ℕ, ◌+◌, ◌*◌, true, false, List, [], ◌∷◌, ◌++◌, Some, None}
use Rattle.pgn_game.proofs.Common.{Ok, Err, refl, Place, king_of, pawn_of, White, Black, Queen}
use Rattle.pgn_game.proofs.Common.{KingSide, QueenSide, PlyCode, code_bytes, code_of, PackedGame}
use Rattle.pgn_game.proofs.Common.{record_bytes, pack_bytes, body_size, result_number, raw_of}
use Rattle.pgn_game.proofs.Common.{CutShort, TooLarge, PartOfPly}
use Rattle.pgn_game.specs.Public.PackReading.{text_at, after_tags, body_at, record_at}

abbrev pub square : ℕ → ℕ → Place
square file rank = record { file = file; rank = rank }

-- e2 is square 12, e4 square 28, and a white pawn number 5: one above a multiple of four, and one
-- four
abbrev pub e2_e4 : PlyCode
e2_e4 = record {
  from = square 5 2;
  to = square 5 4;
  taken = square 5 4;
  man = pawn_of White;
  castle = None;
  check = false;
  stuck = false;
}

pawn_to_e4 : code_bytes e2_e4 ≡ 12 ∷ (28 + 64) ∷ (28 + 64) ∷ []
pawn_to_e4 = refl

pawn_to_e4_read : code_of 12 92 92 ≡ e2_e4
pawn_to_e4_read = refl

-- White castles from e1, square 4, to g1, square 6, as number 12: three fours
white_castles : code_bytes
    (record {
      from = square 5 1;
      to = square 7 1;
      taken = square 7 1;
      man = king_of White;
      castle = Some KingSide;
      check = false;
      stuck = false;
    }) ≡ 4 ∷ 6 ∷ (6 + 64 * 3) ∷ []
white_castles = refl

-- Black castles from e8, square 60, to c8, square 58, as number 15: three above three fours
black_castles : code_bytes
    (record {
      from = square 5 8;
      to = square 3 8;
      taken = square 3 8;
      man = king_of Black;
      castle = Some QueenSide;
      check = false;
      stuck = false;
    }) ≡ 60 ∷ (58 + 64 * 3) ∷ (58 + 64 * 3) ∷ []
black_castles = refl

-- a pawn on e5, square 36, takes en passant on d6, square 43, the pawn on d5, square 35
pawn_takes_in_passing : code_bytes
    (record {
      from = square 5 5;
      to = square 4 6;
      taken = square 4 5;
      man = pawn_of White;
      castle = None;
      check = false;
      stuck = false;
    }) ≡ 36 ∷ (43 + 64) ∷ (35 + 64) ∷ []
pawn_takes_in_passing = refl

-- a pawn on b7, square 49, becomes a queen, number 1, on b8, square 57, and mates: both marks
queen_mates : code_bytes
    (record {
      from = square 2 7;
      to = square 2 8;
      taken = square 2 8;
      man =
          record { side = White; kind = Queen };
      castle = None;
      check = true;
      stuck = true;
    }) ≡ (49 + 64 * 3) ∷ (57 + 64) ∷ 57 ∷ []
queen_mates = refl

-- the second game, from byte 300 on, with one tag and one ply: 38 bytes after its size
abbrev pub one_ply : PackedGame
one_ply = record {
  number = 2;
  offset = 300;
  name = None;
  tags = (codes "Result", codes "*") ∷ [];
  result = codes "*";
  check = false;
  stuck = false;
  plies = e2_e4 ∷ [];
}

abbrev pub one_ply_bytes : List ℕ
one_ply_bytes =
    (0 ∷ 0 ∷ 0 ∷ 38 ∷ []) ++ (0 ∷ 0 ∷ 0 ∷ 0 ∷ 0 ∷ 0 ∷ 0 ∷ 2 ∷ [])
    ++ (0 ∷ 0 ∷ 0 ∷ 0 ∷ 0 ∷ 0 ∷ 1 ∷ 44 ∷ []) ++ (0 ∷ 0 ∷ 0 ∷ 32 ∷ [])
    ++ (0 ∷ 0 ∷ 0 ∷ 6 ∷ codes "Result") ++ (0 ∷ 0 ∷ 0 ∷ 1 ∷ codes "*") ++ (12 ∷ 92 ∷ 92 ∷ [])

record_of_one_ply : record_bytes one_ply ≡ one_ply_bytes
record_of_one_ply = refl

size_of_one_ply : body_size None one_ply.tags 1 ≡ 38
size_of_one_ply = refl

-- the first game of the file `a`, which White won, with no tag and no ply, from a start in which
-- the side to move is in check and has no legal
-- move: 16 for the name, 4 for the result and 3 for the marks
abbrev pub mated : PackedGame
mated = record {
  number = 1;
  offset = 0;
  name = Some (codes "a");
  tags = [];
  result = codes "1-0";
  check = true;
  stuck = true;
  plies = [];
}

abbrev pub mated_bytes : List ℕ
mated_bytes =
    (0 ∷ 0 ∷ 0 ∷ 25 ∷ []) ++ (0 ∷ 0 ∷ 0 ∷ 0 ∷ 0 ∷ 0 ∷ 0 ∷ 1 ∷ [])
    ++ (0 ∷ 0 ∷ 0 ∷ 0 ∷ 0 ∷ 0 ∷ 0 ∷ 0 ∷ []) ++ (0 ∷ 0 ∷ 0 ∷ 23 ∷ [])
    ++ (0 ∷ 0 ∷ 0 ∷ 1 ∷ codes "a")

record_of_mated : record_bytes mated ≡ mated_bytes
record_of_mated = refl

mated_read : record_at mated_bytes ≡ Ok (raw_of mated, [])
unfolding record_at body_at after_tags text_at
mated_read = refl

-- the numbers of the other results
black_wins : result_number (codes "0-1") ≡ 2
black_wins = refl

a_draw : result_number (codes "1/2-1/2") ≡ 3
a_draw = refl

two_records : pack_bytes (one_ply ∷ one_ply ∷ []) ≡ one_ply_bytes ++ one_ply_bytes
two_records = refl

-- two of the four bytes of a size; a size that is larger than any; one byte where the size says
-- two; the first part of a ply
size_cut_short : record_at (0 ∷ 0 ∷ []) ≡ Err CutShort
unfolding record_at
size_cut_short = refl

size_too_large : record_at (255 ∷ 255 ∷ 255 ∷ 255 ∷ []) ≡ Err TooLarge
unfolding record_at
size_too_large = refl

record_cut_short : record_at (0 ∷ 0 ∷ 0 ∷ 2 ∷ 9 ∷ []) ≡ Err CutShort
unfolding record_at
record_cut_short = refl

-- a record with no tags and one byte in place of a ply
part_of_a_ply : record_at ((0 ∷ 0 ∷ 0 ∷ 21 ∷ []) ++ (0 ∷ 0 ∷ 0 ∷ 0 ∷ 0 ∷ 0 ∷ 0 ∷ 1 ∷ [])
    ++ (0 ∷ 0 ∷ 0 ∷ 0 ∷ 0 ∷ 0 ∷ 0 ∷ 0 ∷ []) ++ (0 ∷ 0 ∷ 0 ∷ 0 ∷ []) ++ (12 ∷ [])) ≡ Err PartOfPly
unfolding record_at body_at after_tags
part_of_a_ply = refl

one_ply_read : record_at (one_ply_bytes ++ 7 ∷ []) ≡ Ok (raw_of one_ply, 7 ∷ [])
unfolding record_at body_at after_tags text_at
one_ply_read = refl
