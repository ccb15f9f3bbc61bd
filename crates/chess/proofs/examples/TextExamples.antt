-- Worked rows of letters, move texts and FEN: what the PGN standard says of single texts.
use Rattle.chess.proofs.Common.{◌≡◌, ◌≤◌, ◌+◌, ℕ, true, false, inl, inr, ap, refl, arith, Some}
use Rattle.chess.proofs.Common.{None, List, [], ◌∷◌, length, codes, Place, kind_letter, man_letter}
use Rattle.chess.proofs.Common.{square_text, is_sign, is_check_sign, Spells, promotion_text}
use Rattle.chess.proofs.Common.{IsFileOrRank, castling_text, castling_with_zeros, IsCastlingText}
use Rattle.chess.proofs.Common.{kind_said, fields_of, parted_at, is_step, SpellsRank, side_text}
use Rattle.chess.proofs.Common.{right_letter, has_byte, is_distinct, GivesRights, GivesEnPassant}
use Rattle.chess.proofs.Common.{is_digit, IsCount, GiveCounts, joined, rights_letters, or_dash}
use Rattle.chess.proofs.Common.{en_passant_text, letter, step, Side, White, Black, King, Queen}
use Rattle.chess.proofs.Common.{Rook, Bishop, Knight, Pawn, has_right, Wing, KingSide, QueenSide}
use Rattle.chess.proofs.Common.{CastlingRights}

abbrev at : ℕ → ℕ → Place
at file rank = record { file = file; rank = rank }

-- ---- letters

kinds : kind_letter King ∷ kind_letter Queen ∷ kind_letter Rook ∷ kind_letter Bishop
    ∷ kind_letter Knight ∷ kind_letter Pawn ∷ [] ≡ codes "KQRBNP"
kinds = refl

abbrev man : Side → List ℕ
man side = man_letter (record { side = side; kind = King })
    ∷ man_letter (record { side = side; kind = Queen })
    ∷ man_letter (record { side = side; kind = Rook })
    ∷ man_letter (record { side = side; kind = Bishop })
    ∷ man_letter (record { side = side; kind = Knight })
    ∷ man_letter (record { side = side; kind = Pawn }) ∷ []

men : (man White ≡ codes "KQRBNP") × (man Black ≡ codes "kqrbnp")
men = (refl, refl)

squares : (square_text (at 1 1) ≡ codes "a1") × (square_text (at 5 4) ≡ codes "e4")
    × (square_text (at 8 8) ≡ codes "h8")
squares = (refl, refl, refl)

-- x : - are signs, + # are marks, and no other byte is
signs : (is_sign 120 ≡ true) × (is_sign 58 ≡ true) × (is_sign 45 ≡ true) × (is_sign 43 ≡ false)
    × (is_sign 61 ≡ false)
signs = (refl, refl, refl, refl, refl)

marks : (is_check_sign 43 ≡ true) × (is_check_sign 35 ≡ true) × (is_check_sign 33 ≡ false)
    × (is_check_sign 45 ≡ false)
marks = (refl, refl, refl, refl)

-- ---- move texts

castlings : (castling_text KingSide ≡ codes "O-O") × (castling_text QueenSide ≡ codes "O-O-O")
    × (castling_with_zeros KingSide ≡ codes "0-0")
    × (castling_with_zeros QueenSide ≡ codes "0-0-0")
castlings = (refl, refl, refl, refl)

castling_read : IsCastlingText KingSide (codes "0-0+#")
castling_read = (codes "+#", refl, inr refl)

becomes : (promotion_text true (Some Queen) ≡ codes "=Q")
    × (promotion_text false (Some Knight) ≡ codes "N") × (promotion_text true None ≡ [])
becomes = (refl, refl, refl)

files : IsFileOrRank 1 × IsFileOrRank 8
files = ((omega arith, omega arith), (omega arith, omega arith))

no_files : (IsFileOrRank 0 → ⊥) × (IsFileOrRank 9 → ⊥)
no_files = ((λ h. let e : 1 ≤ 0 = h.0 in omega arith), (λ h. let e : 9 ≤ 8 = h.1 in omega arith))

pawn_without_letter : (kind_said None ≡ Pawn) × (kind_said (Some Knight) ≡ Knight)
pawn_without_letter = (refl, refl)

-- R:a8 speaks of a rook, with the sign :
rook_text : Spells (codes "R:a8")
    (record {
      letter = Some Rook;
      file = None;
      rank = None;
      target =
          record { file = 1; rank = 8 };
      promote = None;
    })
rook_text = record {
  file = tt;
  rank = tt;
  target = record {
    file_low = omega arith;
    file_high = omega arith;
    rank_low =
        omega arith;
    rank_high = omega arith;
  };
  promote = tt;
  sign = 58 ∷ [];
  sign_is = inr (58, refl, refl);
  equals = true;
  marks = [];
  marks_are = refl;
  text = refl;
}

-- Pe4 speaks of a pawn, and a second mark is read
pawn_text_read : Spells (codes "Pe4++")
    (record {
      letter = Some Pawn;
      file = None;
      rank = None;
      target =
          record { file = 5; rank = 4 };
      promote = None;
    })
pawn_text_read = record {
  file = tt;
  rank = tt;
  target = record {
    file_low = omega arith;
    file_high = omega arith;
    rank_low =
        omega arith;
    rank_high = omega arith;
  };
  promote = tt;
  sign = [];
  sign_is = inl refl;
  equals = true;
  marks = codes "++";
  marks_are = refl;
  text = refl;
}

-- ---- FEN

-- a tab is no space
one_field : fields_of (97 ∷ 9 ∷ 98 ∷ []) ≡ (97 ∷ 9 ∷ 98 ∷ []) ∷ []
one_field = refl

no_field : (fields_of [] ≡ []) × (fields_of (codes "   ") ≡ [])
no_field = (refl, refl)

an_empty_rank : parted_at 47 (codes "8//8") ≡ codes "8" ∷ [] ∷ codes "8" ∷ []
an_empty_rank = refl

-- the digits 1 to 8 stand for empty squares, and neither 0 nor 9
steps : (is_step 49 ≡ true) × (is_step 56 ≡ true) × (is_step 48 ≡ false) × (is_step 57 ≡ false)
steps = (refl, refl, refl, refl)

-- K2 spells a king and two empty squares
rank_read : SpellsRank (codes "K2") (Some (record { side = White; kind = King }) ∷ None ∷ None ∷ [])
rank_read = (
  Some (record { side = White; kind = King }) ∷ [],
  None ∷ None ∷ [],
  refl,
  letter (record { side = White; kind = King }),
  (None ∷ None ∷ [], [], refl, step 2 (omega arith) (omega arith), refl),
)

side_fields : (side_text White ≡ codes "w") × (side_text Black ≡ codes "b")
side_fields = (refl, refl)

letters_of_rights : right_letter White KingSide ∷ right_letter White QueenSide
    ∷ right_letter Black KingSide ∷ right_letter Black QueenSide ∷ [] ≡ codes "KQkq"
letters_of_rights = refl

bytes : (has_byte 75 (codes "QK") ≡ true) × (has_byte 107 (codes "QK") ≡ false)
    × (is_distinct (codes "QK") ≡ true) × (is_distinct (codes "KQK") ≡ false)
bytes = (refl, refl, refl, refl)

each_right : (side : Side) (wing : Wing)
    → has_right (record {
      white_king_side = true;
      white_queen_side = false;
      black_king_side =
          false;
      black_queen_side = true;
    }) side wing
    ≡ has_byte (right_letter side wing) (codes "qK")
each_right White KingSide = refl
each_right Black KingSide = refl
each_right _ _ = refl

no_right : (side : Side) (wing : Wing)
    → has_right (record {
      white_king_side = false;
      white_queen_side = false;
      black_king_side =
          false;
      black_queen_side = false;
    }) side wing
    ≡ has_byte (right_letter side wing) (codes "-")
no_right White KingSide = refl
no_right Black KingSide = refl
no_right _ _ = refl

-- qK gives two rights; K- and KK give none, and are no field of rights
two_rights : GivesRights (codes "qK")
    (record {
      white_king_side = true;
      white_queen_side = false;
      black_king_side =
          false;
      black_queen_side = true;
    })
two_rights = record { written = inr ((λ e. cc), refl, refl); each = each_right }

no_rights : GivesRights (codes "-")
    (record {
      white_king_side = false;
      white_queen_side = false;
      black_king_side =
          false;
      black_queen_side = false;
    })
no_rights = record { written = inl refl; each = no_right }

dash_among_letters : (rights : CastlingRights) → GivesRights (codes "K-") rights → ⊥
dash_among_letters rights gives = elim gives.written [
  | inl e ↦ let long : ◌≡◌ {A = ℕ} 2 1 = ap length e in omega arith
  | inr form ↦ let clash : false ≡ true = form.1 in cc
]

letter_twice : (rights : CastlingRights) → GivesRights (codes "KK") rights → ⊥
letter_twice rights gives = elim gives.written [
  | inl e ↦ let long : ◌≡◌ {A = ℕ} 2 1 = ap length e in omega arith
  | inr form ↦ let clash : false ≡ true = form.2 in cc
]

-- e3 is an en passant field, and i3 is none
passed_e3 : GivesEnPassant (codes "e3") (Some (at 5 3))
passed_e3 = (
  record {
    file_low = omega arith;
    file_high = omega arith;
    rank_low = omega arith;
    rank_high =
        omega arith;
  },
  refl,
)

first_byte : List ℕ → ℕ
first_byte [] = 0
first_byte (b ∷ x) = b

no_i3 : (s : Place) → GivesEnPassant (codes "i3") (Some s) → ⊥
unfolding first_byte
no_i3 s gives = let high = gives.0.file_high in let e : 105 ≡ 96 + s.file = ap first_byte gives.1 in
    omega arith

-- seven digits are a count, and eight are none, nor is the empty text; the two counts may be
-- missing
seven_digits : IsCount (codes "1234567") 1234567
seven_digits = record { digits = refl; short = (omega arith, omega arith); value = refl }

eight_digits : (n : ℕ) → IsCount (codes "00000001") n → ⊥
eight_digits n count = let e : 8 ≤ 7 = count.short.1 in omega arith

no_digits : (n : ℕ) → IsCount [] n → ⊥
no_digits n count = let e : 1 ≤ 0 = count.short.0 in omega arith

signed_count : (n : ℕ) → IsCount (codes "-1") n → ⊥
signed_count n count = let clash : false ≡ true = count.digits in cc

digits : (is_digit 48 ≡ true) × (is_digit 57 ≡ true) × (is_digit 47 ≡ false) × (is_digit 58 ≡ false)
digits = (refl, refl, refl, refl)

both_missing : GiveCounts [] 0 1
both_missing = (refl, refl)

one_missing : GiveCounts (codes "5" ∷ []) 5 1
one_missing = (record { digits = refl; short = (omega arith, omega arith); value = refl }, refl)

three_counts : (clock number : ℕ) → GiveCounts (codes "0" ∷ codes "1" ∷ codes "2" ∷ []) clock number
    → ⊥
three_counts clock number given = given

-- what is written: letters of rights in the order KQkq, a dash for none, the square passed over,
-- fields with one space between
all_letters : rights_letters
    (record {
      white_king_side = true;
      white_queen_side = true;
      black_king_side =
          true;
      black_queen_side = true;
    }) ≡ codes "KQkq"
all_letters = refl

dashes : (or_dash [] ≡ codes "-") × (or_dash (codes "K") ≡ codes "K")
    × (en_passant_text None ≡ codes "-") × (en_passant_text (Some (at 5 3)) ≡ codes "e3")
dashes = (refl, refl, refl, refl)

with_spaces : joined 32 (codes "a" ∷ codes "b" ∷ codes "c" ∷ []) ≡ codes "a b c"
with_spaces = refl
