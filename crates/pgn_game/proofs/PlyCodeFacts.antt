-- The men moved by the code of a move are the men after it; three bytes spell one code, and each
-- three bytes do.
use Rattle.std.proofs.Common.{◌==◌, IfSome}
use Rattle.pgn_game.proofs.Common.{◌≡◌, ◌↔◌, ℕ, zero, suc, ◌+◌, ◌*◌, ◌/◌, ◌%◌, ◌<◌, ltb, Bool, true}
use Rattle.pgn_game.proofs.Common.{false, cond, List, [], ◌∷◌, Option, Some, None, refl, sym, ap}
use Rattle.pgn_game.proofs.Common.{subst, ◌∙◌, arith, same_Some, none-some, Place, IsOnBoard}
use Rattle.pgn_game.proofs.Common.{square_at, index_of, index_of-square_at, square_at-index_of}
use Rattle.pgn_game.proofs.Common.{index_of-below, Placement, State, king_of, after, arriving, Goes}
use Rattle.pgn_game.proofs.Common.{IsPseudoLegal, Man, Side, White, Black, Kind, King, Queen, Rook}
use Rattle.pgn_game.proofs.Common.{Bishop, Knight, Pawn, Wing, KingSide, QueenSide, Move, PlyCode}
use Rattle.pgn_game.proofs.Common.{AreMarks, IsCode, AreCodes, FitsCode, bit, marks_number}
use Rattle.pgn_game.proofs.Common.{man_number, numbered_kind, code_bytes, code_of}
use Rattle.chess.specs.Shared.SetFacts.{on_board-square_at}
use Rattle.chess.specs.Public.Placements.{with_man}
use Rattle.chess.specs.Public.Moves.{with_rook, is_en_passant}
use Rattle.pgn_game.specs.Public.Laws.{MoveHasOneCode, CodeOfAMoveFits, CodeMovesAsItsMove}
use Rattle.pgn_game.specs.Public.Laws.{GameHasOneRecord}
use Rattle.pgn_game.specs.Public.PlyCodes.{numbered_man, numbered_castle}

-- the man that arrives is one of the side to move
arrives_own : (P : State) (m : Move) (man : Man) (promote : Option Kind) → IsPseudoLegal P m
    → arriving P promote m.from ≡ Some man → man.side ≡ P.turn
arrives_own P m man None legal e =
    ap (λ (x : Man). x.side) (same_Some man legal.man (sym e ∙ legal.here)) ∙ legal.own
arrives_own P m man (Some kind) legal e =
    ap (λ (x : Man). x.side) (same_Some man (record { side = P.turn; kind = kind }) (sym e))

-- the men moved by the code of a move are those of the position after it
pub moved_after : CodeMovesAsItsMove
moved_after P m c legal code =
    let left : Placement = with_man (with_man P.men c.taken None) c.from None in
    ap (λ (side : Side). with_rook side c.castle (with_man left c.to (Some c.man)))
    (arrives_own P m c.man m.promote legal code.man)
    ∙ ap (λ (x : Option Man). with_rook P.turn c.castle (with_man left c.to x)) (sym code.man)
    ∙ rw (code.from, code.to, code.taken, code.castle) refl

-- ---- the code of a move

marks_agree : {A : Type 0} (a b : Bool) → (a ≡ true) ↔ A → (b ≡ true) ↔ A → a ≡ b
marks_agree true true p q = refl
marks_agree true false p q = sym (q.1 (p.0 refl))
marks_agree false true p q = p.1 (q.0 refl)
marks_agree false false p q = refl

-- a move has one code at most
pub one_code_of_a_move : MoveHasOneCode
one_code_of_a_move P m c other own also =
    let from = own.from ∙ sym also.from in let to = own.to ∙ sym also.to in let taken =
    own.taken ∙ sym also.taken in
    let man = same_Some c.man other.man (sym own.man ∙ also.man) in
    let castle = own.castle ∙ sym also.castle in
    let check = marks_agree c.check other.check own.marks.check also.marks.check in
    let stuck = marks_agree c.stuck other.stuck own.marks.stuck also.marks.stuck in
    λ i. record {
      from = from i;
      to = to i;
      taken = taken i;
      man = man i;
      castle = castle i;
      check = check i;
      stuck = stuck i;
    }

codes_same : (P : State) (moves : List Move) (codes others : List PlyCode) → AreCodes P moves codes
    → AreCodes P moves others → codes ≡ others
codes_same P [] codes others own also = own ∙ sym also
codes_same P (m ∷ moves) codes others (c, more, is, is_code, are) (
  d,
  rest,
  is_too,
  is_code_too,
  are_too,
) =
    let first = one_code_of_a_move P m c d is_code is_code_too in
    let later = codes_same (after P m) moves more rest are are_too in
    is ∙ (λ i. first i ∷ later i) ∙ sym is_too

-- a replayed game has one record at most
pub one_record_of_a_game : GameHasOneRecord
one_record_of_a_game its_name its_number its_offset game replay packed other own also =
    let number = own.number ∙ sym also.number in let offset = own.offset ∙ sym also.offset in
    let tags = own.tags ∙ sym also.tags in
    let name = own.name ∙ sym also.name in let result = own.result ∙ sym also.result in
    let start = same_Some also.start own.start (sym also.first ∙ own.first) in
    let marks = subst (λ (P : State). AreMarks P other.check other.stuck) start also.marks in
    let check = marks_agree packed.check other.check own.marks.check marks.check in
    let stuck = marks_agree packed.stuck other.stuck own.marks.stuck marks.stuck in
    let plies =
    codes_same own.start replay.played packed.plies other.plies own.plies
    (subst (λ (P : State). AreCodes P replay.played other.plies) start also.plies) in
    λ i. record {
      number = number i;
      offset = offset i;
      name = name i;
      tags = tags i;
      result = result i;
      check = check i;
      stuck = stuck i;
      plies = plies i;
    }

one_of : (b : Bool) (s t : Place) → IsOnBoard s → IsOnBoard t → IsOnBoard (cond b s t)
one_of true s t p q = p
one_of false s t p q = q

-- only a king castles, and it becomes nothing
king_castles : (P : State) (m : Move) (kind : Kind) (wing : Wing) → Goes P m kind
    → m.castle ≡ Some wing → (kind ≡ King) × (m.promote ≡ None)
king_castles P m King wing goes e = (refl, goes.0)
king_castles P m _ wing goes e = absurd (none-some wing (sym goes.0 ∙ e))

king_of_castling : (P : State) (m : Move) (c : PlyCode) (castle : Option Wing) → IsPseudoLegal P m
    → IsCode P m c → m.castle ≡ castle → IfSome castle (λ _. c.man.kind ≡ King)
king_of_castling P m c None legal code e = tt
king_of_castling P m c (Some wing) legal code e =
    let king = king_castles P m legal.man.kind wing legal.goes e in
    let stays =
    subst (λ (promote : Option Kind). arriving P promote m.from ≡ Some c.man) king.1 code.man in
    ap (λ (man : Man). man.kind) (same_Some c.man legal.man (sym stays ∙ legal.here)) ∙ king.0

-- the code of a pseudo-legal move has a spelling
pub code_of_a_move_fits : CodeOfAMoveFits
code_of_a_move_fits P m c legal code =
    let beside : IsOnBoard (record { file = m.to.file; rank = m.from.rank }) = record {
      file_low = legal.to.file_low;
      file_high = legal.to.file_high;
      rank_low = legal.from.rank_low;
      rank_high = legal.from.rank_high;
    } in
    record {
      from = subst IsOnBoard (sym code.from) legal.from;
      to = subst IsOnBoard (sym code.to) legal.to;
      taken = subst IsOnBoard (sym code.taken)
          (one_of (is_en_passant P m) (record { file = m.to.file; rank = m.from.rank }) m.to beside
          legal.to);
      king = king_of_castling P m c c.castle legal code (sym code.castle);
    }

-- ---- what arrives, by its number

below : (side : Side) (kind : Kind) (castle : Option Wing)
    → man_number (record { side = side; kind = kind }) castle < 16
below White King None = omega arith
below White Queen None = omega arith
below White Rook None = omega arith
below White Bishop None = omega arith
below White Knight None = omega arith
below White Pawn None = omega arith
below White other (Some KingSide) = omega arith
below White other (Some QueenSide) = omega arith
below Black King None = omega arith
below Black Queen None = omega arith
below Black Rook None = omega arith
below Black Bishop None = omega arith
below Black Knight None = omega arith
below Black Pawn None = omega arith
below Black other (Some KingSide) = omega arith
below Black other (Some QueenSide) = omega arith

pub man_below : (man : Man) (castle : Option Wing) → man_number man castle < 16
man_below man castle = below man.side man.kind castle

again : (side : Side) (kind : Kind) (castle : Option Wing) → IfSome castle (λ _. kind ≡ King)
    → (numbered_man (man_number (record { side = side; kind = kind }) castle)
    ≡ record { side = side; kind = kind })
    × (numbered_castle (man_number (record { side = side; kind = kind }) castle) ≡ castle)
again White King None h = (refl, refl)
again White Queen None h = (refl, refl)
again White Rook None h = (refl, refl)
again White Bishop None h = (refl, refl)
again White Knight None h = (refl, refl)
again White Pawn None h = (refl, refl)
again White other (Some KingSide) h = (rw h refl, refl)
again White other (Some QueenSide) h = (rw h refl, refl)
again Black King None h = (refl, refl)
again Black Queen None h = (refl, refl)
again Black Rook None h = (refl, refl)
again Black Bishop None h = (refl, refl)
again Black Knight None h = (refl, refl)
again Black Pawn None h = (refl, refl)
again Black other (Some KingSide) h = (rw h refl, refl)
again Black other (Some QueenSide) h = (rw h refl, refl)

pub man_again : (man : Man) (castle : Option Wing) → IfSome castle (λ _. man.kind ≡ King)
    → (numbered_man (man_number man castle) ≡ man)
    × (numbered_castle (man_number man castle) ≡ castle)
man_again man castle h = again man.side man.kind castle h

king_by : (test : Bool) (wing : Wing) (man king : Man) → king.kind ≡ King
    → IfSome (cond test None (Some wing)) (λ _. (cond test man king).kind ≡ King)
king_by true wing man king h = tt
king_by false wing man king h = h

pub man_back : (w : ℕ) → w < 16 → man_number (numbered_man w) (numbered_castle w) ≡ w
man_back zero h = refl
man_back (suc zero) h = refl
man_back (suc (suc zero)) h = refl
man_back (suc (suc (suc zero))) h = refl
man_back (suc (suc (suc (suc zero)))) h = refl
man_back (suc (suc (suc (suc (suc zero))))) h = refl
man_back (suc (suc (suc (suc (suc (suc zero)))))) h = refl
man_back (suc (suc (suc (suc (suc (suc (suc zero))))))) h = refl
man_back (suc (suc (suc (suc (suc (suc (suc (suc zero)))))))) h = refl
man_back (suc (suc (suc (suc (suc (suc (suc (suc (suc zero))))))))) h = refl
man_back (suc (suc (suc (suc (suc (suc (suc (suc (suc (suc zero)))))))))) h = refl
man_back (suc (suc (suc (suc (suc (suc (suc (suc (suc (suc (suc zero))))))))))) h = refl
man_back (suc (suc (suc (suc (suc (suc (suc (suc (suc (suc (suc (suc zero)))))))))))) h = refl
man_back (suc (suc (suc (suc (suc (suc (suc (suc (suc (suc (suc (suc (suc zero))))))))))))) h = refl
man_back (suc (suc (suc (suc (suc (suc (suc (suc (suc (suc (suc (suc (suc (suc zero))))))))))))))
    h = refl
man_back
    (suc (suc (suc (suc (suc (suc (suc (suc (suc (suc (suc (suc (suc (suc (suc zero)))))))))))))))
    h = refl
man_back
    (suc (suc
    (suc (suc (suc (suc (suc (suc (suc (suc (suc (suc (suc (suc (suc (suc w)))))))))))))))) h =
    absurd (omega arith)

-- ---- bytes

at_again : (s : Place) (x : ℕ) → IsOnBoard s → square_at ((index_of s + 64 * x) % 64) ≡ s
at_again s x h =
    let low = index_of-below s h in
    let e : (index_of s + 64 * x) % 64 ≡ index_of s = omega arith in
    ap square_at e ∙ square_at-index_of s h

at_back : (a x : ℕ) → a / 64 ≡ x → index_of (square_at (a % 64)) + 64 * x ≡ a
at_back a x e =
    let i = index_of-square_at (a % 64) (omega arith) in omega arith

pub pairs : (n : ℕ) → n < 4 → n ≡ bit (n % 2 == 1) + 2 * bit (n / 2 == 1)
pairs zero h = refl
pairs (suc zero) h = refl
pairs (suc (suc zero)) h = refl
pairs (suc (suc (suc zero))) h = refl
pairs (suc (suc (suc (suc n)))) h = absurd (omega arith)

bits_back : (a : ℕ) → a < 256 → a / 64 ≡ bit ((a / 64) % 2 == 1) + 2 * bit (a / 128 == 1)
bits_back a h =
    let n : a / 128 ≡ (a / 64) / 2 = omega arith in
    let below : a / 64 < 4 = omega arith in
    rw n (pairs (a / 64) below)

-- each three bytes spell the code that they have
pub code_takes : (a b d : ℕ) → a < 256 → b < 256 → d < 256
    → code_bytes (code_of a b d) ≡ a ∷ b ∷ d ∷ []
code_takes a b d ha hb hd =
    let w = b / 64 + 4 * (d / 64) in
    let back : man_number (numbered_man w) (numbered_castle w) ≡ w = man_back w (omega arith) in
    rw (
      back,
      at_back a (bit ((a / 64) % 2 == 1) + 2 * bit (a / 128 == 1)) (bits_back a ha),
      at_back b (w % 4) (omega arith),
      at_back d (w / 4) (omega arith),
    ) refl

pub code_fits : (a b d : ℕ) → FitsCode (code_of a b d)
code_fits a b d = record {
  from = on_board-square_at (a % 64) (omega arith);
  to = on_board-square_at (b % 64) (omega arith);
  taken = on_board-square_at (d % 64) (omega arith);
  king = king_by (ltb (b / 64 + 4 * (d / 64)) 12)
      (cond ((b / 64 + 4 * (d / 64)) % 2 == 0) KingSide QueenSide)
      (record {
        side = cond (ltb (b / 64 + 4 * (d / 64)) 6) White Black;
        kind = numbered_kind ((b / 64 + 4 * (d / 64)) % 6);
      })
      (king_of (cond (ltb (b / 64 + 4 * (d / 64)) 14) White Black)) refl;
}

pub first_mark : (check stuck : Bool) → ((marks_number check stuck) % 2 == 1) ≡ check
first_mark true true = refl
first_mark false true = refl
first_mark _ _ = refl

pub second_mark : (check stuck : Bool) → ((marks_number check stuck) / 2 == 1) ≡ stuck
second_mark true true = refl
second_mark false true = refl
second_mark _ _ = refl

-- the code of the bytes that spell a code is that code
pub code_again : (c : PlyCode) → FitsCode c
    → code_of (index_of c.from + 64 * (marks_number c.check c.stuck)) (index_of c.to + 64
    * (man_number c.man c.castle % 4)) (index_of c.taken + 64 * (man_number c.man c.castle / 4)) ≡ c
code_again c fits =
    let low = man_below c.man c.castle in
    let f = index_of-below c.from fits.from in let t = index_of-below c.to fits.to in let k =
    index_of-below c.taken fits.taken in
    let whole : (index_of c.to + 64 * (man_number c.man c.castle % 4)) / 64 + 4
    * ((index_of c.taken + 64 * (man_number c.man c.castle / 4)) / 64)
    ≡ man_number c.man c.castle = omega arith in
    let marks : (index_of c.from + 64 * (marks_number c.check c.stuck)) / 64
    ≡ marks_number c.check c.stuck = omega arith in
    let upper : (index_of c.from + 64 * (marks_number c.check c.stuck)) / 128
    ≡ (marks_number c.check c.stuck) / 2 = omega arith in
    let w = man_again c.man c.castle fits.king in
    rw (
      at_again c.from (marks_number c.check c.stuck) fits.from,
      at_again c.to (man_number c.man c.castle % 4) fits.to,
      at_again c.taken (man_number c.man c.castle / 4) fits.taken,
      whole,
      w.0,
      w.1,
      marks,
      upper,
      first_mark c.check c.stuck,
      second_mark c.check c.stuck,
    ) refl
