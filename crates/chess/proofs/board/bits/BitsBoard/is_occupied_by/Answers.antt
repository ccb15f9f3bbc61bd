use Rattle.std.proofs.Common.{eq-eqb}
use Rattle.chess.proofs.Common.{◌≡◌, false, true, arith, nat_tests, IsOccupiedBy, words_men}
use Rattle.chess.proofs.BitFacts.{empty_by_bitboard}
use Rattle.chess.proofs.board.OccupiedFacts.{has_square, occupied_not_empty}
use Rattle.chess.proofs.board.bits.BitsBoard.is_occupied_by.Goals as goal

pub returns-then-occupied-bit-eq0 : goal.returns-then-occupied-bit-eq0
returns-then-occupied-bit-eq0 c =
    let empty =
    empty_by_bitboard (words_men c.args.self.now.words) c.occupied.result c.bitboard_of-bit.result
    c.args.square c.bitboard_of-bit.ensures.on_board c.bitboard_of-bit.ensures.bitboard
    c.occupied.ensures in (
      (λ e. absurd (let f : false ≡ true = e in cc)),
      (λ held.
          absurd (occupied_not_empty (words_men c.args.self.now.words) c.args.side c.args.square
          held
          (empty.0 (eq-eqb _ 0 c.if-occupied-bit-eq0.true)))),
    )

pub returns : goal.returns
returns c =
    let asked =
    has_square (IsOccupiedBy (words_men c.args.self.now.words) c.args.side) c.occupied_by.result
    c.bitboard_of-bit.result c.args.square c.bitboard_of-bit.ensures.on_board
    c.bitboard_of-bit.ensures.bitboard c.occupied_by.ensures in (
      (λ e. asked.0 (λ zero. grind (arith, nat_tests, e, zero))),
      (λ held. grind (arith, nat_tests, asked.1 held)),
    )
