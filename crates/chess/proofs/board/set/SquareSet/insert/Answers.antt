use Rattle.chess.proofs.Common.{arith, ap, ◌∙◌, ◌||◌, ◌<◌, ◌*◌, ◌^◌, ◌%◌, bit_or, same_square}
use Rattle.chess.proofs.Common.{is_in, places_of, has_bit, or_lt}
use Rattle.chess.proofs.board.SetBits.{set_bit}
use Rattle.chess.proofs.board.set.SquareSet.insert.Goals as goal

pub invariant_of-self : goal.invariant_of-self
invariant_of-self c =
    let bit = 1 * 2 ^ c.index.result % 2 ^ 64 in
    let below : bit < 2 ^ 64 = omega arith in
    or_lt 64 c.self.inside.bitboard bit c.self.invariant below

pub returns : goal.returns
returns c s =
    ap (λ n. is_in (places_of (has_bit (bit_or c.self.inside.bitboard (1 * 2 ^ n % 2 ^ 64)))) s)
    c.index.ensures.place
    ∙ set_bit c.self.inside.bitboard c.args.square s c.index.ensures.on_board
    ∙ ap (λ set. same_square c.args.square s || is_in set s) c.self.view_is
