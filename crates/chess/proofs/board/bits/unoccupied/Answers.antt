use Rattle.chess.proofs.Common.{◌<◌, ◌^◌, rules, words_men}
use Rattle.chess.proofs.BitFacts.{bitboard_of_empty}
use Rattle.chess.proofs.board.bits.unoccupied.Goals as goal

pub returns : goal.returns
returns c =
    let fits : c.occupied.result < 2 ^ 64 = search rules in
    bitboard_of_empty (words_men c.args.words.now) c.occupied.result c.occupied.ensures fits
