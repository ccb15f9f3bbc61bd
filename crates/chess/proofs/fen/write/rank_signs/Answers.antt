use Rattle.std.proofs.Common.{◌-◌, ◌*◌, arith}
use Rattle.chess.proofs.RankOrderFacts.{signs_at}
use Rattle.chess.proofs.fen.write.rank_signs.Goals as goal

pub returns : goal.returns
returns c =
    let on_board = c.requires.on_board in
    signs_at (8 * (c.args.rank - 1)) c.args.letters.now c.told-letters (omega arith)
