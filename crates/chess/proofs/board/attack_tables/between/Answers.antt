use Rattle.chess.proofs.Common.{sym, subst, IsBitboardOf, StandsBetween}
use Rattle.chess.proofs.board.BetweenTable.{between_bitboard, between_is}
use Rattle.chess.proofs.board.attack_tables.between.Goals as goal

pub returns : goal.returns
returns c =
    subst (IsBitboardOf (StandsBetween c.args.from c.args.to))
    (sym (λ i. between_bitboard (c.index.ensures.place i) (c.index-2.ensures.place i)))
    (between_is c.args.from c.args.to c.index.ensures.on_board c.index-2.ensures.on_board)
