use Rattle.chess.specs.declared.board.man.Side.TheVariants.{White, Black}
use Rattle.pgn_criteria.proofs.doubt.DoubtFacts.{no_king}
use Rattle.pgn_criteria.proofs.doubt.men.let_no_kings.Goals as goal

pub returns-then-not-lets_one_king : goal.returns-then-not-lets_one_king
returns-then-not-lets_one_king c told men one fits =
    no_king men White c.args.white.now c.lets_one_king.result c.lets_one_king.ensures
    c.if-not-lets_one_king.true one fits.0

pub returns-then-not-lets_one_king-2 : goal.returns-then-not-lets_one_king-2
returns-then-not-lets_one_king-2 c told men one fits =
    no_king men Black c.args.black.now c.lets_one_king-2.result c.lets_one_king-2.ensures
    c.if-not-lets_one_king-2.true one fits.1
