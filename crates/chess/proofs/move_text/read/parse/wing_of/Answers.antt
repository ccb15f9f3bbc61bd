use Rattle.chess.specs.declared.board.man.Wing.TheVariants.{KingSide, QueenSide}
use Rattle.chess.proofs.PlaceFacts.{true_not_false}
use Rattle.chess.proofs.CastlingTextFacts.{castling_found, castling_none}
use Rattle.chess.proofs.move_text.read.parse.wing_of.Goals as goal

pub returns-then-is_castling : goal.returns-then-is_castling
returns-then-is_castling c =
    castling_found KingSide c.args.text.now c.unmarked-stem.result.now c.unmarked-stem.ensures
    (c.is_castling.ensures.0 c.if-is_castling.true)

pub returns-then-is_castling-2 : goal.returns-then-is_castling-2
returns-then-is_castling-2 c =
    castling_found QueenSide c.args.text.now c.unmarked-stem.result.now c.unmarked-stem.ensures
    (c.is_castling-2.ensures.0 c.if-is_castling-2.true)

pub returns : goal.returns
returns c =
    castling_none c.args.text.now c.unmarked-stem.result.now c.unmarked-stem.ensures
    (λ castles.
    true_not_false c.is_castling.result (c.is_castling.ensures.1 castles)
    c.if-is_castling.false)
    (λ castles.
    true_not_false c.is_castling-2.result (c.is_castling-2.ensures.1 castles)
    c.if-is_castling-2.false)
