use Rattle.chess.proofs.CastlingTextFacts.{no_castling}
use Rattle.chess.proofs.move_text.read.parse.castling.Goals as goal

pub returns-then-not-begins_castling : goal.returns-then-not-begins_castling
returns-then-not-begins_castling c =
    no_castling c.args.text.now c.begins_castling.result c.begins_castling.ensures
    c.if-not-begins_castling.true
