use Rattle.chess.proofs.Common.{ap, refl, option_map, None, said_by}
use Rattle.chess.proofs.CastlingTextFacts.{no_castling}
use Rattle.chess.proofs.NamedFacts.{named_none, said_answer}
use Rattle.chess.proofs.move_text.play.play_read.Goals as goal

pub returns-in_default-clause-answer : goal.returns-in_default-clause-answer
returns-in_default-clause-answer g c =
    named_none c.args.position.now c.args.text.now None (option_map said_by c.parse_san.result)
    (no_castling c.args.text.now c.begins_castling.result c.begins_castling.ensures
    c.if-begins_castling.false) refl
    c.parse_san.ensures (ap (option_map said_by) c.in_default.is)

pub returns-in-Ok-clause-answer : goal.returns-in-Ok-clause-answer
returns-in-Ok-clause-answer g c =
    said_answer c.args.position.now c.args.text.now c.in-Some.said c.moved-found.result
    (rw c.in-Some.is at c.parse_san.ensures) c.moved-found.ensures

pub returns-in_default-found-clause-answer : goal.returns-in_default-found-clause-answer
returns-in_default-found-clause-answer g c =
    said_answer c.args.position.now c.args.text.now c.in-Some.said c.moved-found.result
    (rw c.in-Some.is at c.parse_san.ensures) c.moved-found.ensures
