use Rattle.chess.proofs.Common.{ap, option_map, said_by}
use Rattle.chess.proofs.NamedFacts.{named_castling, named_none, named_said}
use Rattle.chess.proofs.move_text.read.named_read.Goals as goal

pub returns-in-Some : goal.returns-in-Some
returns-in-Some g c =
    named_castling c.args.position.now c.args.text.now c.in-Some.wing _ _ c.castling.ensures
    c.in-Some.is c.castled.ensures

pub returns-in_default-parse_san : goal.returns-in_default-parse_san
returns-in_default-parse_san g c =
    named_none c.args.position.now c.args.text.now c.castling.result
    (option_map said_by c.parse_san.result) c.castling.ensures c.in_default.is
    c.parse_san.ensures (ap (option_map said_by) c.in_default-parse_san.is)

pub returns : goal.returns
returns g c =
    named_said c.args.position.now c.args.text.now c.castling.result
    (option_map said_by c.parse_san.result) (said_by c.in-Some-parse_san.said) _
    c.castling.ensures
    c.in_default.is c.parse_san.ensures (ap (option_map said_by) c.in-Some-parse_san.is)
    c.moved_among.ensures
