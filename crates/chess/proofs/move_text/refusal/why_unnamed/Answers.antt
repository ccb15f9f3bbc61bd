use Rattle.chess.proofs.Common.{ap, option_map, said_by}
use Rattle.chess.proofs.move_text.RefusalFacts.{castling_refused, nothing_said, said_refused}
use Rattle.chess.proofs.move_text.refusal.why_unnamed.Goals as goal

pub returns-in-Some : goal.returns-in-Some
returns-in-Some g c =
    castling_refused c.args.position.now c.args.text.now c.in-Some.wing c.castling.result
    c.castling_refusal.result c.castling.ensures c.in-Some.is c.castling_refusal.ensures

pub returns-in_default-parse_san : goal.returns-in_default-parse_san
returns-in_default-parse_san g c =
    nothing_said c.args.position.now c.args.text.now c.castling.result
    (option_map said_by c.parse_san.result) c.castling.ensures c.in_default.is
    c.parse_san.ensures (ap (option_map said_by) c.in_default-parse_san.is)

pub returns : goal.returns
returns g c =
    said_refused c.args.position.now c.args.text.now c.castling.result
    (option_map said_by c.parse_san.result) (said_by c.in-Some-parse_san.said)
    c.said_refusal.result
    c.invariant.ensures.on_board c.castling.ensures c.in_default.is c.parse_san.ensures
    (ap (option_map said_by) c.in-Some-parse_san.is) c.requires c.said_refusal.ensures
