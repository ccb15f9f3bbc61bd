use Rattle.chess.proofs.Common.{ap, option_map, IsNamed, said_by, IsCastlingOn, IsMoveSaid}
use Rattle.chess.proofs.NamedFacts.{castling_named, said_named, named_none}
use Rattle.chess.proofs.move_text.RefusalFacts.{same_from}
use Rattle.chess.proofs.move_text.refusal.named_from.Goals as goal

pub returns-in-Some : goal.returns-in-Some
returns-in-Some g c =
    same_from (IsCastlingOn c.args.position.now c.in-Some.wing)
    (IsNamed c.args.position.now c.args.text.now) c.args.from c.castled_from.result
    (castling_named c.args.position.now c.args.text.now c.in-Some.wing c.castling.result
    c.castling.ensures c.in-Some.is) c.castled_from.ensures

pub returns-in_default-parse_san : goal.returns-in_default-parse_san
returns-in_default-parse_san g c =
    λ m here named. named_none c.args.position.now c.args.text.now c.castling.result
    (option_map said_by c.parse_san.result) c.castling.ensures c.in_default.is
    c.parse_san.ensures (ap (option_map said_by) c.in_default-parse_san.is) m named

pub returns : goal.returns
returns g c =
    let said = said_by c.in-Some-parse_san.said in
    same_from (IsMoveSaid c.args.position.now said) (IsNamed c.args.position.now c.args.text.now)
    c.args.from c.moved_from.result
    (said_named c.args.position.now c.args.text.now c.castling.result
    (option_map said_by c.parse_san.result) said c.castling.ensures c.in_default.is
    c.parse_san.ensures
    (ap (option_map said_by) c.in-Some-parse_san.is)) c.moved_from.ensures
