use Rattle.pgn_extract.proofs.Common.{◌≡◌, length, subst, arith}
use Rattle.chess.specs.Public.Positions.{IsSound}
use Rattle.pgn_extract.proofs.entries.PlainTexts.{value_plain}
use Rattle.pgn_extract.proofs.entries.played.push_next_value.Goals as goal

pub returns-clause-shown : goal.returns-clause-shown
returns-clause-shown c =
    let line = c.args.line.now in
    let old = c.args.text.now.items in
    let (own, is, items) = c.in_ok-push_next.ensures.text in
    let begin : length old ≡ c.len-from.result = omega arith in
    let (value, left, new) = c.leave_dash_out.ensures old own items begin in
    let sound : IsSound line.position = subst IsSound c.position.ensures c.invariant.ensures in
    (value, value_plain line.position line.words own value sound is left, (own, is, left), new)
