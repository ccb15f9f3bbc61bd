use Rattle.pgn_extract.proofs.Common.{◌≡◌, length, arith, decimal, sym, ap, subst, on_ok_weaker}
use Rattle.pgn_extract.specs.Private.KeptLines.{line_of}
use Rattle.pgn_extract.specs.Public.Rows.{IsLineCell}
use Rattle.pgn_extract.specs.declared.rows.column.LineColumn.{LineColumn}
use Rattle.pgn_extract.proofs.entries.PlainTexts.{decimal_plain}
use Rattle.pgn_extract.proofs.entries.line_value.push_line_value.Goals as goal

pub returns-in-Plies : goal.returns-in-Plies
returns-in-Plies c =
    let line = c.args.line.now in
    let value = decimal c.len.result in
    let count : c.len.result ≡ length line.played.items =
    let is = c.len.ensures in omega (arith, is) in
    on_ok_weaker c.push_number.result
    (λ items. (
      value,
      decimal_plain c.len.result,
      subst (λ (k : LineColumn). IsLineCell k (line_of line) line.ply value)
          (sym c.in-Plies.is) (ap decimal count),
      items,
    ))
    c.push_number.ensures

pub returns-in-Last : goal.returns-in-Last
returns-in-Last c =
    let line = c.args.line.now in
    on_ok_weaker c.push_last.result
    (λ (value, plain, is, items). (
      value,
      plain,
      subst (λ (k : LineColumn). IsLineCell k (line_of line) line.ply value)
          (sym c.in-Last.is) is,
      items,
    ))
    c.push_last.ensures

pub returns-in-Moves : goal.returns-in-Moves
returns-in-Moves c =
    let line = c.args.line.now in
    on_ok_weaker c.push_moves.result
    (λ (value, plain, is, items). (
      value,
      plain,
      subst (λ (k : LineColumn). IsLineCell k (line_of line) line.ply value)
          (sym c.in-Moves.is) is,
      items,
    ))
    c.push_moves.ensures
