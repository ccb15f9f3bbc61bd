use Rattle.pgn_extract.proofs.Common.{◌≡◌, length, arith, on_ok_weaker}
use Rattle.pgn_extract.specs.Private.RowTexts.{names_text}
use Rattle.pgn_extract.proofs.rows.format.push_row_of_names.Goals as goal

pub returns : goal.returns
returns c =
    let old = c.args.text.now.items in
    let begin : length old ≡ c.len-begin.result = omega arith in
    let row = c.args.row.now in
    on_ok_weaker c.end_row.result
    (λ ends. ends old (names_text row.format row.columns.items) c.in_ok-push_names.ensures begin)
    c.end_row.ensures
