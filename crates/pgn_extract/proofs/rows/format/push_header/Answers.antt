use Rattle.pgn_extract.proofs.Common.{◌++◌, ◌∷◌, [], sym, ap, ◌∙◌, on_ok_weaker}
use Rattle.pgn_extract.specs.Public.Rows.{header_in}
use Rattle.pgn_extract.specs.Private.RowTexts.{names_text, or_quotes}
use Rattle.pgn_extract.specs.declared.rows.column.Format.{Format}
use Rattle.pgn_extract.proofs.entries.RowTextFacts.{csv_header, tsv_header}
use Rattle.pgn_extract.proofs.rows.format.push_header.Goals as goal

pub returns-in-Csv : goal.returns-in-Csv
returns-in-Csv c =
    let old = c.args.text.now.items in
    let columns = c.args.row.now.columns.items in
    on_ok_weaker c.push_row_of_names.result
    (λ text. text
    ∙ ap (λ (f : Format). old ++ (or_quotes f (names_text f columns) ++ 10 ∷ [])) c.in-Csv.is
    ∙ ap (λ t. old ++ t) (csv_header columns
    ∙ ap (λ (f : Format). header_in f columns) (sym c.in-Csv.is)))
    c.push_row_of_names.ensures

pub returns-in-Tsv : goal.returns-in-Tsv
returns-in-Tsv c =
    let old = c.args.text.now.items in
    let columns = c.args.row.now.columns.items in
    on_ok_weaker c.push_row_of_names-in-Tsv.result
    (λ text. text
    ∙ ap (λ (f : Format). old ++ (or_quotes f (names_text f columns) ++ 10 ∷ [])) c.in-Tsv.is
    ∙ ap (λ t. old ++ t) (tsv_header columns
    ∙ ap (λ (f : Format). header_in f columns) (sym c.in-Tsv.is)))
    c.push_row_of_names-in-Tsv.ensures
