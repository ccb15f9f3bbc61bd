use Rattle.pgn_extract.proofs.Common.{◌≡◌, ◌<◌, ◌+◌, ◌++◌, ◌∷◌, [], List, Bool, length, sym, ap}
use Rattle.pgn_extract.proofs.Common.{◌∙◌, false, arith, nat_tests, get_or, take, take-length}
use Rattle.pgn_extract.proofs.Common.{append_assoc}
use Rattle.pgn_extract.proofs.Common.{if◌then◌else◌}
use Rattle.pgn_extract.specs.Public.Columns.{column_name}
use Rattle.pgn_extract.specs.Private.RowTexts.{gap, gap_after, names_text, value_text}
use Rattle.pgn_extract.specs.declared.rows.column.Column.{Column}
use Rattle.pgn_extract.proofs.entries.RowMaking.{gap_is, part_taken}
use Rattle.pgn_extract.proofs.entries.RowTextFacts.{names_push}
use Rattle.pgn_extract.proofs.rows.format.push_names.Goals as goal

pub loop-column-preserved : goal.loop-column-preserved
loop-column-preserved c =
    let inv = c.loop-column.invariant in
    let row = c.args.row.now in
    let format = row.format in
    let all = row.columns.items in
    let i = c.loop-column.column-index in
    let column = c.column-item.result in
    let slice = c.deref-column-items.ensures.value in
    let size_is : length c.deref-column-items.result.now ≡ length all = ap length slice in
    let within : i < length all = omega arith in
    let old = c.args.text.now.items in
    let done = names_text format (take i all) in
    let between = gap_after format (take i all) in
    let own = value_text format false (column_name column) in
    let next : take (i + 1) all ≡ take i all ++ column ∷ [] =
    part_taken all i column within
    (c.column-item.is ∙ ap (λ (ks : List Column). get_or ks i column) slice) in
    record {
      first = grind (arith, nat_tests);
      text = c.in_ok-push_value.ensures
          ∙ ap (λ v. c.push_gap.new.text.items ++ value_text format false v) c.name.ensures
          ∙ ap (λ t. t ++ own) (c.in_ok-push_gap.ensures
          ∙ ap (λ (t : Bool). c.loop-column.text.items ++ (if t then [] else gap format)) inv.first
          ∙ ap (λ t. c.loop-column.text.items ++ t) (gap_is format all i within)
          ∙ ap (λ t. t ++ between) inv.text)
          ∙ append_assoc (old ++ done) between own ∙ append_assoc old done (between ++ own)
          ∙ ap (λ t. old ++ t) (sym (names_push format (take i all) column)
          ∙ ap (names_text format) (sym next));
    }

pub returns : goal.returns
returns c =
    let inv = c.loop-column.invariant in
    let row = c.args.row.now in
    let all = row.columns.items in
    let i = c.loop-column.column-index in
    let size_is : length c.deref-column-items.result.now ≡ length all =
    ap length c.deref-column-items.ensures.value in
    let count : i ≡ length all = omega arith in
    let whole : take i all ≡ all = ap (λ n. take n all) count ∙ take-length all in
    inv.text ∙ ap (λ (ks : List Column). c.args.text.now.items ++ names_text row.format ks) whole
