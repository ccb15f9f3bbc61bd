use Rattle.std.proofs.Common.{◌≡◌, ◌∷◌, ◌++◌, [], true, false, refl, sym, ap, ◌∙◌, arith}
use Rattle.std.specs.List.{list_any}
use Rattle.pgn_extract.specs.declared.rows.list.ColumnsError.TheVariants as err
use Rattle.chess.specs.Public.Fen.{parted_at}
use Rattle.pgn_extract.proofs.rows.ColumnFacts.{some_name, as_many, refused, is_among, is_called}
use Rattle.pgn_extract.proofs.rows.ColumnFacts.{first_name, reads_on, reads_last, wrong_there}
use Rattle.pgn_extract.proofs.rows.list.parse_columns.Goals as goal

pub returns-then-len-eq-MOST_COLUMNS : goal.returns-then-len-eq-MOST_COLUMNS
returns-then-len-eq-MOST_COLUMNS c =
    let read = c.loop-name.invariant in
    let next = some_name c.loop-name.rest.now in
    let size = as_many read.before c.loop-name.columns.items read.named in
    refused c.args.text.now c.loop-name.rest.now next.0 next.1 c.loop-name.columns.items err.TooMany
    read next.2 (omega arith)

pub returns-in-Err : goal.returns-in-Err
returns-in-Err c =
    let read = c.loop-name.invariant in
    let name = c.next_name.result.0.now in
    let next = first_name c.next_name.result.1 (parted_at 44 c.loop-name.rest.now) name
    (λ rest. parted_at 44 rest.now) c.next_name.ensures in
    let size = as_many read.before c.loop-name.columns.items read.named in
    refused c.args.text.now c.loop-name.rest.now name next.0 c.loop-name.columns.items
    c.in-Err.fault read next.1
    (wrong_there read.before name c.in-Err.fault (omega (arith, size)) c.in-Err.ensures)

pub returns-then-has_name : goal.returns-then-has_name
returns-then-has_name c =
    let read = c.loop-name.invariant in
    let name = c.next_name.result.0.now in
    let next = first_name c.next_name.result.1 (parted_at 44 c.loop-name.rest.now) name
    (λ rest. parted_at 44 rest.now) c.next_name.ensures in
    let called : list_any (is_called name) c.loop-name.columns.items ≡ true =
    ap (list_any (is_called name)) (sym c.deref.ensures.value) ∙ sym c.has_name.ensures ∙
    c.if-has_name.true in (
      read.before,
      c.loop-name.columns.items,
      name,
      next.0,
      record {
        parts = read.parts ∙ ap (λ xs. read.before ++ xs) next.1;
        named =
            read.named;
        distinct = read.distinct;
      },
      (
        let size = as_many read.before c.loop-name.columns.items read.named in omega arith,
        refl,
        is_among read.before c.loop-name.columns.items name read.named called,
      ),
    )

pub returns-in_default : goal.returns-in_default
returns-in_default c =
    let name = c.next_name.result.0.now in
    let parts : parted_at 44 c.loop-name.rest.now ≡ name ∷ [] =
    rw c.in_default.is at c.next_name.ensures in
    let new : list_any (is_called name) c.loop-name.columns.items ≡ false =
    ap (list_any (is_called name)) (sym c.deref.ensures.value) ∙ sym c.has_name.ensures ∙
    c.if-has_name.false in
    let pushed : c.push.new.self.items ≡ c.loop-name.columns.items ++ c.in-Ok.column ∷ [] =
    rw c.if-is_err.ensures.negation at c.push.ensures.items in
    rw pushed (reads_last c.args.text.now c.loop-name.rest.now name c.loop-name.columns.items
    c.in-Ok.column c.loop-name.invariant parts c.in-Ok.ensures new (omega arith))

pub loop-name-preserved : goal.loop-name-preserved
loop-name-preserved c =
    let name = c.next_name.result.0.now in
    let parts : parted_at 44 c.loop-name.rest.now ≡ name ∷ parted_at 44 c.in-Some.after.now =
    rw c.in-Some.is at c.next_name.ensures in
    let new : list_any (is_called name) c.loop-name.columns.items ≡ false =
    ap (list_any (is_called name)) (sym c.deref.ensures.value) ∙ sym c.has_name.ensures ∙
    c.if-has_name.false in
    let pushed : c.push.new.self.items ≡ c.loop-name.columns.items ++ c.in-Ok.column ∷ [] =
    rw c.if-is_err.ensures.negation at c.push.ensures.items in
    rw pushed (reads_on c.args.text.now c.loop-name.rest.now c.in-Some.after.now name
    c.loop-name.columns.items c.in-Ok.column c.loop-name.invariant parts
    c.in-Ok.ensures new (omega arith))
