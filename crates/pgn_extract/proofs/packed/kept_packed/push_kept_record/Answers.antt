use Rattle.pgn_extract.proofs.Common.{refl, sym, subst, ◌∙◌, aim_of, raw_id}
use Rattle.std.specs.Prelude.{Option}
use Rattle.pgn_extract.specs.Public.Aims.{LineId}
use Rattle.pgn_extract.specs.Private.Lines.{made_line}
use Rattle.pgn_extract.specs.Private.Packed.{ListsRecord, aim_making}
use Rattle.pgn_extract.specs.declared.settings.EntryLine.{EntryLine}
use Rattle.pgn_extract.proofs.entries.LineMaking.{makes_named}
use Rattle.pgn_extract.proofs.entries.LineValues.{enough_kept}
use Rattle.pgn_extract.proofs.packed.kept_packed.push_kept_record.Goals as goal

pub returns-in-Err-clause-err : goal.returns-in-Err-clause-err
returns-in-Err-clause-err c is = (refl, c.in-Err.ensures.err is)

pub push_found-requires-clause-makes : goal.push_found-requires-clause-makes
push_found-requires-clause-makes c game replay packed own =
    let raw = c.args.context.record.now in
    makes_named c.in_ok-lines.lines c.in_pack.result raw.name
    c.args.context.settings.now.openings (raw_id raw) game
    c.in_pack.ensures.name c.in_pack.ensures.openings c.in_pack.ensures.id
    (c.in_ok-lines.ensures.2 game (c.in_pack.ensures.source game replay packed own))

pub push_found-requires-clause-shows : goal.push_found-requires-clause-shows
push_found-requires-clause-shows c = enough_kept _

pub push_found-requires-clause-stands : goal.push_found-requires-clause-stands
push_found-requires-clause-stands c =
    c.in-Ok.ensures.ok (aim_making c.args.context.settings.now c.in_ok-lines.lines) refl

pub returns-clause-ok : goal.returns-clause-ok
returns-clause-ok c =
    let aim = aim_of c.args.context.settings.now in
    let old = c.args.text.now.items in
    let new = c.push_found.new.text.items in
    let none = sym c.in_pack.ensures.line ∙ c.in_ok-lines.ensures.1 in
    subst (λ (line : EntryLine).
    ListsRecord (record aim { line = line }) c.args.context.record.now old new)
    (sym c.in_ok-lines.ensures.0)
    (subst (λ (n : Option LineId).
    ListsRecord (record aim { line = made_line c.in_ok-lines.lines; of_line = n })
    c.args.context.record.now old new) (sym none) c.in_ok-push_found.ensures)
