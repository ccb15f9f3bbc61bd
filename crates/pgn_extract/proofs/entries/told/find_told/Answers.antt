use Rattle.pgn_extract.specs.declared.rows.column.PlyColumn.TheVariants.{Ply}
use Rattle.pgn_extract.proofs.Common.{◌≡◌, [], sym, subst, aim_with, List, Option, heading_of}
use Rattle.pgn_extract.proofs.Common.{Conditions, arith, ap, length, main_words}
use Rattle.pgn_extract.proofs.PackedFacts.{line_begins}
use Rattle.pgn_extract.proofs.Finds.{none_yet}
use Rattle.pgn_extract.proofs.entries.KeptLines.{begins_kept}
use Rattle.pgn_extract.proofs.entries.LineValues.{enough_told}
use Rattle.pgn_extract.specs.Private.KeptLines.{AreReported}
use Rattle.pgn_extract.proofs.entries.told.find_told.Goals as goal

pub invariant_of-line : goal.invariant_of-line
invariant_of-line g c =
    let (kept, is, are) = c.in_ok-met.ensures in
    let (rest, begins) =
    line_begins is.start (main_words c.args.game.now.elements 0) kept.positions kept.played is.line
    in
    let size = are.each in
    let some = ap length begins in
    record { within = omega (arith, size, some) }

pub find-requires-clause-shows : goal.find-requires-clause-shows
find-requires-clause-shows g c =
    enough_told (λ column. column ≡ Ply) c.args.finder.now.lines c.requires.bare

pub returns-clause-found : goal.returns-clause-found
returns-clause-found g c name openings id of =
    let game = c.args.game.now in
    let aim = aim_with c.args.finder.now name openings in
    let (kept, is, are) = c.in_ok-met.ensures in
    let met = c.in_ok-met.met.items in
    let reported : AreReported aim.criteria (heading_of game) kept met =
    subst (λ (o : Option (List Conditions)). AreReported o (heading_of game) kept met)
    (sym c.requires.criteria) (record { size = are.each; reports = are.reports }) in
    let at = begins_kept game kept is met aim reported.size reported.reports in
    c.in_ok-find.ensures.found name openings id game [] at.0 (kept, at.1) (none_yet aim game) of
