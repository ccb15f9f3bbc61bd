use Rattle.std.proofs.Common.{decimal, refl, sym, subst}
use Rattle.pgn_extract.proofs.Common.{on_ok_weaker}
use Rattle.pgn_extract.specs.Private.Lines.{ShowsValue}
use Rattle.pgn_extract.specs.declared.rows.column.PlyColumn.{PlyColumn}
use Rattle.pgn_extract.specs.declared.rows.column.PlyColumn.TheVariants.{Ply}
use Rattle.pgn_extract.proofs.entries.KeptLines.{shows_kept_value}
use Rattle.pgn_extract.proofs.entries.PlainTexts.{decimal_plain}
use Rattle.pgn_extract.proofs.entries.told.ToldLine.push_value.Goals as goal

pub returns-clause-shown : goal.returns-clause-shown
returns-clause-shown c =
    let met = c.args.self.now.met.items in
    let ply = c.args.self.now.ply in
    on_ok_weaker c.push_number.result
    (λ items. (
      decimal ply,
      decimal_plain ply,
      λ aim game before P at. subst (λ (k : PlyColumn).
          ShowsValue k (decimal ply) aim game before P)
          (sym c.requires.shows)
          (shows_kept_value at.0 met ply Ply (decimal ply) refl aim game before P at.1),
      items,
    ))
    c.push_number.ensures
