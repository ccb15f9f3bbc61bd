use Rattle.pgn_extract.proofs.Common.{◌≡◌, Some, sym, ap, ◌∙◌, slice_get, slice_get-get_or}
use Rattle.pgn_extract.specs.Private.KeptLines.{line_of}
use Rattle.pgn_extract.proofs.entries.KeptLines.{reports_there}
use Rattle.pgn_extract.proofs.entries.kept.KeptLine.is_met.Goals as goal

pub returns : goal.returns
returns c aim game before P at =
    let line = c.args.self.now in
    let met = line.met.items in
    let here : slice_get met line.ply ≡ Some c.index.result.now =
    slice_get-get_or met line.ply c.index.result.now c.requires.valid.within
    ∙ ap Some (sym c.index.ensures) in
    reports_there (line_of line) met line.ply aim game before P c.index.result.now at here
