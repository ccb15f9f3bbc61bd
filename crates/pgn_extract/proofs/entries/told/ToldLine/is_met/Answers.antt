use Rattle.pgn_extract.proofs.Common.{◌≡◌, Some, sym, ap, ◌∙◌, arith, slice_get, slice_get-get_or}
use Rattle.pgn_extract.proofs.entries.KeptLines.{reports_there, size_left}
use Rattle.pgn_extract.proofs.entries.told.ToldLine.is_met.Goals as goal

pub returns : goal.returns
returns c aim game before P (kept, at) =
    let met = c.args.self.now.met.items in
    let ply = c.args.self.now.ply in
    let size = size_left kept met ply aim game before P at in
    let here : slice_get met ply ≡ Some c.index.result.now =
    slice_get-get_or met ply c.index.result.now (omega (arith, size))
    ∙ ap Some (sym c.index.ensures) in
    reports_there kept met ply aim game before P c.index.result.now at here
