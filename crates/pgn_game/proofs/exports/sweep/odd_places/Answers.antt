use Rattle.std.proofs.Common.{arith}
use Rattle.std.proofs.lemmas.Simd.{zip2_splat}
use Rattle.pgn_text.proofs.Lanes.{hit, below, less, then_splat, either, classified}
use Rattle.pgn_game.specs.Private.EvenComments.{is_odd}
use Rattle.pgn_game.proofs.exports.sweep.odd_places.Goals as goal

pub returns : goal.returns
returns g c =
    let v = c.args.bytes in
    let long = c.fits-bytes.0 in
    classified g.row.N c.requires _ is_odd v _ c.fits-bytes
    (either _ _ v (zip2_splat hit v g.row.N 125 long)
    (then_splat below _ 5 v long (zip2_splat less v g.row.N 9 long))) tt
