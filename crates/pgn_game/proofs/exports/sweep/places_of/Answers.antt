use Rattle.std.proofs.lemmas.Simd.{zip2_splat}
use Rattle.pgn_text.proofs.Lanes.{hit}
use Rattle.pgn_game.proofs.exports.SweepFacts.{hit_lanes, past_lanes}
use Rattle.pgn_game.proofs.exports.sweep.places_of.Goals as goal

pub returns-clause-lanes : goal.returns-clause-lanes
returns-clause-lanes g c =
    let v = c.args.bytes in
    let long = c.fits-bytes.0 in
    hit_lanes g.row.N c.requires c.args.byte v _ long (zip2_splat hit v g.row.N c.args.byte long)

pub returns-clause-past : goal.returns-clause-past
returns-clause-past g c =
    let v = c.args.bytes in
    let long = c.fits-bytes.0 in
    past_lanes g.row.N _ v _ long (zip2_splat hit v g.row.N c.args.byte long)
