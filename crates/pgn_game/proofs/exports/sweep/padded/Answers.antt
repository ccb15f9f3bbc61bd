use Rattle.pgn_game.proofs.exports.SweepFacts.{padded_is}
use Rattle.pgn_game.proofs.exports.sweep.padded.Goals as goal

pub returns : goal.returns
returns g c = padded_is g.row.N c.args.text.now c.copy_from_slice.new.self
    c.copy_from_slice.ensures.after c.requires
