use Rattle.pgn_game.proofs.Common.{subst, tag_in, fen_tag, IsStart}
use Rattle.pgn_game.proofs.exports.MovetextLines.{none_of_sound, starts_there}
use Rattle.pgn_game.proofs.exports.exporter.export.Goals as goal

pub put_or_leave-requires : goal.put_or_leave-requires
put_or_leave-requires c =
    let fen = tag_in fen_tag c.args.game.now.tags in
    subst (IsStart fen)
    (starts_there c.args.style.now fen c.args.game.now.elements c.args.replayed.now
    c.position.result.now c.requires c.position.ensures) c.requires.2.is_start

pub refused-requires : goal.refused-requires
refused-requires c =
    let game = c.args.game.now in
    let fen = tag_in fen_tag game.tags in
    none_of_sound c.args.style.now fen game.elements c.args.replayed.now c.position.result.now
    c.in-Err.fault c.requires
    (subst (IsStart fen)
    (starts_there c.args.style.now fen game.elements c.args.replayed.now c.position.result.now
    c.requires c.position.ensures) c.requires.2.is_start)
    c.in-Err.ensures.fault
