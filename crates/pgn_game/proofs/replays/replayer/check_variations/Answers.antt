use Rattle.pgn_game.proofs.Common.{subst, tag_in, IsFlat, fen_tag}
use Rattle.pgn_game.proofs.replays.FlatGames.{flat_sound}
use Rattle.pgn_game.proofs.replays.replayer.check_variations.Goals as goal

pub returns-then-is_flat : goal.returns-then-is_flat
returns-then-is_flat c =
    let raw = c.args.raw.now in
    let flat = subst IsFlat c.elements.ensures.elements (c.is_flat.ensures c.if-is_flat.true) in
    flat_sound (tag_in fen_tag raw.tags) raw.elements c.invariant.ensures.paired flat c.requires
