use Rattle.pgn_extract.proofs.entries.UciTexts.{always_named}
use Rattle.pgn_extract.proofs.entries.played.move_of.Goals as goal

pub unreachable-requires : goal.unreachable-requires
unreachable-requires c =
    always_named c.args.position.now c.args.text.now c.resolve.result c.in-Err.field-0 c.in-Err.is
    c.requires c.resolve.ensures.none c.resolve.ensures.several
