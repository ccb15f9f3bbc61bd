use Rattle.std.specs.Prelude.{Some, None}
use Rattle.pgn_game.proofs.Common.{fen_tag}
use Rattle.pgn_game.proofs.Tags.{tag_found}
use Rattle.pgn_game.proofs.turns.starting.starting_position.Goals as goal

pub given_position-requires : goal.given_position-requires
given_position-requires c =
    c.requires fen_tag c.in-Some.contents.now.now
    (tag_found c.args.tags.now fen_tag (Some c.in-Some.contents.now) c.in-Some.ensures.value)

pub returns-in-Some : goal.returns-in-Some
returns-in-Some c =
    rw (tag_found c.args.tags.now fen_tag (Some c.in-Some.contents.now) c.in-Some.ensures.value)
    c.given_position.ensures

pub returns-in-None : goal.returns-in-None
returns-in-None c =
    rw (tag_found c.args.tags.now fen_tag None c.in-None.ensures.value) c.start.ensures.position
