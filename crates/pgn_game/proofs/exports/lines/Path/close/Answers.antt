use Rattle.std.specs.Prelude.{reverse}
use Rattle.pgn_game.specs.Private.LinePaths.{track_of}
use Rattle.pgn_game.proofs.exports.LinePathFacts.{back_to, last_first}
use Rattle.pgn_game.proofs.exports.lines.Path.close.Goals as goal

pub returns-in-Some-clause-back : goal.returns-in-Some-clause-back
returns-in-Some-clause-back c =
    let old = c.args.self.now in
    let left = c.pop.new.self.items in
    let fork = c.in-Some.fork in
    back_to old.before.items c.truncate.new.self.items (reverse old.outer.items) (reverse left) fork
    (track_of old) (last_first old.outer.items left fork c.in-Some.ensures.items)
    c.truncate.ensures.items
