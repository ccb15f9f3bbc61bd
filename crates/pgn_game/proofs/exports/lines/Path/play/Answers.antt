use Rattle.pgn_game.proofs.Common.{[], ◌∷◌, ◌∙◌, ap, length, length-append, arith}
use Rattle.std.specs.Prelude.{reverse}
use Rattle.pgn_game.specs.Private.LinePaths.{tracks_by}
use Rattle.pgn_game.proofs.exports.LinePathFacts.{nested_more, tracks_grown}
use Rattle.pgn_game.proofs.exports.lines.Path.play.Goals as goal

pub returns-clause-around : goal.returns-clause-around
returns-clause-around c =
    let old = c.args.self.now in
    ap (λ words. tracks_by words (reverse old.outer.items)) c.in_ok-push.ensures.items
    ∙ tracks_grown old.before.items (c.in-Some.last ∷ []) (reverse old.outer.items) c.requires

pub returns-clause-nested : goal.returns-clause-nested
returns-clause-nested c =
    let old = c.args.self.now in
    let grown = ap length c.in_ok-push.ensures.items
    ∙ length-append old.before.items (c.in-Some.last ∷ []) in
    nested_more (length c.push.new.self.items) (length old.before.items) (reverse old.outer.items)
    (omega arith) c.requires
