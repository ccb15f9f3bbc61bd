use Rattle.std.specs.Prelude.{not, ◌&&◌}
use Rattle.pgn_game.proofs.Common.{◌∙◌, ap, map}
use Rattle.pgn_game.proofs.TagsInOrder.{among_items}
use Rattle.pgn_game.specs.Public.TagLines.{is_among}
use Rattle.pgn_game.proofs.exports.tag_lines.is_other.Goals as goal

pub returns-then-is_beside : goal.returns-then-is_beside
returns-then-is_beside c =
    let order = c.args.order.now in
    let name = c.args.name.now in
    ap not (c.is_among.ensures ∙ among_items (λ v. v.items) order name)
    ∙ ap (λ beside. beside && not (is_among (map (λ other. other.items) order) name))
    c.if-is_beside.ensures
