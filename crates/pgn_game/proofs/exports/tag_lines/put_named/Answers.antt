use Rattle.std.proofs.Common.{◌∙◌, sym}
use Rattle.pgn_game.proofs.Tags.{tag_found_in, found_contents}
use Rattle.pgn_game.proofs.exports.tag_lines.put_named.Goals as goal

pub put_tag-requires : goal.put_tag-requires
put_tag-requires c =
    let found = c.copied-contents.result in
    let is =
    tag_found_in c.args.game.now.tags c.tags.result.now c.args.name.now found
    c.tags.ensures.tags (c.copied-contents.ensures ∙ c.get.ensures.value) in
    found_contents c.args.game.now.tags c.args.name.now found c.tags.ensures.strings is

pub returns-clause-line : goal.returns-clause-line
returns-clause-line c =
    let found = c.copied-contents.result in
    let is =
    tag_found_in c.args.game.now.tags c.tags.result.now c.args.name.now found
    c.tags.ensures.tags (c.copied-contents.ensures ∙ c.get.ensures.value) in
    rw (is, sym c.result.ensures) c.put_tag.ensures.line
