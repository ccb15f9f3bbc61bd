use Rattle.std.proofs.Common.{◌≡◌, sym, ap, ◌∙◌, subst}
use Rattle.pgn_text.specs.Public.GameTexts.{GameText, tag_in}
use Rattle.pgn_game.proofs.Tags.{tag_found_in, found_contents}
use Rattle.pgn_extract.specs.Private.RowGames.{IsGameIn}
use Rattle.pgn_extract.specs.declared.entries.row_game.GameSource.{GameSource}
use Rattle.pgn_extract.proofs.entries.row_game.GameSource.tag.Goals as goal

pub returns-in-Text-clause-is : goal.returns-in-Text-clause-is
returns-in-Text-clause-is c game own =
    let tags = c.in-Text.game.now.tags in
    let found =
    tag_found_in tags c.tags.result.now c.args.name.now c.copied.result c.tags.ensures.tags
    (c.copied.ensures ∙ c.get.ensures.value) in
    let same : c.in-Text.game.now ≡ game =
    subst (λ (source : GameSource). IsGameIn source game) c.in-Text.is own in
    sym found ∙ ap (λ (text : GameText). tag_in c.args.name.now text.tags) same

pub returns-in-Text-clause-contents : goal.returns-in-Text-clause-contents
returns-in-Text-clause-contents c =
    let tags = c.in-Text.game.now.tags in
    found_contents tags c.args.name.now c.copied.result c.tags.ensures.strings
    (tag_found_in tags c.tags.result.now c.args.name.now c.copied.result c.tags.ensures.tags
    (c.copied.ensures ∙ c.get.ensures.value))
