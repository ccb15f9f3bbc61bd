use Rattle.std.specs.Prelude.{◌&&◌, Option, Some, None}
use Rattle.std.specs.Option.{option_copied}
use Rattle.pgn_game.proofs.Common.{◌≡◌, ◌∙◌, ℕ, List, Bor, ap, refl, sym, is_beside, is_some}
use Rattle.pgn_game.proofs.Common.{tag_in, tag_names}
use Rattle.pgn_game.proofs.Tags.{tag_there}
use Rattle.pgn_game.proofs.TagsInOrder.{among_passed, among_tags}
use Rattle.pgn_game.specs.Public.TagLines.{is_among}
use Rattle.pgn_game.proofs.exports.tag_lines.has_beside.Goals as goal

copied : (found : Option (Bor (Bor (List ℕ)))) → is_some found ≡ is_some (option_copied found)
copied None = refl
copied (Some contents) = refl

pub returns-then-is_beside : goal.returns-then-is_beside
returns-then-is_beside c =
    let test = is_beside c.args.style.now c.args.has_fen in
    let tags = c.args.game.now.tags in
    let name = c.args.name.now in
    c.is_some.ensures ∙ copied c.get.result ∙ ap is_some c.get.ensures.value
    ∙ sym (tag_there c.tags.result.now name)
    ∙ ap (λ own. is_some (tag_in name own)) c.tags.ensures.tags ∙ among_tags tags name
    ∙ ap (λ b. b && is_among (tag_names tags) name) c.if-is_beside.ensures
    ∙ sym (among_passed test (tag_names tags) name)

pub returns-else-is_beside : goal.returns-else-is_beside
returns-else-is_beside c =
    let test = is_beside c.args.style.now c.args.has_fen in
    let names = tag_names c.args.game.now.tags in
    let name = c.args.name.now in
    c.if-is_beside.false
    ∙ ap (λ b. b && is_among names name) c.if-is_beside.ensures
    ∙ sym (among_passed test names name)
