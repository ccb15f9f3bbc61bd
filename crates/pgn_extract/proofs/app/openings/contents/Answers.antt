-- What stands under a name is the contents of a string.
use Rattle.std.proofs.lemmas.Result.{IfOk-weaker}
use Rattle.std.specs.Prelude.{unwrap_or, option_map}
use Rattle.pgn_extract.proofs.Common.{◌∙◌, ap, sym, subst, IfSome, []}
use Rattle.pgn_text.specs.Public.Strings.{IsContents}
use Rattle.pgn_game.proofs.Tags.{tag_found_in, found_contents}
use Rattle.pgn_extract.proofs.app.openings.contents.Goals as goal

pub returns-in-Some-clause-contents : goal.returns-in-Some-clause-contents
returns-in-Some-clause-contents c =
    let found = c.copied.result in
    let is =
    tag_found_in c.args.game.now.tags c.tags.result.now c.args.name.now found
    c.tags.ensures.tags (c.copied.ensures ∙ c.get.ensures.value) in
    let good = subst (λ o. IfSome o (λ text. IsContents text.now)) c.in-Some.is
    (found_contents c.args.game.now.tags c.args.name.now found c.tags.ensures.strings is) in
    IfOk-weaker c.from_slice.result _ _ (λ own same. subst IsContents (sym same) good)
    c.from_slice.ensures.items

pub returns-in-Some-clause-own : goal.returns-in-Some-clause-own
returns-in-Some-clause-own c =
    let is =
    tag_found_in c.args.game.now.tags c.tags.result.now c.args.name.now c.copied.result
    c.tags.ensures.tags (c.copied.ensures ∙ c.get.ensures.value) in
    IfOk-weaker c.from_slice.result _ _ (λ own same. same
    ∙ sym (ap (λ o. unwrap_or (option_map (λ text. text.now) o) []) c.in-Some.is)
    ∙ sym (ap (λ o. unwrap_or o []) is)) c.from_slice.ensures.items

pub returns-in-None-clause-own : goal.returns-in-None-clause-own
returns-in-None-clause-own c =
    let is =
    tag_found_in c.args.game.now.tags c.tags.result.now c.args.name.now c.copied.result
    c.tags.ensures.tags (c.copied.ensures ∙ c.get.ensures.value) in
    c.new.ensures.items
    ∙ sym (ap (λ o. unwrap_or (option_map (λ text. text.now) o) []) c.in-None.is)
    ∙ sym (ap (λ o. unwrap_or o []) is)
