use Rattle.std.proofs.lemmas.List.{take-map}
use Rattle.pgn_game.proofs.Common.{◌∙◌, ap, map, sym, take, item_of}
use Rattle.pgn_game.specs.Private.PassPlaces.{pass_place}
use Rattle.pgn_game.proofs.SearchedFacts.{before_pass}
use Rattle.pgn_game.proofs.exports.variations.cut_at_pass.Goals as goal

pub returns : goal.returns
returns c =
    let old = c.args.elements.now.items in
    let items = map item_of old in
    let place = c.pass_place.ensures
    ∙ ap (λ elements. pass_place (map item_of elements)) c.deref.ensures.value in
    ap (map item_of) c.truncate.ensures.items ∙ sym (take-map item_of c.pass_place.result old)
    ∙ ap (λ n. take n items) place ∙ before_pass items
