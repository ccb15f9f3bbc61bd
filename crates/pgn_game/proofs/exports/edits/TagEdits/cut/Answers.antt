use Rattle.pgn_game.proofs.Common.{◌∙◌, ap, map, sym, take, length, item_of}
use Rattle.std.proofs.lemmas.List.{take-map}
use Rattle.pgn_game.specs.Public.Edits.{Edits, first_plies}
use Rattle.pgn_game.specs.Private.Editing.{plies_up_to}
use Rattle.pgn_game.proofs.FirstPlies.{first_taken}
use Rattle.pgn_game.proofs.exports.edits.TagEdits.cut.Goals as goal

pub returns-in-Some : goal.returns-in-Some
returns-in-Some c =
    let old = c.args.elements.now.items in
    let items = map item_of old in
    let last = c.in-Some.last_ply in
    let end = c.end_of_plies.ensures
    ∙ ap (λ elements. length (first_plies last 0 (map item_of elements))) c.deref.ensures.value in
    ap (map item_of) c.truncate.ensures.items ∙ sym (take-map item_of c.end_of_plies.result old)
    ∙ ap (λ n. take n items) end ∙ first_taken last items
    ∙ ap (λ some. plies_up_to some items)
    (sym (ap (λ (all : Edits). all.last_ply) (sym c.self.view_is) ∙ c.in-Some.is))
