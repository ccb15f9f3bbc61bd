use Rattle.pgn_game.proofs.Common.{◌++◌, ◌∷◌, [], ap, ◌∙◌, map}
use Rattle.pgn_game.specs.Public.Edits.{Edits, edit_of}
use Rattle.pgn_game.proofs.exports.EditFacts.{edits_more, edits_pushed}
use Rattle.pgn_game.proofs.exports.edits.TagEdits.with.Goals as goal

pub invariant_of-self : goal.invariant_of-self
invariant_of-self c =
    edits_more c.self.inside.edits.items c.push.new.self.items c.args.edit
    c.in_ok-push.ensures.items c.requires c.self.invariant

pub returns : goal.returns
returns c =
    ap (λ tags. record {
      tags = tags;
      counts_plies = c.self.inside.counts_plies;
      last_ply = c.self.inside.last_ply;
      order = map (λ name. name.items) c.self.inside.order.items;
    })
    (edits_pushed c.self.inside.edits.items c.push.new.self.items c.args.edit
    c.in_ok-push.ensures.items)
    ∙ ap (λ (own : Edits). record own { tags = own.tags ++ edit_of c.args.edit ∷ [] })
    c.self.view_is
