-- Each of the three stands under its name, and no other tag is changed.
use Rattle.std.proofs.lemmas.Result.{IfOk-weaker}
use Rattle.pgn_game.proofs.Common.{ap, ◌∙◌}
use Rattle.pgn_game.specs.Public.Openings.{named_of, unless_empty}
use Rattle.pgn_game.proofs.openings.Naming.{given_contents, line_there, line_contents, tagged_by}
use Rattle.pgn_game.proofs.openings.Openings.named.Goals as goal

pub retagged-requires-clause-contents : goal.retagged-requires-clause-contents
retagged-requires-clause-contents c =
    given_contents c.index-line.result.now.variation.items _
    (line_contents c.self.inside.lines.items c.args.self.now c.args.place c.index-line.result.now
    c.self.view_is c.requires c.index-line.ensures c.self.invariant.contents).variation
    (c.unless_empty.ensures ∙ ap unless_empty c.deref.ensures.value)

pub retagged-requires-2-clause-contents : goal.retagged-requires-2-clause-contents
retagged-requires-2-clause-contents c =
    given_contents c.index-line.result.now.name.items _
    (line_contents c.self.inside.lines.items c.args.self.now c.args.place c.index-line.result.now
    c.self.view_is c.requires c.index-line.ensures c.self.invariant.contents).name
    (c.unless_empty-2.ensures ∙ ap unless_empty c.deref-2.ensures.value)

pub retagged-requires-3-clause-contents : goal.retagged-requires-3-clause-contents
retagged-requires-3-clause-contents c =
    given_contents c.index-line.result.now.code.items _
    (line_contents c.self.inside.lines.items c.args.self.now c.args.place c.index-line.result.now
    c.self.view_is c.requires c.index-line.ensures c.self.invariant.contents).code
    (c.unless_empty-3.ensures ∙ ap unless_empty c.deref-3.ensures.value)

pub returns : goal.returns
returns c =
    let line = c.index-line.result.now in
    let first = c.in_ok-game.ensures in
    let second = c.in_ok-game-2.ensures in
    IfOk-weaker c.retagged-3.result _ _ (λ own third. (
      named_of line,
      line_there c.self.inside.lines.items c.args.self.now c.args.place line c.self.view_is
          c.requires c.index-line.ensures,
      line_contents c.self.inside.lines.items c.args.self.now c.args.place line c.self.view_is
          c.requires c.index-line.ensures c.self.invariant.contents,
      tagged_by (named_of line) c.args.game c.in_ok-game.game c.in_ok-game-2.game own _ _ _
          (c.unless_empty.ensures ∙ ap unless_empty c.deref.ensures.value)
          (c.unless_empty-2.ensures ∙ ap unless_empty c.deref-2.ensures.value)
          (c.unless_empty-3.ensures ∙ ap unless_empty c.deref-3.ensures.value) first second third,
    )) c.retagged-3.ensures
