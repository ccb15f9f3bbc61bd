use Rattle.pgn_extract.proofs.Common.{◌∙◌, ◌++◌, ap, subst, aim_of, on_ok_weaker}
use Rattle.pgn_game.specs.Public.LineGames.{AreLineTexts}
use Rattle.pgn_extract.specs.Private.Blockwise.{line_layout}
use Rattle.pgn_extract.specs.Public.Exports.{line_begin}
use Rattle.pgn_extract.proofs.engine.exporting.put_lines.Goals as goal

pub returns-clause-text : goal.returns-clause-text
returns-clause-text c =
    let settings = c.args.context.settings.now in
    let begins = c.deref.ensures.value ∙ c.in_ok-push_line_begin.ensures
    ∙ ap (λ bytes. bytes ++ line_begin settings.name c.args.context.own)
    c.new-before.ensures.items in
    let layout = c.line_form.ensures ∙ ap (line_layout settings.form (aim_of settings)) begins in
    on_ok_weaker c.export_lines.result
    (λ (text, is, put). (
      text,
      subst (λ l. AreLineTexts l c.args.game.now text) layout is,
      put,
    ))
    c.export_lines.ensures.text
