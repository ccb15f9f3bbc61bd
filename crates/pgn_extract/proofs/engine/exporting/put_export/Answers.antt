use Rattle.pgn_extract.proofs.Common.{refl, sym, subst, on_ok_weaker}
use Rattle.pgn_game.specs.Public.Edits.{IsEditedExport}
use Rattle.pgn_extract.proofs.engine.exporting.put_export.Goals as goal

pub returns-in-Some-clause-text : goal.returns-in-Some-clause-text
returns-in-Some-clause-text c =
    on_ok_weaker c.export_edited.result
    (λ (text, is, put). (
      text,
      subst (λ e. IsEditedExport e c.args.settings.now.style c.args.game.now text)
          (sym c.in-Some.is) is,
      put,
    ))
    c.export_edited.ensures.text

pub returns-in-None-clause-text : goal.returns-in-None-clause-text
returns-in-None-clause-text c =
    on_ok_weaker c.export_played.result
    (λ (text, is, put). (
      text,
      subst (λ e. IsEditedExport e c.args.settings.now.style c.args.game.now text)
          (sym c.in-None.is) (c.args.game.now, refl, is),
      put,
    ))
    c.export_played.ensures.text
