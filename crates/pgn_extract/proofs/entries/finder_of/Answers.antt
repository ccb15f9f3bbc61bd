use Rattle.std.proofs.Common.{◌++◌, ap, ◌∙◌, refl, sym}
use Rattle.pgn_extract.proofs.Common.{named_mark}
use Rattle.pgn_extract.proofs.entries.LineMaking.{makes_named}
use Rattle.pgn_extract.proofs.entries.finder_of.Goals as goal

pub returns : goal.returns
returns c =
    let settings = c.args.context.settings.now in
    let id = c.args.context.own in
    let game = c.args.game.now in
    let named = named_mark settings.name id in
    let own = c.in_text-row_game.ensures in
    record {
      settings = refl;
      least = refl;
      first = refl;
      line = c.in_ok-of_game.ensures.0;
      of_line = sym own.line ∙ c.in_ok-of_game.ensures.1;
      makes = makes_named c.in_ok-of_game.field-0 c.in_text-row_game.result settings.name
          settings.openings id game own.name own.openings own.id
          (c.in_ok-of_game.ensures.2 game own.source);
      mark = c.in_ok-push_named_mark.ensures ∙ ap (λ t. t ++ named) c.in_ok-mark.ensures.items;
      sound = refl;
    }
