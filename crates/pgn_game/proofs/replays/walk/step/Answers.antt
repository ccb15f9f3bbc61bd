use Rattle.std.specs.Prelude.{◌∷◌}
use Rattle.pgn_game.proofs.Common.{on_ok_weaker, item_of, Beside, around}
use Rattle.pgn_game.proofs.StepFacts.{within_more, within_turned}
use Rattle.pgn_game.proofs.replays.walk.step.Goals as goal

pub returns-in_ok-beside-in_default : goal.returns-in_ok-beside-in_default
returns-in_ok-beside-in_default g c =
    let is = c.in_ok-beside-in_default.ensures in
    let new = c.beside.new.stack in
    record {
      walks = (Beside (item_of c.args.element), is.does, is.walks);
      sticks = is.sticks;
      leads = is.leads;
      stuck = tt;
      kept = is.kept;
      within = λ n all. within_more n (new.line ∷ around new) (is.within n all);
    }

pub returns-in-Move-clause-within : goal.returns-in-Move-clause-within
returns-in-Move-clause-within g c =
    on_ok_weaker c.turn.result (λ turned n all.
    within_turned n c.args.stack.now c.turn.new.stack turned.0 turned.2 turned.3 all)
    c.turn.ensures.turned
