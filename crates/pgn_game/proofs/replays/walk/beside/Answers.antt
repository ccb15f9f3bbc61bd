use Rattle.pgn_game.proofs.Common.{sym, subst, IsWithin}
use Rattle.pgn_game.proofs.StepFacts.{on_ok_so, within_back, within_begun}
use Rattle.pgn_game.proofs.replays.walk.beside.Goals.{in-Open+in_ok-open-in-Open, in-Close}
use Rattle.pgn_game.proofs.replays.walk.beside.Goals.{in_default}
use Rattle.pgn_game.proofs.replays.walk.beside.Goals as goal

pub returns-clause-within : goal.returns-clause-within
returns-clause-within g c = on_ok_so c.beside.result (λ n all.
    elim c.match-element.branch [
      | in-Open+in_ok-open-in-Open w ↦ subst (IsWithin n) (sym w.stack-is)
          (within_begun n c.args.stack.now w.open.new.stack w.in_ok-open-in-Open.ensures.line
          w.in_ok-open-in-Open.ensures.around all)
      | in-Close w ↦ subst (IsWithin n) (sym w.stack-is)
          (within_back n c.args.stack.now w.pop.new.self w.pop.ensures all)
      | in_default w ↦ subst (IsWithin n) (sym w.stack-is) all
    ])
