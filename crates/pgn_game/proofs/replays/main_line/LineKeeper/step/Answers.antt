use Rattle.pgn_game.proofs.Common.{refl, sym, subst, KeepsLine}
use Rattle.pgn_game.proofs.WalkFacts.{keeps_move, keeps_on}
use Rattle.pgn_game.proofs.replays.main_line.LineKeeper.step.Goals.{in-Some+in_ok-keep, in_default}
use Rattle.pgn_game.proofs.replays.main_line.LineKeeper.step.Goals as goal

pub returns-clause-kept : goal.returns-clause-kept
returns-clause-kept c start words items keeps = elim c.match-branch-2.branch [
  | in-Some+in_ok-keep w ↦ rw w.self-is (keeps_move {new = w.keep.new.self} keeps w.in-Some.m
      c.in_ok-m.field-0 w.in-Some.is c.in_ok-m.ensures.stepped w.keep.ensures.walk
      w.in_ok-keep.ensures.positions w.in_ok-keep.ensures.played)
  | in_default w ↦ subst (λ line. KeepsLine start words line items) (sym w.self-is)
      (keeps_on keeps c.in_ok-m.field-0 w.in_default.not-Some c.in_ok-m.ensures.stepped refl refl)
]
