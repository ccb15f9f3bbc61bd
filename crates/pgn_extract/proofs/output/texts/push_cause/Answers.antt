use Rattle.pgn_extract.proofs.Common.{ap, on_ok_weaker, IllegalMove, AmbiguousMove, fault_of}
use Rattle.pgn_extract.proofs.output.texts.push_cause.Goals as goal

pub returns-in-Illegal : goal.returns-in-Illegal
returns-in-Illegal c =
    on_ok_weaker c.push_move_cause.result (λ is.
    (IllegalMove c.in-Illegal.word.now c.in-Illegal.ply, ap fault_of c.in-Illegal.is, is))
    c.push_move_cause.ensures

pub returns-in-Ambiguous : goal.returns-in-Ambiguous
returns-in-Ambiguous c =
    on_ok_weaker c.push_move_cause-in-Ambiguous.result
    (λ is. (
      AmbiguousMove c.in-Ambiguous.word.now c.in-Ambiguous.ply,
      ap fault_of c.in-Ambiguous.is,
      is,
    )) c.push_move_cause-in-Ambiguous.ensures
