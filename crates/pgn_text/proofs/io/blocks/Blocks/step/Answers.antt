use Rattle.pgn_text.proofs.Common.{ap, refl, ◌∙◌, Window}
use Rattle.pgn_text.proofs.CutOff.{cut_off, none_held}
use Rattle.pgn_text.proofs.io.blocks.Blocks.step.Goals as goal

pub returns-in-Ok-clause-gives : goal.returns-in-Ok-clause-gives
returns-in-Ok-clause-gives g c =
    rw (← c.self.view_is)
    (cut_off _ _ (ap (λ (w : Window). w.ended) c.self.view_is
    ∙ c.requires.going.1) c.phase_after-self-inside.ensures c.in-Ok.ensures.ok)

pub returns-in-Err-clause-gives : goal.returns-in-Err-clause-gives
returns-in-Err-clause-gives g c =
    let failed = c.in-Err.ensures.err in
    rw (← c.self.view_is) (
      failed.read,
      failed.reads,
      (refl, failed.other, failed.fails),
      none_held _ _ failed.read c.clear.ensures,
    )
