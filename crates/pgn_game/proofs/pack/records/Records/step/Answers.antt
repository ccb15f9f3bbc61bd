use Rattle.pgn_game.proofs.Common.{arith, ap, ◌∙◌, err_from_is_err_and, Window}
use Rattle.pgn_game.proofs.PackStreamFacts.{whole_held, bad_step, failed_step, held_step}
use Rattle.pgn_game.proofs.PackStreamFacts.{long_step}
use Rattle.pgn_game.proofs.pack.records.Records.step.Goals as goal

pub returns-in_err-hold_whole-clause-gives : goal.returns-in_err-hold_whole-clause-gives
returns-in_err-hold_whole-clause-gives g c =
    let p = err_from_is_err_and c.from_residual.result c.from_residual.ensures.1 in
    rw (
      p.1,
      p.2,
    ) (failed_step c.args.self.now _ c.hold_whole.new.ahead _ _ _
    c.in_err-hold_whole.field-0.0
    (c.pass.ensures ∙ ap (λ (w : Window). w.ahead) c.self.view_is)
    c.in_err-hold_whole.ensures.gives)

pub returns-clause-gives : goal.returns-clause-gives
returns-clause-gives g c =
    let held = whole_held _ _ _ _ _ c.in_ok-hold_whole.ensures.gives c.if-not-branch.false in
    held_step c.args.self.now _ c.hold_whole.new.ahead _ c.in-Some.size _ _
    (c.pass.ensures ∙ ap (λ (w : Window). w.ahead) c.self.view_is) held.0
    (rw (← c.bytes.ensures) c.in-Some.ensures.1)

pub returns-in_default-clause-gives : goal.returns-in_default-clause-gives
returns-in_default-clause-gives g c =
    let held = whole_held _ _ _ _ _ c.in_ok-hold_whole.ensures.gives c.if-not-branch.false in
    bad_step c.args.self.now _ c.hold_whole.new.ahead _ _ _ (c.pass.ensures
    ∙ ap (λ (w : Window). w.ahead) c.self.view_is) held.0 held.1
    (rw (← c.bytes.ensures) c.in_default.ensures)

pub returns-then-size-self-clause-gives : goal.returns-then-size-self-clause-gives
returns-then-size-self-clause-gives g c =
    let held = whole_held _ _ _ _ _ c.in_ok-hold_whole.ensures.gives c.if-not-branch.false in
    let found = c.in-Some.ensures in
    let size = c.self.invariant.room in
    long_step c.args.self.now _ c.hold_whole.new.ahead _ c.in-Some.size _ _ (c.pass.ensures
    ∙ ap (λ (w : Window). w.ahead) c.self.view_is) held.0
    (rw (← c.bytes.ensures) found.0) (rw (← c.bytes.ensures) found.1) (omega arith)
    c.if-size-self.true
