use Rattle.pgn_criteria.proofs.alternative.PlannedConditions.needs_are_shown.Goals as goal

pub returns-then-not-marks_are_shown : goal.returns-then-not-marks_are_shown
returns-then-not-marks_are_shown g c = λ none.
    let S = c.args.start.now in
    rw (← c.self.view_is) (rw (← c.deref.ensures.value) (c.marks_are_shown.ensures
    c.if-not-marks_are_shown.true))

pub returns : goal.returns
returns g c = λ none.
    let S = c.args.start.now in
    rw (← c.self.view_is) (rw (← c.deref-2.ensures.value) (c.numbers_are_shown.ensures none))
