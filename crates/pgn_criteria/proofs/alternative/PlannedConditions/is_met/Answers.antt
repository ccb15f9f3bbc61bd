use Rattle.pgn_criteria.proofs.Common.{◌∙◌, subst, sym, AllOfPatterns}
use Rattle.pgn_criteria.proofs.SeenFacts.{stages_parted, patterns_said}
use Rattle.pgn_criteria.proofs.alternative.PlannedConditions.is_met.Goals.{then-is_met, else-is_met}
use Rattle.pgn_criteria.proofs.alternative.PlannedConditions.is_met.Goals as goal

pub returns-then-self-2 : goal.returns-then-self-2
returns-then-self-2 g c =
    elim c.if-is_met.branch [
      | then-is_met w ↦
          let men = g.S.Seen.men c.args.position.now in
          let turn = g.S.Seen.turn c.args.position.now in
          let checked = g.S.Seen.checked c.args.position.now in
          let stuck = g.S.Seen.stuck c.args.position.now in
          let rest = w.rest_is_met.ensures.0 (sym w.value-is ∙ c.if-rest_is_met.true) in
          let planned = c.is_met.ensures.0 w.if-is_met.true in (
            λ t.
                let patterns = subst (AllOfPatterns men) c.self.view_is
                (c.self.invariant.planned.1 t men planned) in
                (stages_parted men turn checked stuck c.args.self.now).1
                ((patterns_said men turn checked stuck c.args.self.now).1 patterns, rest),
            λ all. c.if-self-2.true,
          )
      | else-is_met w ↦ absurd (cc (w.value-is, c.if-rest_is_met.true))
    ]

pub returns-else-self-2 : goal.returns-else-self-2
returns-else-self-2 g c =
    elim c.if-is_met.branch [
      | then-is_met w ↦
          let parted =
          stages_parted (g.S.Seen.men c.args.position.now) (g.S.Seen.turn c.args.position.now)
          (g.S.Seen.checked c.args.position.now) (g.S.Seen.stuck c.args.position.now)
          c.args.self.now in
          let rest = w.rest_is_met.ensures.0 (sym w.value-is ∙ c.if-rest_is_met.true) in
          let reports = rw (c.deref.ensures.value, c.self.view_is) at c.are_of_stage.ensures in
          (λ t. parted.1 (reports.0 t, rest), λ all. reports.1 (parted.0 all).0)
      | else-is_met w ↦ absurd (cc (w.value-is, c.if-rest_is_met.true))
    ]

pub returns-else-rest_is_met : goal.returns-else-rest_is_met
returns-else-rest_is_met g c =
    let men = g.S.Seen.men c.args.position.now in
    let turn = g.S.Seen.turn c.args.position.now in
    let checked = g.S.Seen.checked c.args.position.now in
    let stuck = g.S.Seen.stuck c.args.position.now in (
      λ t. absurd (cc (t, c.if-rest_is_met.false)),
      λ all.
          let parted = (stages_parted men turn checked stuck c.args.self.now).0 all in
          elim c.if-is_met.branch [
            | then-is_met w ↦ w.value-is ∙ w.rest_is_met.ensures.1 parted.1
            | else-is_met w ↦
                let patterns = (patterns_said men turn checked stuck c.args.self.now).0 parted.0 in
                let met = c.is_met.ensures.1
                (c.self.invariant.planned.0 men
                (subst (AllOfPatterns men) (sym c.self.view_is) patterns)) in
                absurd (cc (met, w.if-is_met.false))
          ],
    )

pub returns-then-not-may_stand : goal.returns-then-not-may_stand
returns-then-not-may_stand g c =
    let men = g.S.Seen.men c.args.position.now in
    let turn = g.S.Seen.turn c.args.position.now in
    let checked = g.S.Seen.checked c.args.position.now in
    let stuck = g.S.Seen.stuck c.args.position.now in (
      λ t. absurd (cc t),
      λ all.
          let parted = (stages_parted men turn checked stuck c.args.self.now).0 all in
          absurd (c.may_stand.ensures c.if-not-may_stand.true
          ((patterns_said men turn checked stuck c.args.self.now).0 parted.0)),
    )
