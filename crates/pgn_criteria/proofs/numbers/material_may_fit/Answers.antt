use Rattle.pgn_criteria.proofs.Common.{◌⊎◌, inl, inr, SaysOfNumbers, FitsMaterial, position_seen}
use Rattle.pgn_criteria.proofs.Common.{codes_in}
use Rattle.pgn_criteria.proofs.StandFacts.{nowhere_of, nowhere_either}
use Rattle.pgn_criteria.proofs.numbers.material_may_fit.Goals as goal

pub returns-then-not-condition : goal.returns-then-not-condition
returns-then-not-condition g c = λ same.
    let own = c.args.condition.now in
    let fixed = c.if-not-condition.true in (
      c.if-condition.false,
      nowhere_of (λ p. FitsMaterial p c.in-Material.white c.in-Material.black)
          (SaysOfNumbers own.is_either (position_seen (λ text. text.items) own.claim))
          (g.S.Seen.men c.args.start.now)
          (codes_in c.args.plies.now)
          (λ p says.
          elim (rw c.in-Material.is at says) [
            | inl plain ↦ plain
            | inr turned ↦ let either = turned.0 in absurd (cc)
          ])
          (c.sides_may_fit.ensures c.if-sides_may_fit.false),
    )

pub returns-else-not-condition : goal.returns-else-not-condition
returns-else-not-condition g c = λ none.
    let own = c.args.condition.now in
    let men = g.S.Seen.men c.args.start.now in
    let codes = codes_in c.args.plies.now in (
      c.if-condition.false,
      nowhere_of (λ p. FitsMaterial p c.in-Material.white c.in-Material.black
          ⊎ FitsMaterial p c.in-Material.black c.in-Material.white)
          (SaysOfNumbers own.is_either (position_seen (λ text. text.items) own.claim)) men codes
          (λ p says.
          elim (rw c.in-Material.is at says) [
            | inl plain ↦ inl plain
            | inr turned ↦ inr turned.1
          ])
          (nowhere_either (λ p. FitsMaterial p c.in-Material.white c.in-Material.black) (λ p.
          FitsMaterial p c.in-Material.black c.in-Material.white) men codes
          (c.sides_may_fit.ensures c.if-sides_may_fit.false)
          (c.sides_may_fit-in-Material.ensures none)),
    )
