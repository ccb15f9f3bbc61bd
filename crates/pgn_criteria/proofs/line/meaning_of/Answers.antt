use Rattle.pgn_criteria.proofs.Common.{rules, ◌≡◌, ◌≢◌, ℕ, List, sym, ◌∙◌, subst, codes, same_text}
use Rattle.pgn_criteria.proofs.Common.{IsLine, Spells, SpellsCondition, core_of, condition_seen}
use Rattle.pgn_criteria.proofs.Common.{Condition, Meaning, Nothing, Or, Asks}
use Rattle.pgn_criteria.proofs.ConditionFacts.{line_read, line_spelled}
use Rattle.pgn_criteria.proofs.line.meaning_of.Goals as goal

-- a line whose core spells it means it
means_it : (line text : List ℕ) (means : Meaning (List ℕ)) → text ≡ core_of line → Spells text means
    → IsLine line means
means_it line text means is spells = line_spelled line means (subst (λ x. Spells x means) is spells)

-- a line whose core spells nothing else means nothing
means_none : (line text : List ℕ) → text ≡ core_of line → (Spells text Nothing → ⊥)
    → text ≢ codes "or" → ((condition : Condition (List ℕ)) → SpellsCondition text condition → ⊥)
    → (means : Meaning (List ℕ)) → IsLine line means → ⊥
means_none line text is skipped or asked means line_is =
    none means (subst (λ x. Spells x means) (sym is) (line_read line means line_is))
  where
    none : (means : Meaning (List ℕ)) → Spells text means → ⊥
    none Nothing spells = skipped spells
    none Or spells = or spells
    none (Asks condition) spells = asked condition spells

pub returns-then-is_nothing : goal.returns-then-is_nothing
returns-then-is_nothing c =
    means_it c.args.line.now c.core_of-text.result.now Nothing c.core_of-text.ensures
    (c.is_nothing.ensures.0 c.if-is_nothing.true)

pub returns-then-eq : goal.returns-then-eq
returns-then-eq c =
    means_it c.args.line.now c.core_of-text.result.now Or c.core_of-text.ensures
    (same_text c.core_of-text.result.now c.as_slice.result.now (sym c.if-eq.true ∙ c.eq.ensures)
    ∙ c.as_slice.ensures)

pub returns : goal.returns
returns c =
    means_it c.args.line.now c.core_of-text.result.now
    (Asks (condition_seen (λ bytes. bytes.now) c.in_ok-condition_of.field-0))
    c.core_of-text.ensures
    c.in_ok-condition_of.ensures

pub returns-in_err-condition_of : goal.returns-in_err-condition_of
returns-in_err-condition_of c =
    let no_or : c.core_of-text.result.now ≢ codes "or" = search rules in
    let some : Spells c.core_of-text.result.now Nothing → ⊥ = λ spells. let t =
    c.is_nothing.ensures.1 spells in absurd (cc (t, c.if-is_nothing.false)) in
    rw c.from_residual.ensures
    (means_none c.args.line.now c.core_of-text.result.now c.core_of-text.ensures some no_or
    c.in_err-condition_of.ensures)
