use Rattle.pgn_criteria.proofs.Common.{ℕ, List, SpellsSpan, Comparison, SpanClaim, For, Count}
use Rattle.pgn_criteria.proofs.line.span_claim_of.Goals as goal

none : (text : List ℕ) → ((count : ℕ) → SpellsSpan text (For count) → ⊥)
    → ((comparison : Comparison) (count : ℕ) → SpellsSpan text (Count comparison count) → ⊥)
    → (claim : SpanClaim) → SpellsSpan text claim → ⊥
none text lasting counted (For count) spells = lasting count spells
none text lasting counted (Count comparison count) spells = counted comparison count spells

pub returns : goal.returns
returns c = none c.args.text.now c.in_default.ensures c.in_default-counted_of.ensures
