use Rattle.std.specs.Prelude.{Option, Some, None}
use Rattle.pgn_criteria.proofs.Common.{◌≢◌, ℕ, List, codes, MatchOption, Side, SpellsPosition}
use Rattle.pgn_criteria.proofs.Common.{position_seen, Limits, PositionClaim, Fen, Flip, Material}
use Rattle.pgn_criteria.proofs.Common.{Turn, Check, Mate, Stalemate}
use Rattle.pgn_criteria.proofs.line.position_claim_of.Goals as goal

-- a text that is no claim of four kinds is one of one word, or none
or_bare : {T : Type 0} (bytes : T → List ℕ) (text : List ℕ) (found : Option (PositionClaim T))
    → ((side : Side) → SpellsPosition text (Turn side) → ⊥)
    → ((pattern : List ℕ) → SpellsPosition text (Fen pattern) → ⊥)
    → ((pattern : List ℕ) → SpellsPosition text (Flip pattern) → ⊥)
    → ((white black : Limits) → SpellsPosition text (Material white black) → ⊥)
    → MatchOption found ((text ≢ codes "check") × (text ≢ codes "mate")
    × (text ≢ codes "stalemate")) (λ f. SpellsPosition text (position_seen bytes f))
    → MatchOption found ((claim : PositionClaim (List ℕ)) → SpellsPosition text claim
    → ⊥) (λ f. SpellsPosition text (position_seen bytes f))
or_bare bytes text (Some f) turn fen flip material bare = bare
or_bare bytes text None turn fen flip material bare = none
  where
    none : (claim : PositionClaim (List ℕ)) → SpellsPosition text claim → ⊥
    none (Fen pattern) spells = fen pattern spells
    none (Flip pattern) spells = flip pattern spells
    none (Material white black) spells = material white black spells
    none (Turn side) spells = turn side spells
    none Check spells = bare.0 spells
    none Mate spells = bare.1 spells
    none Stalemate spells = bare.2 spells

pub returns : goal.returns
returns c =
    or_bare (λ bytes. bytes.now) c.args.text.now c.bare_claim_of.result c.in_default.ensures
    c.in_default-pattern_of.ensures c.in_default-flip_of.ensures
    c.in_default-material_of.ensures c.bare_claim_of.ensures
