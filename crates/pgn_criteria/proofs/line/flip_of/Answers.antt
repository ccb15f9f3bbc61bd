use Rattle.std.specs.Prelude.{Option, Some, None}
use Rattle.pgn_criteria.proofs.Common.{◌≡◌, ℕ, List, sym, subst, codes, MatchOption, SpellsPosition}
use Rattle.pgn_criteria.proofs.Common.{run_of, after_word, Fen, Flip}
use Rattle.pgn_criteria.proofs.FenFacts.{flip_read, flip_spelled}
use Rattle.pgn_criteria.proofs.line.flip_of.Goals as goal

flips : {T : Type 0} (bytes : T → List ℕ) (text own : List ℕ) (found : Option T)
    → run_of text ≡ codes "flip" → own ≡ after_word text
    → MatchOption found ((pattern : List ℕ) → SpellsPosition own (Fen pattern)
    → ⊥) (λ pattern. SpellsPosition own (Fen (bytes pattern)))
    → MatchOption found ((pattern : List ℕ) → SpellsPosition text (Flip pattern)
    → ⊥) (λ pattern. SpellsPosition text (Flip (bytes pattern)))
flips bytes text own (Some pattern) run is spells =
    flip_spelled text own (bytes pattern) run is spells
flips bytes text own None run is none =
    λ pattern spells. none pattern
    (subst (λ x. SpellsPosition x (Fen pattern)) (sym is) (flip_read text pattern spells).1)

pub returns-in_err-own : goal.returns-in_err-own
returns-in_err-own c =
    rw c.from_residual.ensures (λ pattern spells.
    c.in_err-own.ensures (flip_read c.args.text.now pattern spells).0)

pub returns : goal.returns
returns c =
    flips (λ bytes. bytes.now) c.args.text.now c.in_ok-own.own.now c.pattern_of.result
    c.in_ok-own.ensures.0 c.in_ok-own.ensures.1 c.pattern_of.ensures
