-- Conditions on the turn: what spells one is read as it, and the other way round.
use Rattle.std.specs.Prelude.{codes, Option, Some, None, MatchOption}
use Rattle.pgn_criteria.proofs.Common.{◌≡◌, ◌≢◌, ℕ, List, [], refl, sym, ◌∙◌, Side, White, Black}
use Rattle.pgn_criteria.proofs.Common.{run_of, after_word, side_text, SpellsPosition, Turn}
use Rattle.pgn_criteria.proofs.SolidFacts.{AreSolid, EndsSolid, solid_begins, solid_ends, word_read}
use Rattle.pgn_criteria.proofs.SolidFacts.{word_spelled}

side_solid : (side : Side) → AreSolid (side_text side)
side_solid White = refl
side_solid Black = refl

side_some : (side : Side) → side_text side ≢ []
side_some White none = cc
side_some Black none = cc

pub side_ends : (side : Side) → EndsSolid (side_text side)
side_ends side = solid_ends (side_text side) (side_some side) (side_solid side)

pub turn_read : (text : List ℕ) (side : Side) → SpellsPosition text (Turn side)
    → (run_of text ≡ codes "turn") × (after_word text ≡ side_text side)
turn_read text side (gap, is, g) =
    word_read text (codes "turn") gap (side_text side) is refl g
    (solid_begins (side_text side) (side_some side) (side_solid side))

turn_spelled : (text : List ℕ) (side : Side) → run_of text ≡ codes "turn"
    → after_word text ≡ side_text side → SpellsPosition text (Turn side)
turn_spelled text side run after =
    word_spelled text (codes "turn") (side_text side) run after (side_some side)

-- what follows `turn` is a side's name, or the text is no condition on the turn
pub turn_answer : (text rest : List ℕ) (found : Option Side) → run_of text ≡ codes "turn"
    → rest ≡ after_word text
    → MatchOption found ((side : Side) → rest ≡ side_text side → ⊥) (λ side. rest ≡ side_text side)
    → MatchOption found ((side : Side) → SpellsPosition text (Turn side)
    → ⊥) (λ side. SpellsPosition text (Turn side))
turn_answer text rest None run after reports =
    λ side spells. reports side (after ∙ (turn_read text side spells).1)
turn_answer text rest (Some side) run after reports =
    turn_spelled text side run (sym after ∙ reports)
