-- The text of a condition begins and ends with a solid byte, and is that of one condition.
use Rattle.pgn_criteria.proofs.Common.{◌≡◌, ℕ, Bool, true, false, List, ◌++◌, IsTrue, refl, sym, ap}
use Rattle.pgn_criteria.proofs.Common.{◌∙◌, subst, inl, inr, codes, can_be_mirrored, core_of}
use Rattle.pgn_criteria.proofs.Common.{run_of, after_word, ReadsWord, Condition, Game, Position}
use Rattle.pgn_criteria.proofs.Common.{Move, Span, PositionClaim, Meaning, Nothing, Or, Asks}
use Rattle.pgn_criteria.specs.Public.Lines.{SpellsGame, SpellsMove, SpellsSpan, SpellsTaken, IsLine}
use Rattle.pgn_criteria.specs.Public.Lines.{SpellsPosition, SpellsTurned, SpellsCondition, Spells}
use Rattle.pgn_criteria.proofs.SolidFacts.{BeginsSolid, EndsSolid, ends_after, begins_some}
use Rattle.pgn_criteria.proofs.SolidFacts.{word_read, word_spelled}
use Rattle.pgn_criteria.proofs.ClaimFacts.{games_are, moves_are, spans_are, taken_ends, ends_as}
use Rattle.pgn_criteria.proofs.ClaimFacts.{positions_are, claim_begins, taken_begins, taken_either}
use Rattle.pgn_criteria.proofs.CoreFacts.{core_about, solid_core, empty_core, comment_core}

turned_begins : (text : List ℕ) (either denied : Bool) (claim : PositionClaim (List ℕ))
    → SpellsTurned text either denied claim → BeginsSolid text
turned_begins text false denied claim spells =
    taken_begins SpellsPosition positions_are text denied claim spells
turned_begins text true denied claim (own, (gap, is, g), of, spells) = (101, _, is, refl)

condition_begins : (text : List ℕ) (condition : Condition (List ℕ)) → SpellsCondition text condition
    → BeginsSolid text
condition_begins text (Game own) spells =
    taken_begins SpellsGame games_are text own.is_denied own.claim spells
condition_begins text (Position own) spells =
    turned_begins text own.is_either own.is_denied own.claim spells
condition_begins text (Move own) spells =
    taken_begins SpellsMove moves_are text own.is_denied own.claim spells
condition_begins text (Span claim) spells = claim_begins SpellsSpan spans_are text claim spells

turned_ends : (text : List ℕ) (either denied : Bool) (claim : PositionClaim (List ℕ))
    → SpellsTurned text either denied claim → EndsSolid text
turned_ends text false denied claim spells =
    taken_ends SpellsPosition positions_are text denied claim spells
turned_ends text true denied claim (own, (gap, is, g), of, spells) =
    ends_as text _ is (ends_after (codes "either") (gap
    ++ own) (ends_after gap own
    (taken_ends SpellsPosition positions_are own denied claim spells)))

condition_ends : (text : List ℕ) (condition : Condition (List ℕ)) → SpellsCondition text condition
    → EndsSolid text
condition_ends text (Game own) spells =
    taken_ends SpellsGame games_are text own.is_denied own.claim spells
condition_ends text (Position own) spells =
    turned_ends text own.is_either own.is_denied own.claim spells
condition_ends text (Move own) spells =
    taken_ends SpellsMove moves_are text own.is_denied own.claim spells
condition_ends text (Span claim) spells = spans_are.ends text claim spells

-- a condition with `either` is read after its first word, and the other way round
pub either_read : (text : List ℕ) (denied : Bool) (claim : PositionClaim (List ℕ))
    → SpellsTurned text true denied claim
    → (run_of text ≡ codes "either") × IsTrue (can_be_mirrored claim)
    × SpellsTaken SpellsPosition (after_word text) denied claim
either_read text denied claim (own, (gap, is, g), of, spells) =
    let parts = word_read text (codes "either") gap own is refl g
    (taken_begins SpellsPosition positions_are own denied claim spells) in
    (parts.0, of, subst (λ x. SpellsTaken SpellsPosition x denied claim) (sym parts.1) spells)

-- where a condition on a position is read: after `either`, or the text itself
pub turned_own : (text : List ℕ) (either denied : Bool) (claim : PositionClaim (List ℕ))
    → SpellsTurned text either denied claim
    → (own : List ℕ) × ReadsWord (codes "either") text either own
    × SpellsTaken SpellsPosition own denied claim
turned_own text false denied claim spells = (
  text,
  (λ run. taken_either SpellsPosition positions_are text denied claim run spells, refl),
  spells,
)
turned_own text true denied claim spells =
    let own = either_read text denied claim spells in (after_word text, (own.0, refl), own.2)

pub either_spelled : (text own : List ℕ) (denied : Bool) (claim : PositionClaim (List ℕ))
    → run_of text ≡ codes "either" → own ≡ after_word text
    → IsTrue (can_be_mirrored claim) → SpellsTaken SpellsPosition own denied claim
    → SpellsTurned text true denied claim
either_spelled text own denied claim run after of spells = (
  own,
  word_spelled text (codes "either") own run (sym after)
      (begins_some own (taken_begins SpellsPosition positions_are own denied claim spells)),
  of,
  spells,
)

-- a line's meaning is spelled by its core
pub line_read : (line : List ℕ) (means : Meaning (List ℕ)) → IsLine line means
    → Spells (core_of line) means
line_read line means is = by_meaning means is.spells
  where
    core : BeginsSolid is.text → EndsSolid is.text → core_of line ≡ is.text
    core begins ends =
        solid_core line is.before is.text is.after is.last is.whole is.blank_before is.blank_after
        is.end begins ends

    by_meaning : (means : Meaning (List ℕ)) → Spells is.text means → Spells (core_of line) means
    by_meaning Nothing (inl none) =
        inl (empty_core line is.before is.text is.after is.last is.whole is.blank_before
        is.blank_after is.end none)
    by_meaning Nothing (inr comment) =
        inr (comment_core line is.before (comment.0 ++ (is.after ++ is.last)) (is.whole
        ∙ ap (λ x. is.before ++ (x ++ (is.after ++ is.last))) comment.1) is.blank_before)
    by_meaning Or or = core (111, _, or, refl) (ends_as is.text _ or (codes "o", 114, refl, refl))
        ∙ or
    by_meaning (Asks condition) spells =
        rw (core (condition_begins is.text condition spells) (condition_ends is.text condition
        spells)) spells

-- and the other way round
pub line_spelled : (line : List ℕ) (means : Meaning (List ℕ)) → Spells (core_of line) means
    → IsLine line means
line_spelled line means spells =
    let about = core_about line in
    record {
      before = about.before;
      text = core_of line;
      after = about.after;
      last = about.last;
      whole = about.whole;
      blank_before = about.blank_before;
      blank_after = about.blank_after;
      end = about.end;
      spells = spells;
    }
