-- The text of a condition on fields of a FEN: what spells it is read as it, and the other way
-- round.
use Rattle.std.proofs.Common.{◌≡◌, ℕ, List, refl, sym, subst}
use Rattle.std.specs.Prelude.{codes}
use Rattle.chess.specs.Public.FirstFields.{GivesPosition}
use Rattle.chess.proofs.FirstFieldFacts.{one_given}
use Rattle.pgn_criteria.specs.Private.Reading.{run_of, after_word}
use Rattle.pgn_criteria.specs.Public.Lines.{SpellsMove, IsTrimmed}
use Rattle.pgn_criteria.specs.declared.setup.Setup as declared
use Rattle.pgn_criteria.specs.declared.condition.MoveClaim.TheVariants.{Setup}
use Rattle.pgn_criteria.proofs.SolidFacts.{begins_some, word_read, word_spelled}

pub setup_read : (text : List ℕ) (setup : declared.Setup) → SpellsMove text (Setup setup)
    → (run_of text ≡ codes "position") × IsTrimmed (after_word text)
    × GivesPosition (after_word text) setup.given setup.position
setup_read text setup (own, (gap, is, g), trimmed, gives) =
    let parts = word_read text (codes "position") gap own is refl g trimmed.0 in (
      parts.0,
      subst IsTrimmed (sym parts.1) trimmed,
      subst (λ x. GivesPosition x setup.given setup.position) (sym parts.1) gives,
    )

pub setup_spelled : (text own : List ℕ) (setup : declared.Setup) → run_of text ≡ codes "position"
    → own ≡ after_word text → IsTrimmed own → GivesPosition own setup.given setup.position
    → SpellsMove text (Setup setup)
setup_spelled text own setup run after trimmed gives =
    let some = begins_some own trimmed.0 in
    (own, word_spelled text (codes "position") own run (sym after) some, trimmed, gives)

-- a text spells one
pub one_setup : (text : List ℕ) (setup other : declared.Setup) → SpellsMove text (Setup setup)
    → SpellsMove text (Setup other) → setup ≡ other
one_setup text setup other spells has =
    let is = setup_read text setup spells in
    let too = setup_read text other has in
    let same =
    one_given (after_word text) setup.given other.given setup.position other.position is.2 too.2 in
    λ i. record { position = same.1 i; given = same.0 i }
