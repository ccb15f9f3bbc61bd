use Rattle.pgn_criteria.proofs.Common.{ℕ, List, SpellsMove, MoveClaim, Next, Played, Setup}
use Rattle.pgn_criteria.specs.declared.setup.Setup as declared
use Rattle.pgn_criteria.proofs.line.move_claim_of.Goals as goal

none : (text : List ℕ) → ((word : List ℕ) → SpellsMove text (Next word) → ⊥)
    → ((word : List ℕ) → SpellsMove text (Played word) → ⊥)
    → ((setup : declared.Setup) → SpellsMove text (Setup setup) → ⊥)
    → (claim : MoveClaim (List ℕ)) → SpellsMove text claim → ⊥
none text next played setup (Next word) spells = next word spells
none text next played setup (Played word) spells = played word spells
none text next played setup (Setup own) spells = setup own spells

pub returns-in_err-setup_of : goal.returns-in_err-setup_of
returns-in_err-setup_of c =
    rw c.from_residual.ensures
    (none c.args.text.now c.in_default.ensures c.in_default-played_of.ensures
    c.in_err-setup_of.ensures)
