use Rattle.chess.proofs.Common.{◌≡◌, ◌∷◌, List, ℕ, subst, sym, ◌∙◌, GivesRights}
use Rattle.chess.proofs.fen.read.read_spelled.Goals as goal

third : (a b d e x y z w : List ℕ) (more rest : List (List ℕ))
    → (a ∷ b ∷ d ∷ e ∷ more) ≡ (x ∷ y ∷ z ∷ w ∷ rest) → d ≡ z
third a b d e x y z w more rest same = cc

pub returns-in_err-rights : goal.returns-in_err-rights
returns-in_err-rights g c =
    rw c.from_residual-in_err-rights.ensures λ x split P spelled.
    let same = third _ _ _ _ _ _ _ _ _ _ (sym spelled.fields ∙ split) in
    c.in_err-rights.ensures spelled.given_rights
    (subst (λ x. GivesRights x spelled.given_rights) same spelled.rights_given)
