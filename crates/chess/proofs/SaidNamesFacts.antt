-- A text names a move alone: castling does, and what is said does where each move that agrees
-- leaves one square.
use Rattle.chess.proofs.Common.{◌≡◌, ℕ, inl, inr, ap, sym, subst, ◌∙◌, Some, List, State, IsLegal}
use Rattle.chess.proofs.Common.{Said, Spells, IsCastlingText, Agrees, IsOnlyNamed, IsMoveSaid, Wing}
use Rattle.chess.proofs.Common.{Move}
use Rattle.chess.proofs.NamedFacts.{castling_only, not_both}
use Rattle.chess.proofs.SaidOnceFacts.{one_wing, one_said}

-- ---- castling

pub castling_named : (P : State) (m : Move) (x : List ℕ) (wing : Wing) → IsLegal P m
    → m.castle ≡ Some wing → IsCastlingText wing x
    → IsOnlyNamed P x m
castling_named P m x wing legal castle text = record {
  named = record { legal = legal; by = inl (wing, text, castle) };
  only = λ n named. elim named.by [
    | inl by ↦
        let own : n.castle ≡ Some wing = by.2
        ∙ ap (λ (w : Wing). Some w) (one_wing x by.0 wing by.1 text) in
        castling_only P wing n (named.legal, own) ∙ sym (castling_only P wing m (legal, castle))
    | inr by ↦ absurd (not_both x wing by.0 text by.1)
  ];
}

-- ---- a move that is said

-- a legal move that agrees with what is said is the only one, where each that agrees leaves the
-- same square
pub said_named : (P : State) (m : Move) (x : List ℕ) (said : Said) → IsLegal P m → Spells x said
    → Agrees P said m
    → ((n : Move) → IsMoveSaid P said n → n.from ≡ m.from) → IsOnlyNamed P x m
said_named P m x said legal spells agrees one = record {
  named = record { legal = legal; by = inr (said, spells, agrees) };
  only = λ n named. elim named.by [
    | inl by ↦ absurd (not_both x by.0 said by.1 spells)
    | inr by ↦
        let own = subst (λ t. Agrees P t n) (one_said x by.0 said by.1 spells) by.2 in
        let from = one n (named.legal, own) in
        let to = own.target ∙ sym agrees.target in
        let promote = own.promote ∙ sym agrees.promote in
        let castle = own.not_castling ∙ sym agrees.not_castling in
        λ i. record { from = from i; to = to i; promote = promote i; castle = castle i }
  ];
}
