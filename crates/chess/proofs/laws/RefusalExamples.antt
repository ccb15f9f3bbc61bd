-- What the definitions refuse: a reason that is not why a text names no legal move. Each clause of
-- each reason is needed here. So a text is refused for one reason.
use Rattle.chess.proofs.Common.{◌≡◌, ◌≢◌, ℕ, List, Option, None, Some, inl, inr, refl, subst, State}
use Rattle.chess.proofs.Common.{IsFrom, becoming, CanGoAs, IsRefusal, Place, Agrees, Said, Spells}
use Rattle.chess.proofs.Common.{IsNamed, Kind, NoMoveText, CastlingAttacked, NoCastling}
use Rattle.chess.proofs.Common.{WrongPromotion, NoneCan, LeavesKingAttacked, Move}
use Rattle.chess.specs.Public.Refusals.{IsMeant, IsSomeCastlingText}
use Rattle.chess.specs.Public.Laws.{TextHasOneRefusal}
use Rattle.chess.proofs.NamedFacts.{not_both}
use Rattle.chess.proofs.SaidOnceFacts.{one_said}

-- a text of castling, and one that says something, is a move text
no_text_that_castles : (P : State) (x : List ℕ) → IsSomeCastlingText x → IsRefusal P x NoMoveText
    → ⊥
no_text_that_castles P x castles (never, nothing) = never castles

no_text_that_says : (P : State) (x : List ℕ) (said : Said) → Spells x said
    → IsRefusal P x NoMoveText → ⊥
no_text_that_says P x said spells (never, nothing) = nothing said spells

-- a text that says something is not refused as castling
no_castling_said : (P : State) (x : List ℕ) (said : Said) → Spells x said → IsRefusal P x NoCastling
    → ⊥
no_castling_said P x said spells ((wing, castles), none) = not_both x wing said castles spells

no_attack_said : (P : State) (x : List ℕ) (said : Said) → Spells x said
    → IsRefusal P x CastlingAttacked → ⊥
no_attack_said P x said spells ((wing, castles), meant) = not_both x wing said castles spells

-- castling for which the way is free is barred by an attack alone, and castling that cannot be is
-- not
no_free_castling : (P : State) (x : List ℕ) (m : Move) → IsMeant P x m → IsRefusal P x NoCastling
    → ⊥
no_free_castling P x m meant (castles, none) = none m meant

no_attack_on_none : (P : State) (x : List ℕ) → ((m : Move) → IsMeant P x m → ⊥)
    → IsRefusal P x CastlingAttacked → ⊥
no_attack_on_none P x none (castles, (m, meant)) = none m meant

-- a text of castling is refused for nothing that is said
no_promotion_castling : (P : State) (x : List ℕ) → IsSomeCastlingText x
    → IsRefusal P x WrongPromotion → ⊥
no_promotion_castling P x (wing, castles) (said, spells, stuck, goes) =
    not_both x wing said castles spells

no_man_castling : (P : State) (x : List ℕ) → IsSomeCastlingText x → IsRefusal P x NoneCan → ⊥
no_man_castling P x (wing, castles) (said, spells, none) = not_both x wing said castles spells

no_king_castling : (P : State) (x : List ℕ) → IsSomeCastlingText x
    → IsRefusal P x LeavesKingAttacked → ⊥
no_king_castling P x (wing, castles) (said, spells, meant, each) =
    not_both x wing said castles spells

-- the promotion is not wrong where a man can go as is said, or where none can whatever it becomes
no_right_promotion : (P : State) (x : List ℕ) (said : Said) → Spells x said → CanGoAs P said
    → IsRefusal P x WrongPromotion → ⊥
no_right_promotion P x said spells goes (own, its, stuck, other) =
    stuck (subst (CanGoAs P) (one_said x said own spells its) goes)

no_promotion_helps : (P : State) (x : List ℕ) (said : Said) → Spells x said
    → ((promote : Option Kind) → CanGoAs P (becoming promote said) → ⊥)
    → IsRefusal P x WrongPromotion → ⊥
no_promotion_helps P x said spells none (own, its, stuck, (promote, goes)) =
    none promote
    (subst (λ says. CanGoAs P (becoming promote says)) (one_said x own said its spells) goes)

-- some man can go there, as it is said or as something else
no_man_that_goes : (P : State) (x : List ℕ) (said : Said) (promote : Option Kind) → Spells x said
    → CanGoAs P (becoming promote said)
    → IsRefusal P x NoneCan → ⊥
no_man_that_goes P x said promote spells goes (own, its, none) =
    none promote
    (subst (λ says. CanGoAs P (becoming promote says)) (one_said x said own spells its) goes)

-- a move that is legal leaves its king unattacked, and where no man can go none leaves it attacked
no_legal_move_leaves : (P : State) (x : List ℕ) (m : Move) → IsNamed P x m
    → IsRefusal P x LeavesKingAttacked → ⊥
no_legal_move_leaves P x m named (said, spells, meant, each) =
    named.legal.safe (each m (named.legal.pseudo_legal, named.by))

no_king_left_by_none : (P : State) (x : List ℕ) → ((m : Move) → IsMeant P x m → ⊥)
    → IsRefusal P x LeavesKingAttacked → ⊥
no_king_left_by_none P x none (said, spells, (m, meant), each) = none m meant

-- a move from the square that has the fact is found, and no other move is
no_move_overlooked : (fact : Move → Type 0) (s : Place) (m : Move) → m.from ≡ s → fact m
    → IsFrom fact s None → ⊥
no_move_overlooked fact s m from has none = none m from has

no_second_move : (fact : Move → Type 0) (s : Place) (m n : Move) → n.from ≡ s → fact n → n ≢ m
    → IsFrom fact s (Some m) → ⊥
no_second_move fact s m n from has apart found = apart (found.2 n from has)

no_move_from_elsewhere : (fact : Move → Type 0) (s : Place) (m : Move) → m.from ≢ s
    → IsFrom fact s (Some m) → ⊥
no_move_from_elsewhere fact s m elsewhere found = elsewhere found.0

no_move_without_the_fact : (fact : Move → Type 0) (s : Place) (m : Move) → (fact m → ⊥)
    → IsFrom fact s (Some m) → ⊥
no_move_without_the_fact fact s m lacks found = lacks found.1

-- where some man can go there, one can go as is said
goes_as_said : (P : State) (x : List ℕ) (said : Said) → Spells x said
    → ((m : Move) × IsMeant P x m) → CanGoAs P said
goes_as_said P x said spells (m, (pseudo, inl (wing, castles, is))) =
    absurd (not_both x wing said castles spells)
goes_as_said P x said spells (m, (pseudo, inr (own, its, agrees))) =
    (m, pseudo, subst (λ says. Agrees P says m) (one_said x own said its spells) agrees)

-- so a text is refused for one reason
pub one_reason : TextHasOneRefusal
one_reason P x NoMoveText NoCastling one other = absurd (one.0 other.0)
one_reason P x NoMoveText CastlingAttacked one other = absurd (one.0 other.0)
one_reason P x NoMoveText WrongPromotion one other = absurd (one.1 other.0 other.1)
one_reason P x NoMoveText NoneCan one other = absurd (one.1 other.0 other.1)
one_reason P x NoMoveText LeavesKingAttacked one other = absurd (one.1 other.0 other.1)
one_reason P x NoCastling NoMoveText one other = absurd (other.0 one.0)
one_reason P x NoCastling CastlingAttacked one other = absurd (one.1 other.1.0 other.1.1)
one_reason P x NoCastling WrongPromotion one other = absurd (no_promotion_castling P x one.0 other)
one_reason P x NoCastling NoneCan one other = absurd (no_man_castling P x one.0 other)
one_reason P x NoCastling LeavesKingAttacked one other = absurd (no_king_castling P x one.0 other)
one_reason P x CastlingAttacked NoMoveText one other = absurd (other.0 one.0)
one_reason P x CastlingAttacked NoCastling one other = absurd (other.1 one.1.0 one.1.1)
one_reason P x CastlingAttacked WrongPromotion one other =
    absurd (no_promotion_castling P x one.0 other)
one_reason P x CastlingAttacked NoneCan one other = absurd (no_man_castling P x one.0 other)
one_reason P x CastlingAttacked LeavesKingAttacked one other =
    absurd (no_king_castling P x one.0 other)
one_reason P x WrongPromotion NoMoveText one other = absurd (other.1 one.0 one.1)
one_reason P x WrongPromotion NoCastling one other = absurd (no_promotion_castling P x other.0 one)
one_reason P x WrongPromotion CastlingAttacked one other =
    absurd (no_promotion_castling P x other.0 one)
one_reason P x WrongPromotion NoneCan one other =
    absurd (no_promotion_helps P x other.0 other.1 other.2 one)
one_reason P x WrongPromotion LeavesKingAttacked one other =
    absurd (no_right_promotion P x other.0 other.1 (goes_as_said P x other.0 other.1 other.2) one)
one_reason P x NoneCan NoMoveText one other = absurd (other.1 one.0 one.1)
one_reason P x NoneCan NoCastling one other = absurd (no_man_castling P x other.0 one)
one_reason P x NoneCan CastlingAttacked one other = absurd (no_man_castling P x other.0 one)
one_reason P x NoneCan WrongPromotion one other =
    absurd (no_promotion_helps P x one.0 one.1 one.2 other)
one_reason P x NoneCan LeavesKingAttacked one other =
    absurd (no_man_that_goes P x other.0 other.0.promote other.1
    (goes_as_said P x other.0 other.1 other.2) one)
one_reason P x LeavesKingAttacked NoMoveText one other = absurd (other.1 one.0 one.1)
one_reason P x LeavesKingAttacked NoCastling one other = absurd (no_king_castling P x other.0 one)
one_reason P x LeavesKingAttacked CastlingAttacked one other =
    absurd (no_king_castling P x other.0 one)
one_reason P x LeavesKingAttacked WrongPromotion one other =
    absurd (no_right_promotion P x one.0 one.1 (goes_as_said P x one.0 one.1 one.2) other)
one_reason P x LeavesKingAttacked NoneCan one other =
    absurd (no_man_that_goes P x one.0 one.0.promote one.1 (goes_as_said P x one.0 one.1 one.2)
    other)
one_reason P x _ _ one other = refl
