-- Why a text names no legal move, and the only move from a square that has a fact, as that a text
-- names it.
use Rattle.std.specs.Prelude.{◌≡◌, ◌⊎◌, ℕ, List, Option, Some, MatchOption}
use Rattle.chess.specs.Public.Squares.{Place}
use Rattle.chess.specs.Public.Positions.{State, IsCheck}
use Rattle.chess.specs.Public.Moves.{IsPseudoLegal, men_after}
use Rattle.chess.specs.Public.San.{Said, Spells, IsCastlingText, Agrees}
use Rattle.chess.specs.declared.board.man.Kind.{Kind}
use Rattle.chess.specs.declared.board.man.Wing.{Wing}
use Rattle.chess.specs.declared.moves.Move.{Move}
use Rattle.chess.specs.declared.move_text.refusal.Refusal.{Refusal}
use Rattle.chess.specs.declared.move_text.refusal.Refusal.TheVariants.{NoMoveText, CastlingAttacked}
use Rattle.chess.specs.declared.move_text.refusal.Refusal.TheVariants.{NoCastling, WrongPromotion}
use Rattle.chess.specs.declared.move_text.refusal.Refusal.TheVariants.{NoneCan, LeavesKingAttacked}

-- the text speaks of the move: of castling on that wing, or of a move that agrees with what it says
abbrev pub IsSpokenOf : State → List ℕ → Move → Type 0
IsSpokenOf P x m = ((wing : Wing) × IsCastlingText wing x × (m.castle ≡ Some wing))
    ⊎ ((said : Said) × Spells x said × Agrees P said m)

-- and a man goes there by its own rules, whether or not the move is legal
abbrev pub IsMeant : State → List ℕ → Move → Type 0
IsMeant P x m = IsPseudoLegal P m × IsSpokenOf P x m

-- the text of castling on some wing
abbrev pub IsSomeCastlingText : List ℕ → Type 0
IsSomeCastlingText x = (wing : Wing) × IsCastlingText wing x

-- the same is said but for what the man becomes
abbrev pub becoming : Option Kind → Said → Said
becoming promote said = record said { promote = promote }

-- a man goes as is said by its own rules
abbrev pub CanGoAs : State → Said → Type 0
CanGoAs P said = (m : Move) × IsPseudoLegal P m × Agrees P said m

-- of a text that names no legal move: why it names none
abbrev pub IsRefusal : State → List ℕ → Refusal → Type 0
-- it speaks of no move, in whatever position
IsRefusal P x NoMoveText = (IsSomeCastlingText x → ⊥) × ((said : Said) → Spells x said → ⊥)
-- the right to castle is lost, or a man stands between king and rook
IsRefusal P x NoCastling = IsSomeCastlingText x × ((m : Move) → IsMeant P x m → ⊥)
-- neither is so: an attack bars it
IsRefusal P x CastlingAttacked = IsSomeCastlingText x × ((m : Move) × IsMeant P x m)
-- no man that is spoken of can go there, but one would if it became something else, or nothing
IsRefusal P x WrongPromotion =
    (said : Said) × Spells x said × (CanGoAs P said → ⊥)
    × ((promote : Option Kind) × CanGoAs P (becoming promote said))
-- no man that is spoken of can go there, whatever it becomes
IsRefusal P x NoneCan = (said : Said) × Spells x said
    × ((promote : Option Kind) → CanGoAs P (becoming promote said) → ⊥)
-- some man can go there, and each that does leaves its king attacked
IsRefusal P x LeavesKingAttacked =
    (said : Said) × Spells x said × ((m : Move) × IsMeant P x m)
    × ((m : Move) → IsMeant P x m → IsCheck (men_after P m) P.turn)

-- the only move from the square that has the fact
abbrev pub IsFrom : (Move → Type 0) → Place → Option Move → Type 0
IsFrom fact s found =
    MatchOption found ((m : Move) → m.from ≡ s → fact m
    → ⊥) (λ m. (m.from ≡ s) × fact m × ((n : Move) → n.from ≡ s → fact n → n ≡ m))
