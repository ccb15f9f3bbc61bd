-- Words for the parts of the search for a refusal.
use Rattle.std.specs.Prelude.{◌≡◌, ◌≢◌, Option, None}
use Rattle.chess.specs.Public.Squares.{Place, IsOnBoard}
use Rattle.chess.specs.Public.Positions.{State}
use Rattle.chess.specs.Public.Moves.{IsPseudoLegal, Promotes}
use Rattle.chess.specs.Public.San.{Said, kind_said}
use Rattle.chess.specs.Private.SanWords.{castling_on, IsCandidate}
use Rattle.chess.specs.Public.Refusals.{becoming}
use Rattle.chess.specs.declared.board.man.Kind.{Kind}
use Rattle.chess.specs.declared.board.man.Kind.TheVariants.{Pawn}
use Rattle.chess.specs.declared.board.man.Wing.{Wing}
use Rattle.chess.specs.declared.move_text.refusal.Refusal.{Refusal}
use Rattle.chess.specs.declared.move_text.refusal.Refusal.TheVariants.{NoMoveText, CastlingAttacked}
use Rattle.chess.specs.declared.move_text.refusal.Refusal.TheVariants.{NoCastling, WrongPromotion}
use Rattle.chess.specs.declared.move_text.refusal.Refusal.TheVariants.{NoneCan, LeavesKingAttacked}

-- why castling on the wing is not legal: it is pseudo-legal, or it is not
abbrev pub IsCastlingRefusal : State → Wing → Refusal → Type 0
IsCastlingRefusal P wing CastlingAttacked = IsPseudoLegal P (castling_on P.turn wing)
IsCastlingRefusal P wing NoCastling = IsPseudoLegal P (castling_on P.turn wing) → ⊥
IsCastlingRefusal P wing NoMoveText = ⊥
IsCastlingRefusal P wing WrongPromotion = ⊥
IsCastlingRefusal P wing NoneCan = ⊥
IsCastlingRefusal P wing LeavesKingAttacked = ⊥

-- no man is able to go as is said; some man is
abbrev pub NoCandidates : State → Said → Type 0
NoCandidates P said = (s : Place) → IsOnBoard s → IsCandidate P said s → ⊥

-- the promotion, or none, that the rules ask of a man of that kind on the square that it comes to
-- (of a pawn's promotions one)
abbrev pub IsFitting : State → Said → Option Kind → Type 0
IsFitting P said fit =
    (kind_said said.letter ≡ Pawn → Promotes P.turn said.target fit)
    × (kind_said said.letter ≢ Pawn → fit ≡ None)

-- why no legal move agrees with what is said: some man is a candidate, or none is but one would be
-- with another promotion, or none would
abbrev pub IsSaidRefusal : State → Said → Refusal → Type 0
IsSaidRefusal P said WrongPromotion = NoCandidates P said
    × ((promote : Option Kind) × (s : Place) × IsCandidate P (becoming promote said) s)
IsSaidRefusal P said NoneCan = (promote : Option Kind) → NoCandidates P (becoming promote said)
IsSaidRefusal P said LeavesKingAttacked = (s : Place) × IsCandidate P said s
IsSaidRefusal P said NoMoveText = ⊥
IsSaidRefusal P said NoCastling = ⊥
IsSaidRefusal P said CastlingAttacked = ⊥
