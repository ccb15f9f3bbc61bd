-- Conditions by what they are tried on: the game alone, or a position.
use Rattle.std.specs.Prelude.{◌≡◌, ◌↔◌, ◌≤◌, ◌<◌, ◌+◌, if◌then◌else◌, ℕ, Bool, true, false, List}
use Rattle.std.specs.Prelude.{[], ◌∷◌, length, Option, Some, None, ◌⊎◌}
use Rattle.chess.specs.Public.Fen.{parted_at}
use Rattle.chess.specs.Public.Placements.{Placement, opposite}
use Rattle.chess.specs.Public.Positions.{State}
use Rattle.std.specs.List.{slice_get}
use Rattle.chess.specs.Public.Moves.{IsLegal}
use Rattle.chess.specs.declared.board.man.Side.{Side}
use Rattle.chess.specs.declared.board.man.Side.TheVariants.{White}
use Rattle.chess.specs.declared.moves.Move.{Move}
use Rattle.pgn_text.specs.Public.Strings.{IsContents}
use Rattle.pgn_game.specs.Public.Replays.{Replay}
use Rattle.pgn_criteria.specs.Public.Conditions.{Conditions}
use Rattle.pgn_criteria.specs.Public.Mirrors.{mirrored_men, can_be_mirrored}
use Rattle.pgn_criteria.specs.Public.MoveTexts.{FitMoves}
use Rattle.pgn_criteria.specs.Public.Words.{words_of}
use Rattle.pgn_criteria.specs.Public.Comparing.{Compares}
use Rattle.pgn_criteria.specs.declared.compare.Comparison.{Comparison}
use Rattle.pgn_criteria.specs.Public.Meeting.{Heading, HasOneOf, Taken, AllTaken, IsSoOfGame}
use Rattle.pgn_criteria.specs.Public.Meeting.{IsSoOfMoves, IsSoOf, PositionsHold, is_turned, AreAll}
use Rattle.pgn_criteria.specs.Public.Meeting.{SpansHold}
use Rattle.pgn_criteria.specs.Private.DateEnds.{AreGoodDays}
use Rattle.pgn_criteria.specs.declared.meets.Stage.{Stage}
use Rattle.pgn_criteria.specs.declared.meets.Stage.TheVariants.{Squares, Men, Attacks, Replies}
use Rattle.pgn_criteria.specs.declared.condition.Condition.{Condition}
use Rattle.pgn_criteria.specs.declared.condition.Condition.TheVariants.{Game, Position}
use Rattle.pgn_criteria.specs.declared.condition.Condition.TheVariants.{Move as Moving, Span}
use Rattle.pgn_criteria.specs.declared.condition.Stated.{Stated}
use Rattle.pgn_criteria.specs.declared.condition.ValueClaim.{ValueClaim}
use Rattle.pgn_criteria.specs.declared.condition.ValueClaim.TheVariants.{Text, Number, Date}
use Rattle.pgn_criteria.specs.declared.condition.GameClaim.{GameClaim}
use Rattle.pgn_criteria.specs.declared.condition.GameClaim.TheVariants.{Tag, Moves, Plies, Result}
use Rattle.pgn_criteria.specs.declared.condition.PositionCondition.{PositionCondition}
use Rattle.pgn_criteria.specs.declared.condition.PositionClaim.{PositionClaim}
use Rattle.pgn_criteria.specs.declared.condition.PositionClaim.TheVariants.{Fen, Flip, Material}
use Rattle.pgn_criteria.specs.declared.condition.PositionClaim.TheVariants.{Turn, Check, Mate}
use Rattle.pgn_criteria.specs.declared.condition.PositionClaim.TheVariants.{Stalemate}
use Rattle.pgn_criteria.specs.declared.condition.MoveClaim.{MoveClaim}
use Rattle.pgn_criteria.specs.declared.condition.MoveClaim.TheVariants.{Next, Played, Setup}
use Rattle.pgn_criteria.specs.declared.condition.SpanClaim.{SpanClaim}
use Rattle.pgn_criteria.specs.declared.condition.SpanClaim.TheVariants.{For, Count}

-- claims and conditions by the bytes of their texts
abbrev pub value_seen : {T : Type 0} → (T → List ℕ) → ValueClaim T → ValueClaim (List ℕ)
value_seen bytes (Text relation contents) = Text relation (bytes contents)
value_seen bytes (Number comparison number) = Number comparison number
value_seen bytes (Date comparison days) = Date comparison days

abbrev pub game_seen : {T : Type 0} → (T → List ℕ) → GameClaim T → GameClaim (List ℕ)
game_seen bytes (Tag names value) = Tag (bytes names) (value_seen bytes value)
game_seen bytes (Moves words) = Moves (bytes words)
game_seen bytes (Plies comparison count) = Plies comparison count
game_seen bytes (Result result) = Result (bytes result)

abbrev pub position_seen : {T : Type 0} → (T → List ℕ) → PositionClaim T → PositionClaim (List ℕ)
position_seen bytes (Fen pattern) = Fen (bytes pattern)
position_seen bytes (Flip pattern) = Flip (bytes pattern)
position_seen bytes (Material white black) = Material white black
position_seen bytes (Turn side) = Turn side
position_seen bytes Check = Check
position_seen bytes Mate = Mate
position_seen bytes Stalemate = Stalemate

abbrev pub move_seen : {T : Type 0} → (T → List ℕ) → MoveClaim T → MoveClaim (List ℕ)
move_seen bytes (Next word) = Next (bytes word)
move_seen bytes (Played word) = Played (bytes word)
move_seen bytes (Setup setup) = Setup setup

abbrev pub stated : {C D : Type 0} → (C → D) → Stated C → Stated D
stated seen_as own = record { is_denied = own.is_denied; claim = seen_as own.claim }

abbrev pub seen : {T : Type 0} → (T → List ℕ) → PositionCondition T → PositionCondition (List ℕ)
seen bytes own =
    record {
      is_either = own.is_either;
      is_denied = own.is_denied;
      claim =
          position_seen bytes own.claim;
    }

abbrev pub condition_seen : {T : Type 0} → (T → List ℕ) → Condition T → Condition (List ℕ)
condition_seen bytes (Game own) = Game (stated (game_seen bytes) own)
condition_seen bytes (Position own) = Position (seen bytes own)
condition_seen bytes (Moving own) = Moving (stated (move_seen bytes) own)
condition_seen bytes (Span claim) = Span claim

-- the contents of a claim on a tag's value are those of a string, and its days some of a year
abbrev pub IsGoodValue : ValueClaim (List ℕ) → Type 0
IsGoodValue (Text relation contents) = IsContents contents
IsGoodValue (Number comparison number) = Unit {0}
IsGoodValue (Date comparison days) = AreGoodDays days

abbrev pub IsGood : GameClaim (List ℕ) → Type 0
IsGood (Tag names value) = IsGoodValue value
IsGood claim = Unit {0}

-- all claims are such
abbrev pub AllClaims : {C : Type 0} → (C → Type 0) → List (Stated C) → Type 0
AllClaims Such [] = Unit {0}
AllClaims Such (one ∷ more) = Such one.claim × AllClaims Such more

abbrev pub AreGood : Conditions → Type 0
AreGood asked = AllClaims IsGood asked.games

-- each of the alternatives is such
abbrev pub EachIs : (Conditions → Type 0) → List Conditions → Type 0
EachIs Such [] = Unit {0}
EachIs Such (asked ∷ more) = Such asked × EachIs Such more

abbrev pub AllGood : List Conditions → Type 0
AllGood alternatives = EachIs AreGood alternatives

-- each move is legal in its position
abbrev pub AreLegal : Replay → Type 0
AreLegal replay = (i : ℕ) (P : State) (m : Move) → slice_get replay.positions i ≡ Some P
    → slice_get replay.played i ≡ Some m → IsLegal P m

-- what the conditions say of the game alone, and of the moves before and after so many plies
abbrev pub AllOfGame : Heading → Replay → Conditions → Type 0
AllOfGame heading replay asked = AllTaken (IsSoOfGame heading replay) asked.games

abbrev pub AllOfPly : Replay → ℕ → Conditions → Type 0
AllOfPly replay ply asked = AllTaken (IsSoOfMoves replay ply) asked.moves

-- what a condition says of the tags and of the result
abbrev pub SaysOfHeading : Heading → Bool → GameClaim (List ℕ) → Type 0
SaysOfHeading heading denied (Tag names value) =
    Taken denied (HasOneOf heading value (parted_at 124 names))
SaysOfHeading heading denied (Result result) = Taken denied (heading.result ≡ result)
SaysOfHeading heading denied claim = Unit {0}

abbrev pub AllOfHeading : Heading → List (Stated (GameClaim (List ℕ))) → Type 0
AllOfHeading heading [] = Unit {0}
AllOfHeading heading (one ∷ more) = SaysOfHeading heading one.is_denied one.claim
    × AllOfHeading heading more

-- the claim does not speak of the moves of the game
abbrev pub IsFreeOfMoves : GameClaim (List ℕ) → Type 0
IsFreeOfMoves (Moves words) = ⊥
IsFreeOfMoves (Plies comparison count) = ⊥
IsFreeOfMoves claim = Unit {0}

abbrev pub AreFreeOfMoves : Conditions → Type 0
AreFreeOfMoves asked = AllClaims IsFreeOfMoves asked.games × (asked.moves ≡ []) × (asked.spans ≡ [])

-- a claim asks for no more than so many first moves
abbrev pub AsksWithin : ℕ → GameClaim (List ℕ) → Type 0
AsksWithin most (Moves words) = length (words_of words) ≤ most
AsksWithin most (Plies comparison count) = count < most
AsksWithin most claim = Unit {0}

abbrev pub AllAskWithin : ℕ → Conditions → Type 0
AllAskWithin most asked = AllClaims (AsksWithin most) asked.games × (asked.moves ≡ [])
    × (asked.spans ≡ [])

abbrev pub EachAsksWithin : ℕ → List Conditions → Type 0
EachAsksWithin most alternatives = EachIs (AllAskWithin most) alternatives

-- none of the conditions asks for more of a game than so many first moves; none where one asks for
-- each
abbrev pub AllWithin : Option ℕ → List Conditions → Type 0
AllWithin None alternatives = Unit {0}
AllWithin (Some most) alternatives = EachAsksWithin most alternatives

-- so many first moves of a game fit the same words of either replay, and are compared alike with
-- each lesser number
pub record FitTheSame (most : ℕ) (replay other : Replay) : Type 0 where
  pub words : (words : List (List ℕ)) → length words ≤ most
      → FitMoves replay 0 words ↔ FitMoves other 0 words
  pub counts : (comparison : Comparison) (count : ℕ) → count < most
      → Compares comparison (length replay.played) count
      ↔ Compares comparison (length other.played) count

-- the claim is so of a position by what is seen of it: its men, the side to move, whether that side
-- is in check, and whether it has no move
abbrev pub IsSoOfSeen : Placement → Side → Type 0 → Type 0 → PositionClaim (List ℕ) → Type 0
IsSoOfSeen men turn Checked Stuck claim =
    IsSoOf men turn Checked (Checked × Stuck) ((¬ Checked) × Stuck) claim

-- what a condition says of one position by what is seen of it
abbrev pub SaysOfSeen : Placement → Side → Type 0 → Type 0 → Bool → PositionClaim (List ℕ) → Type 0
SaysOfSeen men turn Checked Stuck denied claim =
    Taken denied (IsSoOfSeen men turn Checked Stuck claim)

abbrev pub OfSeen : Placement → Side → Type 0 → Type 0 → PositionCondition (List ℕ) → Type 0
OfSeen men turn Checked Stuck condition =
    SaysOfSeen men turn Checked Stuck condition.is_denied condition.claim

-- what all conditions say is so there, whether they have `either` or not
abbrev pub AllSaid : Placement → Side → Type 0 → Type 0 → List (PositionCondition (List ℕ)) → Type 0
AllSaid men turn Checked Stuck [] = Unit {0}
AllSaid men turn Checked Stuck (condition ∷ more) =
    OfSeen men turn Checked Stuck condition × AllSaid men turn Checked Stuck more

-- what each condition says is so there, or where it has `either`, of the other men with the other
-- side to move
abbrev pub EachOfSeen : Placement → Side → Placement → Side → Type 0 → Type 0
    → List (PositionCondition (List ℕ)) → Type 0
EachOfSeen men turn others other Checked Stuck [] = Unit {0}
EachOfSeen men turn others other Checked Stuck (condition ∷ more) =
    OfSeen (if is_turned condition then others else men) (if is_turned condition then other
    else turn) Checked Stuck condition
    × EachOfSeen men turn others other Checked Stuck more

-- what the conditions of an alternative say is so there
abbrev pub AllOfSeen : Placement → Side → Type 0 → Type 0 → List (PositionCondition (List ℕ))
    → Type 0
AllOfSeen men turn Checked Stuck conditions =
    EachOfSeen men turn men turn Checked Stuck conditions
    ⊎ EachOfSeen men turn (mirrored_men men) (opposite turn) Checked Stuck conditions

-- what a claim says of the men and of the side to move, if it speaks of these alone
abbrev pub SaysOfMen : Placement → Side → Bool → PositionClaim (List ℕ) → Type 0
SaysOfMen men turn denied claim = SaysOfSeen men turn ⊥ ⊥ denied claim

-- the claim is one that can be made of the mirror, and is so of men where the other one is so of
-- their mirror
pub record IsMirrorOf (own claim : PositionClaim (List ℕ)) : Type 0 where
  pub can : can_be_mirrored own ≡ true
  pub alike : (men : Placement) (turn : Side) (denied : Bool)
      → SaysOfMen men turn denied own ↔ SaysOfMen (mirrored_men men) (opposite turn) denied claim

-- the condition holds where the other one does, or where that has `either`, at the mirror
pub record IsMirrored (own condition : PositionCondition (List ℕ)) : Type 0 where
  pub denied : own.is_denied ≡ condition.is_denied
  pub turned : is_turned condition ≡ true → IsMirrorOf own.claim condition.claim
  pub fixed : is_turned condition ≡ false → own.claim ≡ condition.claim

abbrev pub AreMirrored : List (PositionCondition (List ℕ)) → List (PositionCondition (List ℕ))
    → Type 0
AreMirrored own [] = own ≡ []
AreMirrored own (condition ∷ more) = (one : PositionCondition (List ℕ))
    × (rest : List (PositionCondition (List ℕ))) × (own ≡ one ∷ rest) × IsMirrored one condition
    × AreMirrored rest more

-- none of the conditions has `either`
abbrev pub AreFixed : List (PositionCondition (List ℕ)) → Type 0
AreFixed [] = Unit {0}
AreFixed (condition ∷ more) = (condition.is_either ≡ false) × AreFixed more

-- those on positions alone
abbrev pub on_positions : Conditions → Conditions
on_positions asked = record { games = []; positions = asked.positions; moves = []; spans = [] }

-- those on single plies
abbrev pub on_plies : Conditions → Conditions
on_plies asked =
    record { games = []; positions = asked.positions; moves = asked.moves; spans = [] }

-- what the conditions say of the position after so many plies, and of the moves before and after
-- it, is so
abbrev pub FitsAt : Replay → Conditions → ℕ → Type 0
FitsAt replay asked plies = (P : State) × (slice_get replay.positions plies ≡ Some P)
    × PositionsHold P asked.positions × AllOfPly replay plies asked

-- and what `for` and `count` say of the plies at which they are so is so
abbrev pub FitsAbout : Replay → Conditions → ℕ → Type 0
FitsAbout replay asked plies = FitsAt replay asked plies
    × SpansHold (FitsAt replay asked) plies asked.spans

-- such a ply begins a run of so many: they are such, and the next one is not
pub record IsRun (Such : ℕ → Type 0) (ply run : ℕ) : Type 0 where
  pub all : (i : ℕ) → i < run → Such (ply + i)
  pub ended : Such (ply + run) → ⊥

-- so many plies are such
abbrev pub AreSoMany : (ℕ → Type 0) → ℕ → Type 0
AreSoMany Such many = (plies : List ℕ) × AreAll Such plies × (length plies ≡ many)

-- what `for` and `count` say of a ply that begins a run of so many, of so many in all
abbrev pub SpanStands : ℕ → ℕ → SpanClaim → Type 0
SpanStands run many (For count) = count ≤ run
SpanStands run many (Count comparison count) = Compares comparison many count

abbrev pub SpansStand : ℕ → ℕ → List SpanClaim → Type 0
SpansStand run many [] = Unit {0}
SpansStand run many (claim ∷ more) = SpanStands run many claim × SpansStand run many more

-- none of them is `count`
abbrev pub AreNoCounts : List SpanClaim → Type 0
AreNoCounts [] = Unit {0}
AreNoCounts (For count ∷ more) = AreNoCounts more
AreNoCounts (Count comparison count ∷ more) = ⊥

-- at which stage a claim is tried, and what the conditions of a stage say
abbrev pub stage_of : PositionClaim (List ℕ) → Stage
stage_of (Fen pattern) = Squares
stage_of (Flip pattern) = Squares
stage_of Check = Attacks
stage_of Mate = Replies
stage_of Stalemate = Replies
stage_of claim = Men

abbrev pub AllOfStage : Stage → Placement → Side → Type 0 → Type 0
    → List (PositionCondition (List ℕ)) → Type 0
AllOfStage stage men turn Checked Stuck [] = Unit {0}
AllOfStage stage men turn Checked Stuck (condition ∷ more) =
    (stage_of condition.claim ≡ stage → OfSeen men turn Checked Stuck condition)
    × AllOfStage stage men turn Checked Stuck more

-- what a pattern says of the men, whichever side is to move, and what the patterns among the
-- conditions say of them
abbrev pub OfPattern : Placement → PositionCondition (List ℕ) → Type 0
OfPattern men condition = OfSeen men White ⊥ ⊥ condition

abbrev pub AllOfPatterns : Placement → List (PositionCondition (List ℕ)) → Type 0
AllOfPatterns men [] = Unit {0}
AllOfPatterns men (condition ∷ more) =
    (stage_of condition.claim ≡ Squares → OfPattern men condition) × AllOfPatterns men more

-- what the conditions that are no patterns say
abbrev pub AllOfRest : Placement → Side → Type 0 → Type 0 → List (PositionCondition (List ℕ))
    → Type 0
AllOfRest men turn Checked Stuck conditions =
    AllOfStage Men men turn Checked Stuck conditions
    × AllOfStage Attacks men turn Checked Stuck conditions
    × AllOfStage Replies men turn Checked Stuck conditions

-- all conditions are patterns
abbrev pub ArePatterns : List (PositionCondition (List ℕ)) → Type 0
ArePatterns [] = Unit {0}
ArePatterns (condition ∷ more) = (stage_of condition.claim ≡ Squares) × ArePatterns more

-- the least number from one on and before another that has the fact, or none where none has
abbrev pub IsFirstBefore : (ℕ → Type 0) → ℕ → ℕ → Option ℕ → Type 0
IsFirstBefore fact from end None = (n : ℕ) → from ≤ n → n < end → fact n → ⊥
IsFirstBefore fact from end (Some n) = (from ≤ n) × (n < end) × fact n
    × ((m : ℕ) → from ≤ m → m < n → fact m → ⊥)
