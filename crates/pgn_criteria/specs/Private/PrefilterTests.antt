-- The squares of one man, where men are moved by codes.
use Rattle.std.specs.Prelude.{◌≡◌, ◌≤◌, ◌⊎◌, ℕ, Bool, true, List, [], ◌∷◌, Option, Some, None}
use Rattle.std.specs.Prelude.{MatchOption, if◌then◌else◌}
use Rattle.chess.specs.Public.Positions.{State}
use Rattle.chess.specs.Public.Squares.{Place, IsOnBoard, same_square}
use Rattle.chess.specs.Public.Placements.{Placement, man_at, with_man}
use Rattle.chess.specs.Public.Moves.{with_rook}
use Rattle.chess.specs.Public.Sets.{Places, is_in}
use Rattle.chess.specs.declared.board.man.Man.{Man}
use Rattle.chess.specs.declared.board.man.Wing.{Wing}
use Rattle.pgn_game.specs.Public.PlyCodes.{PlyCode, moved}
use Rattle.pgn_criteria.specs.Private.Layouts.{Laid}
use Rattle.pgn_criteria.specs.Public.Materials.{count_of}
use Rattle.pgn_criteria.specs.Private.Planning.{Planned}
use Rattle.pgn_criteria.specs.Public.Meeting.{PositionsHold}
use Rattle.pgn_criteria.specs.declared.condition.PositionCondition.{PositionCondition}
use Rattle.pgn_criteria.specs.declared.layout.Layout.{Layout}
use Rattle.pgn_criteria.specs.declared.numbers.Few.{Few}
use Rattle.pgn_criteria.specs.declared.plan.Plan.{Plan}
use Rattle.pgn_criteria.specs.declared.prefilter.Prefilter.{Prefilter}
use Rattle.pgn_criteria.specs.declared.prefilter.PrefilterSite.{PrefilterSite}
use Rattle.pgn_criteria.specs.declared.prefilter.StandingSquares.{StandingSquares}

-- the square is in the set, or is not, and all else is as it was
abbrev pub IsPut : Place → Bool → Places → Places → Type 0
IsPut t is_his old new = (s : Place) → is_in new s
    ≡ (if same_square s t then is_his else is_in old s)

-- the men after that man has gone from one square to another, and his rook too where he castles
abbrev pub gone : Placement → Place → Place → Man → Option Wing → Placement
gone men from to man castle =
    with_rook man.side castle (with_man (with_man men from None) to (Some man))

-- on each of the squares stands a man
abbrev pub AreTaken : Placement → Places → Type 0
AreTaken men taken = (s : Place) → is_in taken s ≡ true
    → IsOnBoard s × ((other : Man) × (man_at men s ≡ Some other))

-- neither the men before the codes nor those after any of them have the fact
abbrev pub Nowhere : (Placement → Type 0) → Placement → List PlyCode → Type 0
Nowhere fact men [] = ¬ fact men
Nowhere fact men (code ∷ codes) = (¬ fact men) × Nowhere fact (moved men code) codes

-- the man stands on each of the squares wanted, and on free ones alone
pub record StaysOn (stand : StandingSquares) (man : Man) (men : Placement) : Type 0 where
  pub wanted : (s : Place) → is_in stand.wanted s ≡ true → IsOnBoard s × (man_at men s ≡ Some man)
  pub free : (s : Place) → IsOnBoard s → man_at men s ≡ Some man → is_in stand.free s ≡ true

-- he does, and others on clear squares alone
pub record StaysAt (site : PrefilterSite) (man : Man) (men : Placement) : Type 0 where
  pub his : StaysOn site.stand man men
  pub clear : (s : Place) (other : Man) → IsOnBoard s → man_at men s ≡ Some other
      → is_in site.clear s ≡ true

-- a man stands in the one way of a prefilter or, if there is another, in that
abbrev pub StaysAs : Prefilter → Man → Placement → Type 0
StaysAs prefilter man men = StaysAt prefilter.straight man men
    ⊎ MatchOption prefilter.turned ⊥ (λ turned. StaysAt turned man men)

-- its own man does
abbrev pub FitsPrefilter : Prefilter → Placement → Type 0
FitsPrefilter prefilter men = StaysAs prefilter prefilter.man men

-- the men stand as the one lays out or, if there is another, as that does
abbrev pub LaidEither : Placement → Layout → Option Layout → Type 0
LaidEither men straight turned = Laid men straight ⊎ MatchOption turned ⊥ (Laid men)

-- the prefilter's man does where the men stand as is planned
abbrev pub IsPrefilterOf : Plan → Prefilter → Type 0
IsPrefilterOf plan prefilter = (men : Placement) → Planned men plan → FitsPrefilter prefilter men

-- of the man no more than so many stand
abbrev pub AreFew : Few → Man → Placement → Type 0
AreFew few man men = count_of men man ≤ few.most

-- the men are those of a position at which all conditions of an alternative hold, but for those on
-- moves
abbrev pub FitsPlaced : List (PositionCondition (List ℕ)) → Placement → Type 0
FitsPlaced conditions men = (P : State) × (P.men ≡ men) × PositionsHold P conditions
