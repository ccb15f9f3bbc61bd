-- What a walk tells of the plies of a line.
use Rattle.pgn_criteria.proofs.Common.{◌≡◌, ◌↔◌, ◌+◌, ◌++◌, ℕ, zero, suc, Bool, false, List, []}
use Rattle.pgn_criteria.proofs.Common.{◌∷◌, length, get_or, Some, IsTrue, refl, sym, ap, ◌∙◌}
use Rattle.pgn_criteria.proofs.Common.{subst, arith, inl, inr, same_Some, slice_get}
use Rattle.pgn_criteria.proofs.Common.{State, Replay, PlyCode, codes_in, PositionsHold}
use Rattle.pgn_criteria.proofs.Common.{PositionCondition, Conditions, FitsAt, slice_get_within}
use Rattle.pgn_criteria.proofs.Common.{◌≤◌, ◌<◌, ◌/◌, append_assoc, drop}
use Rattle.std.proofs.lemmas.Option.{slice_get_cases}
use Rattle.chess.specs.Public.Moves.{after}
use Rattle.chess.specs.declared.moves.Move.{Move}
use Rattle.pgn_game.specs.Public.CodeLines.{AreLegalMoves, positions_from}
use Rattle.pgn_game.specs.Public.PlyCodes.{AreCodes, code_of}
use Rattle.pgn_criteria.specs.Public.Prefilters.{IsPlayedBy}
use Rattle.pgn_criteria.specs.Public.Walks.{Sight, IsSightOf, stepped}
use Rattle.pgn_criteria.specs.Private.SeenPlies.{Fits, IsToldTo, TellsSeen}
use Rattle.pgn_criteria.specs.Private.Counted.{IsBesidePlies}
use Rattle.pgn_criteria.specs.Private.Told.{AllAbout, AreTold, IsBeside, SaysAbout}
use Rattle.pgn_criteria.specs.declared.played.About.TheVariants as about
use Rattle.std.specs.Prelude.{replicate, true}
use Rattle.pgn_criteria.proofs.CodedLines.{codes_count, played_count}
use Rattle.pgn_criteria.proofs.StandFacts.{three, below}
use Rattle.pgn_criteria.proofs.ToldFacts.{told_within}
use Rattle.pgn_criteria.proofs.TurnAbout.{all_parted}
use Rattle.pgn_criteria.proofs.Common.{AllClaims, MoveClaim, Next, Played, Setup, Stated}
use Rattle.pgn_criteria.proofs.WalkFacts.{seen_said, step_shows_next_position}

-- the code that the first three bytes spell
abbrev pub first_code : List ℕ → PlyCode
first_code left = code_of (get_or left 0 0) (get_or left 1 0) (get_or left 2 0)

module _ (conditions : List (PositionCondition (List ℕ))) where
  -- it is told of what is seen before the codes, and of what is seen after each
  pub tells_size : (s : Sight) (codes : List PlyCode) (told : List Bool)
      → TellsSeen conditions s codes told → length told ≡ length codes + 1
  tells_size s [] told (is, items, reports) = ap length items
  tells_size s (c ∷ codes) told (is, more, items, reports, tells) =
      let rest = tells_size (stepped s c) codes more tells in
      let size = ap length items in omega (arith, rest, size)

  tells_each : (P : State) (moves : List Move) (s : Sight) (codes : List PlyCode)
      (told : List Bool) → AreCodes P moves codes → TellsSeen conditions s codes told
      → length told ≡ length (positions_from P moves)
  tells_each P [] s codes told are tells =
      let (is, items, reports) = subst (λ cs. TellsSeen conditions s cs told) are tells in
      ap length items
  tells_each P (m ∷ moves) s codes told (c, rest, is_code, code, are) tells =
      let (is, more, items, reports, on) =
      subst (λ cs. TellsSeen conditions s cs told) is_code tells in
      ap length items
      ∙ ap suc (tells_each (after P m) moves (stepped s c) rest more are on)

  -- what is told of a position of the line is whether the conditions hold there
  tells_there : (P : State) (moves : List Move) (s : Sight) (codes : List PlyCode)
      (told : List Bool) → IsSightOf P s → AreLegalMoves P moves → AreCodes P moves codes
      → TellsSeen conditions s codes told → (ply : ℕ) (Q : State)
      → slice_get (positions_from P moves) ply ≡ Some Q
      → IsTrue (get_or told ply false) ↔ PositionsHold Q conditions
  tells_there P [] s codes told sight legal are tells zero Q here =
      let (is, items, reports) = subst (λ cs. TellsSeen conditions s cs told) are tells in
      let said = seen_said P s.men s.turn (IsTrue s.check) (IsTrue s.stuck) conditions sight in
      subst (λ R. IsTrue (get_or told 0 false) ↔ PositionsHold R conditions)
      (same_Some P Q here)
      (subst (λ ts. IsTrue (get_or ts 0 false) ↔ PositionsHold P conditions) (sym items)
      (λ t. said.0 (reports.0 t), λ hold. reports.1 (said.1 hold)))
  tells_there P [] s codes told sight legal are tells (suc ply) Q here = absurd (cc (here))
  tells_there P (m ∷ moves) s codes told sight legal (c, rest, is_code, code, are) tells zero Q
      here =
      let (is, more, items, reports, on) =
      subst (λ cs. TellsSeen conditions s cs told) is_code tells in
      let said = seen_said P s.men s.turn (IsTrue s.check) (IsTrue s.stuck) conditions sight in
      subst (λ R. IsTrue (get_or told 0 false) ↔ PositionsHold R conditions)
      (same_Some P Q here)
      (subst (λ ts. IsTrue (get_or ts 0 false) ↔ PositionsHold P conditions) (sym items)
      (λ t. said.0 (reports.0 t), λ hold. reports.1 (said.1 hold)))
  tells_there P (m ∷ moves) s codes told sight legal (c, rest, is_code, code, are) tells (suc ply)
      Q here =
      let (is, more, items, reports, on) =
      subst (λ cs. TellsSeen conditions s cs told) is_code tells in
      subst (λ ts. IsTrue (get_or ts (suc ply) false) ↔ PositionsHold Q conditions) (sym items)
      (tells_there (after P m) moves (stepped s c) rest more
      (step_shows_next_position P m c s legal.0.pseudo_legal code sight) legal.1 are on ply Q here)

-- at the ply a position stands at which the conditions hold
abbrev pub HoldAt : Replay → List (PositionCondition (List ℕ)) → ℕ → Type 0
HoldAt replay conditions ply =
    (P : State) × (slice_get replay.positions ply ≡ Some P) × PositionsHold P conditions

-- so the plies of a game are told at whose positions conditions hold
module _ (conditions : List (PositionCondition (List ℕ))) (P : State) (s : Sight)
    (codes : List PlyCode) (replay : Replay) (sight : IsSightOf P s)
    (by : IsPlayedBy P codes replay) where
  tells_here : (told : List Bool) → TellsSeen conditions s codes told → (ply : ℕ) (Q : State)
      → slice_get replay.positions ply ≡ Some Q
      → IsTrue (get_or told ply false) ↔ PositionsHold Q conditions
  tells_here told tells ply Q here =
      tells_there conditions P replay.played s codes told sight by.line.legal by.told tells
      ply Q (ap (λ ps. slice_get ps ply) (sym by.line.positions) ∙ here)

  tells_all : (told : List Bool) → TellsSeen conditions s codes told
      → length told ≡ length replay.positions
  tells_all told tells =
      tells_each conditions P replay.played s codes told by.told tells
      ∙ ap length (sym by.line.positions)

  pub tells_line : (told : List Bool) → TellsSeen conditions s codes told
      → AreTold (HoldAt replay conditions) told
  tells_line told tells ply = elim (slice_get_cases replay.positions ply).1 [
    | inl (Q, within, here, same) ↦
        let there = tells_here told tells ply Q here in (
          λ t. (Q, here, there.0 t),
          λ hold. there.1
              (subst (λ R. PositionsHold R conditions)
              (same_Some hold.0 Q (sym hold.1 ∙ here)) hold.2),
        )
    | inr (past, none) ↦ (
      λ t. let within = told_within told ply t in let size = tells_all told tells in
          absurd (omega (arith, within, size, past)),
      λ hold. let within = slice_get_within replay.positions ply hold.0 hold.1 in
          absurd (omega (arith, within, past)),
    )
  ]

-- and where what it says of the moves beside them is so, an alternative fits that has no `position`
module _ (replay : Replay) (ply : ℕ) where
  none_here : (moves : List (Stated (MoveClaim (List ℕ)))) → AllClaims IsBesidePlies moves
      → AllAbout about.Here replay ply moves
  none_here [] beside = tt
  none_here (first ∷ more) beside =
      (still first.is_denied first.claim beside.0, none_here more beside.1)
    where
      still : (denied : Bool) (claim : MoveClaim (List ℕ)) → IsBesidePlies claim
          → SaysAbout about.Here replay ply denied claim
      still denied (Setup setup) is = absurd is
      still denied (Next word) is = tt
      still denied (Played word) is = tt

  pub fits_beside : (asked : Conditions) → AllClaims IsBesidePlies asked.moves
      → FitsAt replay asked ply
      ↔ (HoldAt replay asked.positions ply × IsBeside replay ply asked.moves)
  fits_beside asked beside =
      let parts = all_parted replay ply asked.moves in (
        λ fits. let said = parts.0 fits.3 in ((fits.0, fits.1, fits.2), (said.1, said.2)),
        λ both. (
          both.0.0,
          both.0.1,
          both.0.2,
          parts.1 (none_here asked.moves beside, both.1.0, both.1.1),
        ),
      )

-- where nothing is said of positions, each of them meets it
fit_codes : (s : Sight) (codes : List PlyCode)
    → TellsSeen [] s codes (replicate (suc (length codes)) true)
fit_codes s [] = (true, refl, ((λ t. inl tt), (λ fits. refl)))
fit_codes s (c ∷ codes) = (
  true,
  replicate (suc (length codes)) true,
  refl,
  ((λ t. inl tt), (λ fits. refl)),
  fit_codes (stepped s c) codes,
)

pub all_fit : (s : Sight) (bytes : List ℕ) (told : List Bool)
    → told ≡ replicate (length bytes / 3 + 1) true → TellsSeen [] s (codes_in bytes) told
all_fit s bytes told is =
    let count = codes_count bytes in
    let same : suc (length (codes_in bytes)) ≡ length bytes / 3 + 1 = omega (arith, count) in
    subst (TellsSeen [] s (codes_in bytes)) (ap (λ n. replicate n true) same ∙ sym is)
    (fit_codes s (codes_in bytes))

-- one more ply is told, and the last
module _ (conditions : List (PositionCondition (List ℕ))) (start s : Sight) (all left : List ℕ)
    (told new : List Bool) (is : Bool) (to : IsToldTo conditions start all s left told)
    (items : new ≡ told ++ is ∷ []) (reports : IsTrue is ↔ Fits conditions s) where
  pub told_next : (rest : List ℕ) → 3 ≤ length left → rest ≡ drop 3 left
      → IsToldTo conditions start all (stepped s (first_code left)) rest new
  told_next rest long same more tells =
      subst (TellsSeen conditions start (codes_in all))
      (sym (append_assoc told (is ∷ []) more) ∙ ap (λ ts. ts ++ more) (sym items))
      (to (is ∷ more)
      (rw (three left long) (
        is,
        more,
        refl,
        reports,
        subst (λ bs. TellsSeen conditions (stepped s (first_code left)) (codes_in bs) more) same
            tells,
      )))

  pub told_last : length left < 3 → TellsSeen conditions start (codes_in all) new
  told_last short =
      subst (TellsSeen conditions start (codes_in all)) (sym items)
      (to (is ∷ []) (rw (below left short) (is, refl, reports)))

-- ---- alternatives

-- how many positions a line has that is played by codes
pub line_size : (P : State) (moves : List Move) → length (positions_from P moves) ≡ length moves + 1
line_size P [] = refl
line_size P (m ∷ moves) = let more = line_size (after P m) moves in omega (arith, more)

pub positions_count : (P : State) (bytes : List ℕ) (replay : Replay)
    → IsPlayedBy P (codes_in bytes) replay → length replay.positions ≡ length bytes / 3 + 1
positions_count P bytes replay by =
    ap length by.line.positions ∙ line_size P replay.played
    ∙ ap (λ n. n + 1) (played_count P bytes replay by)
