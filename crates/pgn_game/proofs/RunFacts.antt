-- What the elements left of a line do, by the line that they spell.
use Rattle.std.specs.Prelude.{◌⊎◌}
use Rattle.pgn_game.proofs.Common.{◌≡◌, true, List, [], ◌∷◌, ◌++◌, refl, sym, ap, ◌∙◌, subst, inl}
use Rattle.pgn_game.proofs.Common.{inr, append_assoc, append-nil, State, Item, VariationClose}
use Rattle.pgn_game.proofs.Common.{Fault, IsLineFault, HaveFault, Line, LineEnd, ThenMove}
use Rattle.pgn_game.proofs.Common.{ThenGlyph, ThenComment, ThenVariation, spelled, IsPlayed}
use Rattle.pgn_game.proofs.Common.{ArePlayed, is_inside, gone_on, begun, first_level, Runs, Stops}
use Rattle.pgn_game.proofs.Common.{IsPaired, LineMove, Level}
use Rattle.pgn_game.proofs.Spelling.{one_spelt}

-- a line is played, and what stands after it from some level on
abbrev pub PlayedThen : Level → List Level → Line → List Item → List LineMove → Type 0
PlayedThen level outer line rest turns =
    (own : List LineMove) × (more : List LineMove) × (last : Level) × (turns ≡ own ++ more)
    × IsPlayed (is_inside outer) level.before level.now line own × Runs rest last outer more

pub run_line : (line : Line) (rest : List Item) (level : Level) (outer : List Level)
    (turns : List LineMove)
    → Runs (spelled line ++ rest) level outer turns → PlayedThen level outer line rest turns
run_line LineEnd rest level outer turns runs = ([], turns, level, refl, refl, runs)
run_line (ThenMove word line) rest level outer turns (turn, more, is, says, runs) =
    let there = run_line line rest (gone_on level turn) outer more runs in (
      turn ∷ there.0,
      there.1,
      there.2,
      is ∙ ap (λ ts. turn ∷ ts) there.3,
      (turn, there.0, refl, says, there.4),
      there.5,
    )
run_line (ThenGlyph number line) rest level outer turns runs =
    run_line line rest level outer turns runs
run_line (ThenComment text line) rest level outer turns runs =
    run_line line rest level outer turns runs
run_line (ThenVariation inner line) rest level outer turns runs =
    let inside =
    run_line inner (VariationClose ∷ (spelled line ++ rest)) (begun level) (level ∷ outer) turns
    (rw (← (append_assoc (spelled inner) (VariationClose ∷ spelled line) rest)) runs) in
    let there = run_line line rest level outer inside.1 inside.5 in (
      inside.0 ++ there.0,
      there.1,
      there.2,
      inside.3 ∙ ap (λ ts. inside.0 ++ ts) there.3 ∙ sym (append_assoc inside.0 there.0 there.1),
      (inside.0, there.0, refl, inside.4, there.4),
      there.5,
    )

-- or it has the fault, or what stands after it has
abbrev pub FaultThen : Level → List Level → Line → List Item → Fault → Type 0
FaultThen level outer line rest fault =
    IsLineFault (is_inside outer) level.before level.now level.plies line fault
    ⊎ ((own : List LineMove) × (last : Level)
    × IsPlayed (is_inside outer) level.before level.now line own × Stops rest last outer fault)

pub stop_line : (line : Line) (rest : List Item) (level : Level) (outer : List Level)
    (fault : Fault)
    → Stops (spelled line ++ rest) level outer fault → FaultThen level outer line rest fault
stop_line LineEnd rest level outer fault stops = inr ([], level, refl, stops)
stop_line (ThenMove word line) rest level outer fault (inl refused) = inl (inl refused)
stop_line (ThenMove word line) rest level outer fault (inr (turn, says, stops)) =
    turn_then (stop_line line rest (gone_on level turn) outer fault stops)
  where
    turn_then : FaultThen (gone_on level turn) outer line rest fault
        → FaultThen level outer (ThenMove word line) rest fault
    turn_then (inl met) = inl (inr (turn, says, met))
    turn_then (inr (own, last, played, later)) =
        inr (turn ∷ own, last, (turn, own, refl, says, played), later)
stop_line (ThenGlyph number line) rest level outer fault stops =
    stop_line line rest level outer fault stops
stop_line (ThenComment text line) rest level outer fault stops =
    stop_line line rest level outer fault stops
stop_line (ThenVariation inner line) rest level outer fault stops =
    varied (stop_line inner (VariationClose ∷ (spelled line ++ rest)) (begun level) (level
    ∷ outer) fault
    (rw (← (append_assoc (spelled inner) (VariationClose ∷ spelled line) rest)) stops))
    (λ stops. stop_line line rest level outer fault stops)
  where
    out_of : (own : List LineMove) → IsPlayed true level.before level.before inner own
        → FaultThen level outer line rest fault
        → FaultThen level outer (ThenVariation inner line) rest fault
    out_of own played (inl met) = inl (inr (own, played, met))
    out_of own played (inr (more, last, there, later)) =
        inr (own ++ more, last, (own, more, refl, played, there), later)

    varied : FaultThen (begun level) (level ∷ outer) inner (VariationClose
        ∷ (spelled line ++ rest)) fault
        → (Stops (spelled line ++ rest) level outer fault → FaultThen level outer line rest fault)
        → FaultThen level outer (ThenVariation inner line) rest fault
    varied (inl met) back = inl (inl met)
    varied (inr (own, last, played, later)) back = out_of own played (back later)

-- the whole
pub all_run : (line : Line) (level : Level) (outer : List Level) (turns : List LineMove)
    → Runs (spelled line) level outer turns
    → IsPlayed (is_inside outer) level.before level.now line turns
all_run line level outer turns runs =
    let there =
    run_line line [] level outer turns
    (subst (λ items. Runs items level outer turns) (sym (append-nil (spelled line))) runs) in
    subst (λ ts. IsPlayed (is_inside outer) level.before level.now line ts)
    (sym (there.3 ∙ ap (λ ts. there.0 ++ ts) there.5 ∙ append-nil there.0)) there.4

pub all_stop : (line : Line) (level : Level) (outer : List Level) (fault : Fault)
    → Stops (spelled line) level outer fault
    → IsLineFault (is_inside outer) level.before level.now level.plies line fault
all_stop line level outer fault stops =
    ends (stop_line line [] level outer fault
    (subst (λ items. Stops items level outer fault) (sym (append-nil (spelled line))) stops))
  where
    ends : FaultThen level outer line [] fault
        → IsLineFault (is_inside outer) level.before level.now level.plies line fault
    ends (inl met) = met
    ends (inr (own, last, played, none)) = absurd none

-- from the start
pub runs_played : (start : State) (items : List Item) (turns : List LineMove) → IsPaired 0 items
    → Runs items (first_level start) [] turns → ArePlayed start items turns
runs_played start items turns paired runs =
    let line = one_spelt items paired in (
      line.0,
      line.1,
      all_run line.0 (first_level start) [] turns
          (subst (λ xs. Runs xs (first_level start) [] turns) line.1 runs),
    )

pub stops_faulty : (start : State) (items : List Item) (fault : Fault) → IsPaired 0 items
    → Stops items (first_level start) [] fault → HaveFault start items fault
stops_faulty start items fault paired stops =
    let line = one_spelt items paired in (
      line.0,
      line.1,
      all_stop line.0 (first_level start) [] fault
          (subst (λ xs. Stops xs (first_level start) [] fault) line.1 stops),
    )
