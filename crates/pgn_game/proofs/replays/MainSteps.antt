-- The main line of the steps of a walk: the positions after the turns that stand in no variation.
use Rattle.std.specs.Prelude.{◌==◌, if◌then◌else◌}
use Rattle.pgn_game.proofs.Common.{◌≡◌, ℕ, Bool, true, false, List, [], ◌∷◌, length, refl, ap, ◌+◌}
use Rattle.pgn_game.proofs.Common.{◌-◌, subst, arith, nat_tests, State, after, Move, Item, MoveText}
use Rattle.pgn_game.proofs.Common.{GlyphNumber, CommentText, VariationOpen, VariationClose, IsTurn}
use Rattle.pgn_game.proofs.Common.{after_turn, main_words, IsMainLine, Step, Turned, Beside, Walks}
use Rattle.pgn_game.proofs.Common.{shown_items, LineMove, Played, Passed, Level, begun, gone_on}
use Rattle.pgn_game.proofs.Common.{first_level, is_inside}
use Rattle.pgn_game.specs.Private.LineWalks.{main_now}
use Rattle.pgn_game.specs.Private.Steps.{outside, shown_if}

-- those positions
abbrev pub main_of : List Step → List State
main_of [] = []
main_of (Turned true before turn ∷ steps) = main_of steps
main_of (Turned false before turn ∷ steps) = after_turn before turn ∷ main_of steps
main_of (Beside item ∷ steps) = main_of steps

-- they go on the main line, with these lines around this one
abbrev HasMain : List Item → Level → List Level → List Step → Type 0
HasMain items line outer steps = (played : List Move)
    × IsMainLine (main_now line outer) (main_words items (length outer))
    (main_now line outer ∷ main_of steps) played

-- a turn, by the lines around it
turned : (outer : List Level) (line : Level) (word : List ℕ) (turn : LineMove) (items : List Item)
    (steps : List Step) → IsTurn (is_inside outer) line.now word turn
    → HasMain items (gone_on line turn) outer steps
    → HasMain (MoveText word ∷ items) line outer (Turned (is_inside outer) line.now turn ∷ steps)
turned [] line word (Played m) items steps says (played, is) =
    (m ∷ played, (m, after line.now m ∷ main_of steps, played, refl, refl, says, is))
turned [] line word Passed items steps says rest = absurd says
turned (out ∷ outer) line word turn items steps says (played, is) =
    let e : (length (out ∷ outer) == 0) ≡ false = grind (arith, nat_tests) in
    let words : main_words (MoveText word ∷ items) (length (out ∷ outer))
    ≡ main_words items (length (out ∷ outer)) =
    ap (λ (b : Bool). if b then word ∷ main_words items (length (out ∷ outer))
    else main_words items (length (out ∷ outer))) e in
    (played, rw words is)

main_rest : (items : List Item) (line : Level) (outer : List Level) (steps : List Step)
    → Walks items line outer steps → HasMain items line outer steps
main_rest [] line outer steps none = ([], (ap (λ ss. main_now line outer ∷ main_of ss) none, refl))
main_rest (MoveText word ∷ items) line outer steps (turn, more, is, says, walks) =
    rw is (turned outer line word turn items more says
    (main_rest items (gone_on line turn) outer more walks))
main_rest (GlyphNumber number ∷ items) line outer steps (more, is, walks) =
    rw is (main_rest items line outer more walks)
main_rest (CommentText text ∷ items) line outer steps (more, is, walks) =
    rw is (main_rest items line outer more walks)
main_rest (VariationOpen ∷ items) line outer steps (more, is, walks) =
    let words : main_words items (length (line ∷ outer))
    ≡ main_words (VariationOpen ∷ items) (length outer) = ap (main_words items) (omega arith) in
    let there = main_rest items (begun line) (line ∷ outer) more walks in
    rw is (there.0, rw (← words) there.1)
main_rest (VariationClose ∷ items) line [] steps (more, is, walks) =
    rw is (main_rest items line [] more walks)
main_rest (VariationClose ∷ items) line (next ∷ outer) steps (more, is, walks) =
    let words : main_words items (length outer)
    ≡ main_words (VariationClose ∷ items) (length (next ∷ outer)) =
    ap (main_words items) (omega arith) in
    let there = main_rest items next outer more walks in
    rw is (there.0, rw (← words) there.1)

-- the words of the elements that stand in no variation are those of the main line
outside_words : (items : List Item) (depth : ℕ)
    → main_words (outside items depth) 0 ≡ main_words items depth
outside_words [] depth = refl
outside_words (MoveText word ∷ items) depth = by (depth == 0) (outside_words items depth)
  where
    by : (main : Bool) → main_words (outside items depth) 0 ≡ main_words items depth
        → main_words (shown_if main (MoveText word) (outside items depth)) 0
        ≡ (if main then word ∷ main_words items depth else main_words items depth)
    by true same = ap (λ words. word ∷ words) same
    by false same = same
outside_words (GlyphNumber number ∷ items) depth = by (depth == 0) (outside_words items depth)
  where
    by : (main : Bool) → main_words (outside items depth) 0 ≡ main_words items depth
        → main_words (shown_if main (GlyphNumber number) (outside items depth)) 0
        ≡ main_words items depth
    by true same = same
    by false same = same
outside_words (CommentText text ∷ items) depth = by (depth == 0) (outside_words items depth)
  where
    by : (main : Bool) → main_words (outside items depth) 0 ≡ main_words items depth
        → main_words (shown_if main (CommentText text) (outside items depth)) 0
        ≡ main_words items depth
    by true same = same
    by false same = same
outside_words (VariationOpen ∷ items) depth = outside_words items (depth + 1)
outside_words (VariationClose ∷ items) depth = outside_words items (depth - 1)

-- the main line of a game, by the steps of a walk with variations or without
pub main_steps : (variations : Bool) (start : State) (items : List Item) (steps : List Step)
    → Walks (shown_items variations 0 items) (first_level start) [] steps
    → (played : List Move) × IsMainLine start (main_words items 0) (start ∷ main_of steps) played
main_steps true start items steps walks = main_rest items (first_level start) [] steps walks
main_steps false start items steps walks =
    let there = main_rest (outside items 0) (first_level start) [] steps walks in (
      there.0,
      subst (λ words. IsMainLine start words (start ∷ main_of steps) there.0)
          (outside_words items 0) there.1,
    )
