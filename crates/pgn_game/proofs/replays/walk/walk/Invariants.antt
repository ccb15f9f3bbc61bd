use Rattle.pgn_game.proofs.Common.{◌≡◌, ◌≤◌, ℕ, List, ◌++◌, drop, map, item_of, Fault, Step, Visits}
use Rattle.pgn_game.proofs.Common.{WalksOn, StopsAt, IsWithin, shown_items}
use Rattle.pgn_game.proofs.replays.walk.walk.Given as goal

abbrev pub invariant-loop-element : goal.invariant-loop-element
invariant-loop-element g l =
    record {
      done : (steps : List Step) × Visits g.V.StepVisitor.does l.fn.visitor steps l.visitor
          × ((more : List Step) → WalksOn l.stack
          (shown_items l.shown.variations l.shown.depth
          (map item_of (drop l.element-index l.elements))) more
          → WalksOn l.fn.stack (shown_items l.variations 0 (map item_of l.elements)) (steps
          ++ more));
      sticks : (fault : Fault) → StopsAt l.stack
          (shown_items l.shown.variations l.shown.depth
          (map item_of (drop l.element-index l.elements))) fault
          → StopsAt l.fn.stack (shown_items l.variations 0 (map item_of l.elements)) fault;
      within : IsWithin l.element-index l.stack;
      depth : l.shown.depth ≤ l.element-index;
      kept : (some : List ℕ)
          × (g.V.StepVisitor.text l.visitor ≡ g.V.StepVisitor.text l.fn.visitor ++ some);
    }
