use Rattle.pgn_text.proofs.Common.{◌≡◌, ◌-◌, ◌++◌, List, length, map, item_of, Item, PlainTo}
use Rattle.pgn_text.proofs.lex.movetext.push_plain.Given as goal

abbrev pub invariant-loop-at : goal.invariant-loop-at
invariant-loop-at l = (moves : List Item) × PlainTo l.block l.from moves l.at
    × (map item_of l.elements.items ≡ map item_of l.fn.elements.items ++ moves)

abbrev pub decreases-loop-at : goal.decreases-loop-at
decreases-loop-at l = length l.block - l.at
