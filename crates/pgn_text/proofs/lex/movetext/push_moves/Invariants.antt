use Rattle.pgn_text.proofs.Common.{◌≡◌, ◌≤◌, ◌++◌, ℕ, List, map, item_of, Item, Sweeps}
use Rattle.pgn_text.proofs.PlainWalk.{AreLeft, Quiet}
use Rattle.pgn_text.proofs.lex.movetext.push_moves.Given as goal

abbrev pub invariant-loop-left : goal.invariant-loop-left
invariant-loop-left l =
    (numbers : ℕ) × (shows : Sweeps l.block l.at l.swept.words l.swept.moves numbers l.swept.len)
    × (moves : List Item) × (place : ℕ)
    × Quiet l.block l.at l.swept.words l.swept.moves numbers l.swept.len l.at shows moves place
    × (place ≤ l.swept.len) × AreLeft l.swept.moves l.left place
    × (map item_of l.elements.items ≡ map item_of l.fn.elements.items ++ moves)

abbrev pub decreases-loop-left : goal.decreases-loop-left
decreases-loop-left l = l.left
