use Rattle.std.proofs.Common.{◌≡◌, ◌≤◌, ◌++◌, ℕ, List, length, drop}
use Rattle.chess.specs.Public.Positions.{State}
use Rattle.pgn_game.specs.Public.CodeLines.{AreLegalMoves}
use Rattle.pgn_game.specs.declared.exports.notation.Notation.TheVariants.{Uci}
use Rattle.pgn_extract.specs.Private.RowTexts.{IsPlainValue}
use Rattle.pgn_extract.proofs.entries.KeptMoves.{Completes}
use Rattle.pgn_extract.proofs.entries.line_value.push_squares.Given as goal

abbrev pub invariant-loop-ply : goal.invariant-loop-ply
invariant-loop-ply l = record {
  within : l.ply ≤ length l.played;
  so_far : (value : List ℕ) × IsPlainValue value
      × ((start : State) → AreLegalMoves start l.played → (here : State)
      × AreLegalMoves here (drop l.ply l.played)
      × Completes Uci start l.played here (drop l.ply l.played) value)
      × (l.text.items ≡ l.fn.text.items ++ value);
}
