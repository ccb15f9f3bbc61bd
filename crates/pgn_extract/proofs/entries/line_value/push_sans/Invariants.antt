use Rattle.std.proofs.Common.{◌≡◌, ◌≤◌, ◌++◌, ℕ, List, length, drop}
use Rattle.pgn_game.specs.Public.CodeLines.{AreLegalMoves}
use Rattle.pgn_game.specs.declared.exports.notation.Notation.TheVariants.{San}
use Rattle.pgn_extract.specs.Private.RowTexts.{IsPlainValue}
use Rattle.pgn_extract.proofs.entries.KeptMoves.{Completes}
use Rattle.pgn_extract.proofs.entries.line_value.push_sans.Given as goal

abbrev pub invariant-loop-ply : goal.invariant-loop-ply
invariant-loop-ply l = record {
  within : l.ply ≤ length l.played;
  legal : AreLegalMoves l.here (drop l.ply l.played);
  so_far : (value : List ℕ) × IsPlainValue value
      × Completes San l.start l.played l.here (drop l.ply l.played) value
      × (l.text.items ≡ l.fn.text.items ++ value);
}
