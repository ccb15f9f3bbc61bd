use Rattle.pgn_extract.proofs.Common.{◌≡◌, ◌-◌, ◌≤◌, ◌++◌, [], ◌∷◌, decimal, lines_from}
use Rattle.pgn_extract.proofs.entries.ten_lines.push_each.Given as goal

abbrev pub invariant-loop-ply : goal.invariant-loop-ply
invariant-loop-ply l =
    record {
      above : l.from ≤ l.ply;
      within : l.ply - l.from ≤ l.end - l.from;
      line : l.line.items ≡ l.mark ++ 32 ∷ decimal l.ply ++ 10 ∷ [];
      written : l.text.items ≡ l.initial.text.items ++ lines_from l.mark l.from (l.ply - l.from);
    }
