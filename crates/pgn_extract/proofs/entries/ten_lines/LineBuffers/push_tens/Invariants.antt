use Rattle.pgn_extract.proofs.Common.{◌≡◌, ◌-◌, ◌*◌, ◌≤◌, ◌++◌, lines_from}
use Rattle.pgn_extract.proofs.entries.ten_lines.LineBuffers.push_tens.Given as goal

abbrev pub invariant-loop-tens : goal.invariant-loop-tens
invariant-loop-tens l =
    record {
      above : l.first ≤ l.tens;
      within : l.tens ≤ l.last;
      lines : l.self.ten.items ≡ lines_from l.mark (10 * l.tens) 10;
      written : l.text.items ≡ l.initial.text.items
          ++ lines_from l.mark (10 * l.first) (10 * l.tens - 10 * l.first);
    }
