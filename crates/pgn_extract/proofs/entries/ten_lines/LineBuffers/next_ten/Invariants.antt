use Rattle.pgn_extract.proofs.Common.{◌≡◌, ◌+◌, ◌*◌, length, lines_from}
use Rattle.pgn_extract.proofs.entries.TenLines.{width, mixed}
use Rattle.pgn_extract.proofs.entries.ten_lines.LineBuffers.next_ten.Given as goal

abbrev pub invariant-loop-count : goal.invariant-loop-count
invariant-loop-count l =
    record {
      wide : l.width ≡ width l.mark l.tens;
      at : l.tens_digit + 3 ≡ length (lines_from l.mark (10 * l.tens + 10) l.count)
          + width l.mark l.tens;
      lines : l.self.ten.items ≡ mixed l.mark l.tens l.count;
    }
