use Rattle.std.proofs.Common.{IfSome}
use Rattle.std.specs.Io.Buffered.{reader_remaining}
use Rattle.pgn_extract.proofs.app.LinesOfMarks.{IsReadTo}
use Rattle.pgn_extract.proofs.app.chosen_marks.read_marks.Given as goal

abbrev pub invariant-loop : goal.invariant-loop
invariant-loop g l =
    IfSome (g.R.Read.remaining l.fn.input)
    (λ text. IsReadTo l.fn.names.games text l.order.mark.offset l.order.end l.file.pairs.items
    (reader_remaining g.R.Read.remaining l.reader))
