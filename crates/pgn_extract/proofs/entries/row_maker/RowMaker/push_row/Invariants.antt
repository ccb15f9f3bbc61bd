use Rattle.std.proofs.Common.{◌≡◌, ◌++◌, [], ℕ, List, length, take}
use Rattle.pgn_extract.specs.Private.Lines.{Where, ShowsParts}
use Rattle.pgn_extract.specs.Private.RowTexts.{filled}
use Rattle.pgn_extract.proofs.entries.row_maker.RowMaker.push_row.Given as goal

abbrev pub invariant-loop-part : goal.invariant-loop-part
invariant-loop-part g l =
    (values : List (List ℕ))
    × Where (g.L.Line.At l.line) (ShowsParts l.self (take l.part-index l.self.parts.items) values)
    × (length values ≡ length (take l.part-index l.self.parts.items))
    × (l.text.items ≡ l.fn.text.items ++ filled (take l.part-index l.self.parts.items) values [])
