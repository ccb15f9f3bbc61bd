use Rattle.pgn_extract.proofs.Common.{ℕ, List, Option, State, GameText, GameId, aim_with}
use Rattle.pgn_extract.proofs.Common.{NoneBefore}
use Rattle.pgn_game.specs.Public.Openings.{NamedLine}
use Rattle.pgn_extract.specs.Private.Lines.{MakesLines}
use Rattle.pgn_extract.proofs.Finds.{StandsFound}
use Rattle.pgn_extract.proofs.entries.finding.Finder.find.Given as goal

abbrev pub invariant-loop-still : goal.invariant-loop-still
invariant-loop-still g l = record {
  reached : (name : Option (List ℕ)) (openings : Option (List NamedLine)) (game : GameText)
      (before : List State) (P : State)
      → g.L.Line.At l.fn.line (aim_with l.self name openings) game before P
      → (passed : List State) × (here : State)
      × g.L.Line.At l.line (aim_with l.self name openings) game passed here;
  found : (name : Option (List ℕ)) (openings : Option (List NamedLine)) (id : GameId)
      (game : GameText) (before : List State) (P : State)
      → g.L.Line.At l.fn.line (aim_with l.self name openings) game before P
      → NoneBefore (aim_with l.self name openings) game before
      → MakesLines l.self.lines name openings id game
      → StandsFound (g.L.Line.At l.line) (aim_with l.self name openings) id game
      (λ got. g.S.Sink.Gets l.self.mark.items l.fn.sink got l.sink) l.still;
  grew : g.S.Sink.Grew l.fn.sink l.sink;
  valid : g.L.Line.Valid l.line;
}

abbrev pub decreases-loop-still : goal.decreases-loop-still
decreases-loop-still g l = g.L.Line.size l.line
