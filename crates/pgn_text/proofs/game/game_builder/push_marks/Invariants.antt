use Rattle.pgn_text.proofs.Common.{◌≡◌, ◌++◌, map, length, item_of, glyphs_of_marks}
use Rattle.pgn_text.proofs.game.game_builder.push_marks.Given as goal

abbrev pub invariant-loop-rest : goal.invariant-loop-rest
invariant-loop-rest l = map item_of l.elements.items ++ glyphs_of_marks l.rest
    ≡ map item_of l.initial.elements.items ++ glyphs_of_marks l.marks

abbrev pub decreases-loop-rest : goal.decreases-loop-rest
decreases-loop-rest l = length l.rest
