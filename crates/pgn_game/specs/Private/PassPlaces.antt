-- Where the first pass stands among elements. Nothing but the proof of searched lines cites this.
use Rattle.std.specs.Prelude.{ℕ, zero, suc, List, [], ◌∷◌, if◌then◌else◌}
use Rattle.pgn_text.specs.Public.Games.{Item}
use Rattle.pgn_game.specs.Public.SearchedLines.{passes}

-- how many elements stand before the first pass
abbrev pub pass_place : List Item → ℕ
pass_place [] = zero
pass_place (item ∷ items) = if passes item then zero else suc (pass_place items)
