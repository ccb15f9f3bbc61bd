-- What a finder of a game hands on is what its settings ask for.
use Rattle.std.proofs.Common.{◌≡◌, ◌++◌, ℕ, List, Option, sym, ap, ◌∙◌, subst}
use Rattle.pgn_game.specs.Public.Openings.{NamedLine}
use Rattle.pgn_extract.proofs.Common.{Aim, aim_of, aim_with, AddsEntries, HandsOn, GameId, GameText}
use Rattle.pgn_extract.proofs.Common.{marked_lines}
use Rattle.pgn_extract.specs.Public.Aims.{LineId}
use Rattle.pgn_extract.specs.Private.Lines.{IsFinderOf, MakesLines, aim_at, line_made, made_line}
use Rattle.pgn_extract.specs.declared.entries.Search.{Search}
use Rattle.pgn_extract.specs.declared.entries.finding.Finder.{Finder}
use Rattle.pgn_extract.specs.declared.settings.EntryLine.{EntryLine}
use Rattle.pgn_extract.specs.declared.settings.Settings.{Settings}
use Rattle.pgn_extract.proofs.Finds.{adds_lines}

module _ (asked : Settings) (id : GameId) (game : GameText) (search : Search) (finder : Finder)
    (is : IsFinderOf asked id game search finder) where
  -- under the name that is asked for it looks for what is asked
  same_aim : aim_with finder asked.name asked.openings
      ≡ aim_at (aim_of asked) search.line search.least
  same_aim =
      ap (λ (s : Settings). record (aim_of s) {
        min_ply = finder.least;
        first = finder.first;
        line = made_line finder.lines;
        of_line = line_made finder.lines;
        name = asked.name;
        openings = asked.openings;
      }) is.settings
      ∙ ap (λ f. record (aim_of asked) {
        min_ply = finder.least;
        first = f;
        line = made_line finder.lines;
        of_line = line_made finder.lines;
      }) is.first
      ∙ ap (λ (l : EntryLine). record (aim_of asked) {
        min_ply = finder.least;
        line = l;
        of_line = line_made finder.lines;
      }) (sym is.line)
      ∙ ap (λ (n : Option LineId). record (aim_of asked) { min_ply = finder.least; of_line = n })
      (sym is.of_line)
      ∙ ap (λ n. aim_at (aim_of asked) search.line n) is.least

  pub finder_adds : (old new : List ℕ)
      → ((name : Option (List ℕ)) (openings : Option (List NamedLine)) (own : GameId)
      → MakesLines finder.lines name openings own game
      → HandsOn (aim_with finder name openings) own game
      (λ got. new ≡ old ++ marked_lines finder.mark.items got))
      → AddsEntries (aim_at (aim_of asked) search.line search.least) id game old new
  finder_adds old new found =
      adds_lines (aim_at (aim_of asked) search.line search.least) id game finder.mark.items old new
      is.mark
      (subst (λ (a : Aim). HandsOn a id game
      (λ got. new ≡ old ++ marked_lines finder.mark.items got)) same_aim
      (found asked.name asked.openings id is.makes))
