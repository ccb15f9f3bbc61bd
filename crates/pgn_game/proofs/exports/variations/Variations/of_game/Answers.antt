use Rattle.pgn_game.proofs.Common.{◌≡◌, ◌⊎◌, [], ◌∙◌, ap, sym, subst, map, item_of, true, inl, inr}
use Rattle.pgn_game.proofs.Common.{AllByRecursion, IsFlat, Item, Line, List, fen_tag, refl, spelled}
use Rattle.pgn_game.proofs.Common.{tag_in}
use Rattle.pgn_game.specs.Public.LineGames.{LineGame, line_items, variations_in}
use Rattle.pgn_game.specs.Private.LinePaths.{IsSoundLine, Track, first_track, track_of}
use Rattle.pgn_game.specs.Private.LinePaths.{tracks_around, variations_left}
use Rattle.pgn_game.proofs.exports.LinePathFacts.{same_left}
use Rattle.pgn_game.proofs.exports.LineItems.{left_whole}
use Rattle.pgn_game.proofs.exports.LineSounds.{sound_lines}
use Rattle.pgn_game.proofs.replays.FlatGames.{none_flat}
use Rattle.pgn_game.proofs.exports.variations.Variations.of_game.Goals as goal

-- all variations of the line are left, or none where it has none
left_of : (rest items : List Item) (line : Line) (track : Track) (around : List Track)
    → items ≡ spelled line → track ≡ first_track → around ≡ []
    → (rest ≡ items) ⊎ ((rest ≡ []) × IsFlat items)
    → variations_left rest track around ≡ variations_in [] [] line
left_of rest items line track around spells first none either = elim either [
  | inl same ↦ same_left rest items track around same first none
      ∙ ap (λ own. variations_left own first_track []) spells ∙ left_whole line
  | inr flat ↦ ap (λ own. variations_left own track around) flat.0
      ∙ sym (none_flat line [] [] (subst IsFlat spells flat.1))
]

pub invariant_of-result : goal.invariant_of-result
invariant_of-result c =
    let game = c.args.game.now in
    let fen = tag_in fen_tag game.tags in
    let lines = sound_lines fen game.elements c.requires in
    let left = left_of (map item_of c.varied.result.now) game.elements lines.line
    (track_of c.new.result) (tracks_around c.new.result) lines.spells c.new.ensures.track
    c.new.ensures.around (subst (λ own. (map item_of c.varied.result.now ≡ own)
    ⊎ ((map item_of c.varied.result.now ≡ []) × IsFlat own)) c.elements.ensures.elements
    c.varied.ensures) in
    record {
      sound = subst (AllByRecursion (λ (line : LineGame). IsSoundLine true fen (line_items line)))
          (sym left) lines.variations;
      nested = c.new.ensures.nested;
    }

pub returns-clause-lines : goal.returns-clause-lines
returns-clause-lines c =
    let game = c.args.game.now in
    let lines = sound_lines (tag_in fen_tag game.tags) game.elements c.requires in
    let left = left_of (map item_of c.varied.result.now) game.elements lines.line
    (track_of c.new.result) (tracks_around c.new.result) lines.spells c.new.ensures.track
    c.new.ensures.around (subst (λ own. (map item_of c.varied.result.now ≡ own)
    ⊎ ((map item_of c.varied.result.now ≡ []) × IsFlat own)) c.elements.ensures.elements
    c.varied.ensures) in
    (lines.line, lines.spells, left)
