use Rattle.pgn_game.proofs.Common.{◌≡◌, ◌+◌, drop, map, item_of}
use Rattle.pgn_game.specs.Private.PassPlaces.{pass_place}
use Rattle.pgn_game.proofs.exports.variations.pass_place.Given as goal

abbrev pub invariant-loop-element : goal.invariant-loop-element
invariant-loop-element l =
    record {
      here : l.place ≡ l.element-index;
      left : l.place + pass_place (map item_of (drop l.element-index l.elements))
          ≡ pass_place (map item_of l.elements);
    }
