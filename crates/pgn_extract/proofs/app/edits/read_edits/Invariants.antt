use Rattle.std.specs.List.{AllZip}
use Rattle.pgn_extract.proofs.Common.{◌≡◌, ◌++◌, List, take}
use Rattle.pgn_game.specs.Public.Edits.{EditedTag}
use Rattle.pgn_extract.specs.Public.AskedEdits.{IsAskedBeside, IsDropped, IsSet}
use Rattle.pgn_extract.proofs.app.edits.read_edits.Given as goal

abbrev pub invariant-loop-name : goal.invariant-loop-name
invariant-loop-name l =
    AllZip (λ text edit. IsDropped text.now edit) (take l.name-index l.name-items) l.edits.tags
    × IsAskedBeside l.request l.edits

abbrev pub invariant-loop-text : goal.invariant-loop-text
invariant-loop-text l =
    (drops : List EditedTag) × (sets : List EditedTag)
    × AllZip (λ text edit. IsDropped text.now edit) l.request.drops.items drops
    × AllZip (λ text edit. IsSet text.now edit) (take l.text-index l.text-items) sets
    × (l.edits.tags ≡ drops ++ sets) × IsAskedBeside l.request l.edits
