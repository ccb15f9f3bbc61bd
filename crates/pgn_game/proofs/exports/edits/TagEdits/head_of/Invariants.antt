use Rattle.pgn_game.proofs.Common.{[], map, take}
use Rattle.pgn_game.specs.Public.Edits.{IsEditedBy, edit_of}
use Rattle.pgn_game.proofs.exports.edits.TagEdits.head_of.Given as goal

abbrev pub invariant-loop-edit : goal.invariant-loop-edit
invariant-loop-edit l =
    IsEditedBy (map edit_of (take l.edit-index l.edit-items)) (record l.game { elements = [] })
    l.head
