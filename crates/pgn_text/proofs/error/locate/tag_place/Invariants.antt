use Rattle.pgn_text.proofs.Common.{◌≡◌, ◌-◌, None, length, List, first_tag, Part}
use Rattle.pgn_text.proofs.Located.{PassedTo}
use Rattle.pgn_text.proofs.error.locate.tag_place.Given as goal

abbrev pub invariant-loop-token : goal.invariant-loop-token
invariant-loop-token l = (done : List Part) × PassedTo l.file_start l.block l.begin l.at done
    × (first_tag l.name done ≡ None)

abbrev pub decreases-loop-token : goal.decreases-loop-token
decreases-loop-token l = length l.block - l.at
