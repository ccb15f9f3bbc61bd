-- Each law is a lemma, or two of them: there is a list, and there is one at most.
use Rattle.std.proofs.Common.{[]}
use Rattle.pgn_text.proofs.laws.Halfway.{one_game}
use Rattle.pgn_text.proofs.OneList.{one_list}
use Rattle.pgn_text.proofs.Existence.{pieces_exist}
use Rattle.pgn_text.proofs.OneBlocks.{one_blocks, blocks_exist}
use Rattle.pgn_text.proofs.MarkedPieces.{one_marked_pieces, marked_pieces_exist}
use Rattle.pgn_text.proofs.laws.one_reading.Goals as goal

pub returns-clause-one_game : goal.returns-clause-one_game
returns-clause-one_game c = λ max_depth file_start before text parts others after rest e g f h.
    one_game max_depth file_start before text parts others after rest e f g h

pub returns-clause-one_parting : goal.returns-clause-one_parting
returns-clause-one_parting c = λ text.
    let found = blocks_exist text in
    (found.0, found.1, λ others h. one_blocks others found.0 text h found.1)

pub returns-clause-one_list : goal.returns-clause-one_list
returns-clause-one_list c = λ max_depth file_start block.
    let found = pieces_exist max_depth file_start [] block in
    (found.0, found.1, λ others h. one_list max_depth file_start [] others found.0 block h found.1)

pub returns-clause-one_marked_list : goal.returns-clause-one_marked_list
returns-clause-one_marked_list c = λ limit max_depth offset text.
    let found = marked_pieces_exist limit max_depth offset text in (
      found.0,
      found.1,
      λ others h.
          one_marked_pieces limit max_depth offset text others found.0 h found.1,
    )
