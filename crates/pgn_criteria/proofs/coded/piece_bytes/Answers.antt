use Rattle.pgn_criteria.proofs.Common.{◌+◌, refl, arith}
use Rattle.pgn_criteria.proofs.CodedFacts.{piece_filled}
use Rattle.pgn_criteria.proofs.coded.piece_bytes.Goals as goal

pub returns : goal.returns
returns c =
    piece_filled c.args.coded.now c.args.by_file c.args.by_rank c.kind_letter.result
    c.byte_if.result c.byte_if-2.result c.byte_if-3.result (96 + c.file-2.result)
    (48 + c.rank-2.result) c.kind_letter.ensures.letter
    (rw (← c.file.ensures.number) (c.byte_if.ensures (omega arith)))
    (rw (← c.rank.ensures.number) (c.byte_if-2.ensures (omega arith)))
    (c.byte_if-3.ensures (omega arith))
    (rw c.file-2.ensures.number refl) (rw c.rank-2.ensures.number refl)
