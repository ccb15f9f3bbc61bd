use Rattle.pgn_criteria.proofs.Common.{[], ◌∷◌, ◌+◌, ap, sym, refl, arith}
use Rattle.chess.specs.Public.San.{promotion_text}
use Rattle.std.specs.Prelude.{true}
use Rattle.pgn_criteria.proofs.CodedFacts.{pawn_filled, promotion_filled}
use Rattle.pgn_criteria.proofs.coded.pawn_bytes.Goals as goal

pub returns-in-Some : goal.returns-in-Some
returns-in-Some c =
    let m = c.args.m.now in
    let first = c.byte_if-from.ensures (omega arith) in
    let second = c.byte_if-cross.ensures (omega arith) in
    pawn_filled m c.args.takes c.byte_if-from.result c.byte_if-cross.result
    (96 + c.file.result) (48 + c.rank.result) (61 ∷ c.kind_letter.result ∷ [])
    (rw (← c.file-2.ensures.number) first) second
    (rw c.file.ensures.number refl) (rw c.rank.ensures.number refl)
    (promotion_filled c.in-Some.kind m.promote c.kind_letter.result c.in-Some.is
    c.kind_letter.ensures.letter)

pub returns-in-None : goal.returns-in-None
returns-in-None c =
    let m = c.args.m.now in
    let first = c.byte_if-from.ensures (omega arith) in
    let second = c.byte_if-cross.ensures (omega arith) in
    pawn_filled m c.args.takes c.byte_if-from.result c.byte_if-cross.result
    (96 + c.file.result) (48 + c.rank.result) (43 ∷ 43 ∷ [])
    (rw (← c.file-2.ensures.number) first) second
    (rw c.file.ensures.number refl) (rw c.rank.ensures.number refl)
    (ap (promotion_text true) (sym c.in-None.is))
