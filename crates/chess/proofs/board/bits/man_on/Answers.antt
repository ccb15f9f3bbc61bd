use Rattle.chess.proofs.Common.{◌∙◌, ap, sym, arith, Some, index_of, index_of-below, false_of}
use Rattle.chess.proofs.Common.{bitboard_at, true_from_ne_false}
use Rattle.chess.proofs.board.FillFacts.{common_none, common_some}
use Rattle.chess.proofs.BitFacts.{has_man, no_man, man_at-words}
use Rattle.chess.proofs.board.bits.man_on.Goals as goal

pub returns-then-words-row-ne0 : goal.returns-then-words-row-ne0
returns-then-words-row-ne0 c =
    let words = c.args.words.now in
    let s = c.args.square in
    let on = c.bitboard_of-bit.ensures.on_board in
    let near = c.loop-row-test.true in
    ap Some c.man_of.ensures
    ∙ sym (man_at-words words s on
    ∙ has_man words 12 c.loop-row.row (index_of s) c.requires (omega arith) near
    (index_of-below s on)
    (true_from_ne_false _ (λ e.
    c.if-words-row-ne0.true
    (common_none (bitboard_at words c.loop-row.row) c.bitboard_of-bit.result s
    c.bitboard_of-bit.ensures.bitboard e))))

pub returns : goal.returns
returns c =
    let words = c.args.words.now in
    let s = c.args.square in
    let all = c.loop-row-test.false in
    sym (man_at-words words s c.bitboard_of-bit.ensures.on_board
    ∙ no_man words 12 (index_of s) (λ k less. false_of _ (λ e.
    common_some (bitboard_at words k) c.bitboard_of-bit.result s
    c.bitboard_of-bit.ensures.bitboard e
    (c.loop-row.invariant k (omega arith)))))
