use Rattle.std.proofs.Common.{◌≡◌, ℕ, subst, arith}
use Rattle.chess.proofs.BitFacts.{IsUnion, union_none, union_more, bitboard_of_men}
use Rattle.chess.proofs.board.bits.occupied.Goals as goal

pub loop-row-init : goal.loop-row-init
loop-row-init c = union_none c.args.words.now

pub loop-row-preserved : goal.loop-row-preserved
loop-row-preserved c =
    union_more c.args.words.now c.loop-row.row c.loop-row.all c.loop-row.invariant

pub returns : goal.returns
returns c =
    let words = c.args.words.now in
    let past = c.loop-row-test.false in
    let end = c.loop-row.auto.row-end in
    let rows : c.loop-row.row ≡ 12 = omega arith in
    bitboard_of_men words c.loop-row.all c.requires
    (subst (λ (n : ℕ). IsUnion words n c.loop-row.all) rows c.loop-row.invariant)
