use Rattle.std.proofs.Common.{[]}
use Rattle.pgn_text.proofs.PlainWalk.{with_none, plain_over}
use Rattle.pgn_text.proofs.lex.movetext.plain_end.Goals as goal

pub loop-at-init : goal.loop-at-init
loop-at-init c = ([], with_none c.args.block.now c.args.from c.requires)

pub loop-at-preserved : goal.loop-at-preserved
loop-at-preserved c =
    let kept = c.loop-at.invariant in
    plain_over c.args.block.now c.loop-at.at _ _ _ _ c.args.from c.sweep-swept.ensures.1 kept.0
    kept.1

pub returns-then-block-lt64 : goal.returns-then-block-lt64
returns-then-block-lt64 c = ([], with_none c.args.block.now c.args.from c.requires)

pub returns-then-swept-lt-MOSTLY_PLAIN : goal.returns-then-swept-lt-MOSTLY_PLAIN
returns-then-swept-lt-MOSTLY_PLAIN c =
    let kept = c.loop-at.invariant in
    plain_over c.args.block.now c.loop-at.at _ _ _ _ c.args.from c.sweep-swept.ensures.1 kept.0
    kept.1
