use Rattle.pgn_text.proofs.laws.Gaps.{gap_more, gap_ended}
use Rattle.pgn_text.proofs.lex.place.gap_end.Goals as goal

pub loop-end-preserved : goal.loop-end-preserved
loop-end-preserved c =
    gap_more c.args.file_start c.args.block.now c.args.begin c.loop-end.at c.in-Some.end
    c.loop-end.invariant c.in-Some.ensures

pub returns : goal.returns
returns c =
    gap_ended c.args.file_start c.args.block.now c.args.begin c.loop-end.at c.loop-end.invariant
    c.in_default.ensures
