use Rattle.std.proofs.Common.{sym, ◌∙◌, arith}
use Rattle.pgn_text.proofs.lex.Contents.{read_run, read_pair}
use Rattle.pgn_text.proofs.lex.quoted.contents_end.Goals as goal

pub loop-at-init : goal.loop-at-init
loop-at-init c = read_run c.singles_end-at.ensures

pub loop-at-preserved : goal.loop-at-preserved
loop-at-preserved c =
    read_pair c.loop-at.invariant (omega arith) c.if-block-at-eq92.true (sym c.is_plain.ensures
    ∙ c.if-not-is_plain.false) c.singles_end-at-in-loop-at.ensures
