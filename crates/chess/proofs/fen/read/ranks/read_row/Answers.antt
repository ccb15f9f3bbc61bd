use Rattle.chess.proofs.Common.{arith, ◌∙◌, length-set}
use Rattle.chess.proofs.RestFacts.{first_and_rest, no_bytes}
use Rattle.chess.proofs.RankFacts.{row_start, row_more, row_end}
use Rattle.chess.proofs.fen.read.ranks.read_row.Goals as goal

pub loop-rest-init : goal.loop-rest-init
loop-rest-init c = row_start c.args.text.now

pub loop-rest-preserved : goal.loop-rest-preserved
loop-rest-preserved c =
    row_more c.loop-rest.squares c.loop-rest.file c.loop-rest.rest.now c.args.text.now
    c.in_ok-man.man c.in_ok-man.count _ _ c.loop-rest.invariant
    (first_and_rest c.loop-rest.rest.now c.in-len1-up.len_at_least) c.in_ok-man.ensures
    (omega arith)
    (length-set c.loop-rest.squares c.loop-rest.file c.in_ok-man.man ∙ c.loop-rest.invariant.full)

pub returns-else-file-lt8 : goal.returns-else-file-lt8
returns-else-file-lt8 c = (
  row_end c.loop-rest.squares c.loop-rest.file c.loop-rest.rest.now c.args.text.now
      c.loop-rest.invariant
      (no_bytes c.loop-rest.rest.now c.in_default.len_below) (omega arith),
  c.loop-rest.invariant.full,
)
