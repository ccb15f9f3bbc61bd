use Rattle.std.proofs.Common.{arith}
use Rattle.pgn_criteria.proofs.WithinFacts.{after_escape, after_byte}
use Rattle.pgn_criteria.proofs.compare.without_first.Goals as goal

pub returns-in-92-clause-contents : goal.returns-in-92-clause-contents
returns-in-92-clause-contents c = after_escape c.args.contents.now c.requires (omega arith)

pub returns-in-len1-up-clause-contents : goal.returns-in-len1-up-clause-contents
returns-in-len1-up-clause-contents c =
    after_byte c.args.contents.now c.requires (λ long first.
    (λ quote. grind arith, λ backslash. grind arith))
