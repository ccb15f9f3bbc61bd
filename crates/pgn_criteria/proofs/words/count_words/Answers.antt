use Rattle.std.proofs.Common.{arith}
use Rattle.pgn_criteria.proofs.WordFacts.{no_more_words}
use Rattle.pgn_criteria.proofs.words.count_words.Goals as goal

pub returns : goal.returns
returns c = let few = no_more_words c.args.text.now in omega (arith, few)
