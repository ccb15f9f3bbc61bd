use Rattle.std.proofs.Common.{◌++◌, ap}
use Rattle.pgn_extract.proofs.entries.AnnotationFacts.{spaced_words}
use Rattle.pgn_extract.proofs.entries.annotations.push_words.Goals as goal

pub loop-byte-init : goal.loop-byte-init
loop-byte-init c = ap (λ t. c.args.own.now.items ++ t) (spaced_words c.args.text.now)
