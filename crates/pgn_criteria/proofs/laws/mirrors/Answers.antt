-- Each law is a lemma.
use Rattle.pgn_criteria.proofs.MirrorFacts.{flipped_twice}
use Rattle.pgn_criteria.proofs.laws.MirrorLaws.{mirror_undone, sides_alike}
use Rattle.pgn_criteria.proofs.laws.mirrors.Goals as goal

pub returns-clause-mirror : goal.returns-clause-mirror
returns-clause-mirror c = mirror_undone

pub returns-clause-flip : goal.returns-clause-flip
returns-clause-flip c = flipped_twice

pub returns-clause-alike : goal.returns-clause-alike
returns-clause-alike c = sides_alike
