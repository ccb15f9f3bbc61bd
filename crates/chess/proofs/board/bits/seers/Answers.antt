use Rattle.chess.proofs.Common.{bit_and, IsMan, words_men, IsPseudoAttack}
use Rattle.chess.proofs.board.AttackerFacts.{runners_seen}
use Rattle.chess.proofs.board.LeftFacts.{men_left}
use Rattle.chess.proofs.board.bits.seers.Goals as goal

pub returns : goal.returns
returns c p h =
    let man = c.args.man in
    runners_seen (IsMan p man.side man.kind) (λ s.
    IsPseudoAttack man.side man.kind s c.args.square)
    (bit_and c.args.left c.squares_with.result) c.pseudo_attacks_on.result
    (men_left (words_men c.args.words.now) p man.side c.args.left h man.kind c.squares_with.result
    c.squares_with.ensures) c.pseudo_attacks_on.ensures
