use Rattle.chess.proofs.Common.{bit_and, IsRunner, words_men, IsPseudoAttack}
use Rattle.chess.proofs.board.AttackerFacts.{runners_seen}
use Rattle.chess.proofs.board.LeftFacts.{runners_left}
use Rattle.chess.proofs.board.bits.sliders_in_line.Goals as goal

pub returns : goal.returns
returns c p h =
    runners_seen (IsRunner p c.args.side c.args.kind) (λ s.
    IsPseudoAttack c.args.side c.args.kind s c.args.square)
    (bit_and c.args.left c.squares_of_runners.result) c.pseudo_attacks_on.result
    (runners_left (words_men c.args.words.now) p c.args.side c.args.left h c.args.kind
    c.squares_of_runners.result c.squares_of_runners.ensures)
    c.pseudo_attacks_on.ensures
