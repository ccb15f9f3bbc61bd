use Rattle.chess.specs.Public.San.{IsNamed}
use Rattle.chess.proofs.NamedFacts.{answer_none, answer_several}
use Rattle.chess.proofs.move_text.play.play_word_san.Goals as goal

pub returns-clause-none : goal.returns-clause-none
returns-clause-none g c =
    answer_none (IsNamed c.args.position.now c.args.text.now) c.only_played.result
    c.only_played.ensures.answer

pub returns-clause-several : goal.returns-clause-several
returns-clause-several g c =
    answer_several (IsNamed c.args.position.now c.args.text.now) c.only_played.result
    c.only_played.ensures.answer
