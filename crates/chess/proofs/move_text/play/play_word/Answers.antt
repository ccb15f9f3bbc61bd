use Rattle.chess.specs.Public.San.{IsNamed}
use Rattle.chess.proofs.NamedFacts.{answer_only, answer_none, answer_several, played_after}
use Rattle.chess.proofs.NamedFacts.{played_not}
use Rattle.chess.proofs.move_text.play.play_word.Goals as goal

pub returns-clause-ok : goal.returns-clause-ok
returns-clause-ok g c =
    answer_only c.args.position.now c.args.text.now c.only_played.result
    c.only_played.ensures.answer

pub returns-clause-none : goal.returns-clause-none
returns-clause-none g c =
    answer_none (IsNamed c.args.position.now c.args.text.now) c.only_played.result
    c.only_played.ensures.answer

pub returns-clause-several : goal.returns-clause-several
returns-clause-several g c =
    answer_several (IsNamed c.args.position.now c.args.text.now) c.only_played.result
    c.only_played.ensures.answer

pub returns-clause-played : goal.returns-clause-played
returns-clause-played g c =
    played_after c.args.position.now c.only_played.new.position c.only_played.result
    c.only_played.ensures.played

pub returns-clause-kept : goal.returns-clause-kept
returns-clause-kept g c =
    played_not c.args.position.now c.only_played.new.position c.only_played.result
    c.only_played.ensures.played
