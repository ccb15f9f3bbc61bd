use Rattle.pgn_game.proofs.laws.CommandsLeftOut.{no_command, others_left}
use Rattle.pgn_game.proofs.laws.CommandsLeftOut.{command_is_a_space, lone_sign_is_broken}
use Rattle.pgn_game.proofs.laws.no_command_left.Goals as goal

pub returns-clause-none : goal.returns-clause-none
returns-clause-none c = no_command

pub returns-clause-others : goal.returns-clause-others
returns-clause-others c = others_left

pub returns-clause-command : goal.returns-clause-command
returns-clause-command c = command_is_a_space

pub returns-clause-lone : goal.returns-clause-lone
returns-clause-lone c = lone_sign_is_broken
