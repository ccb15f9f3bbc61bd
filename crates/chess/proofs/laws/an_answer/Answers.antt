-- Each law is a lemma.
use Rattle.chess.proofs.FenSettled.{fen_answer}
use Rattle.chess.proofs.NamedSettled.{each_text_names}
use Rattle.chess.proofs.OnBoard.{spelled_men_on_board, men_stay_on_board}
use Rattle.chess.proofs.laws.RefusalExamples.{one_reason}
use Rattle.chess.proofs.laws.an_answer.Goals as goal

pub returns-clause-word : goal.returns-clause-word
returns-clause-word c = each_text_names

pub returns-clause-spelled : goal.returns-clause-spelled
returns-clause-spelled c = spelled_men_on_board

pub returns-clause-after : goal.returns-clause-after
returns-clause-after c = men_stay_on_board

pub returns-clause-fen : goal.returns-clause-fen
returns-clause-fen c = fen_answer

pub returns-clause-refusal : goal.returns-clause-refusal
returns-clause-refusal c = one_reason
