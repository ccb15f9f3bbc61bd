use Rattle.pgn_text.proofs.Common.{take, ap, ◌∙◌, arith, take_rest}
use Rattle.pgn_text.proofs.lex.class.run.Goals as goal

pub returns-clause-front : goal.returns-clause-front
returns-clause-front c = ap (λ n. take n c.args.text.now) (omega arith) ∙ c.run_end-len.ensures.run

pub returns-clause-rest : goal.returns-clause-rest
returns-clause-rest c = take_rest c.args.text.now c.run_end-len.result ∙ c.run_end-len.ensures.rest
