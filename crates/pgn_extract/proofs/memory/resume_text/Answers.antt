use Rattle.std.specs.Prelude.{Result, Ok, Err, IfOk, OnOk}
use Rattle.std.proofs.lemmas.Result.{on_ok_weaker}
use Rattle.pgn_extract.proofs.memory.resume_text.Goals as goal

-- what follows of each value holds where there is one
done_then : {T E Q : Type 0} (r : Result T E) (P : T → Type 0) → ((x : T) → P x → Q) → IfOk r P
    → OnOk r Q
done_then (Ok value) P follows holds = follows value holds
done_then (Err error) P follows holds = tt

pub returns-clause-rest : goal.returns-clause-rest
returns-clause-rest c =
    done_then c.run.result _
    (λ summary done pieces each mark all are.
    let rest = c.complete_runs.ensures.resumes _ _ _ summary done.0 pieces each mark in
    (rest.verdicts, rest.same all are, rest.written.output, rest.written.faults))
    c.run.ensures.done

pub returns-clause-listed : goal.returns-clause-listed
returns-clause-listed c =
    on_ok_weaker c.run.result (λ lists mode. (lists mode).rest) c.run.ensures.lists
