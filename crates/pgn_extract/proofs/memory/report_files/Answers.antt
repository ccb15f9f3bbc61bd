use Rattle.pgn_extract.proofs.Common.{◌∙◌, ap, false, refl, job_of, Order}
use Rattle.pgn_extract.proofs.TwoFiles.{all_known, grown, two_too_long, two_written}
use Rattle.pgn_extract.proofs.memory.report_files.Goals as goal

pub returns-in-Ok-clause-written : goal.returns-in-Ok-clause-written
returns-in-Ok-clause-written c =
    let first = c.args.files.now.first.now in
    let second = c.args.files.now.second.now in
    let written = c.in-Ok.ensures.written (all_known first second) in
    let order : Order = record { job = job_of c.args.settings; end = c.args.end; summary = false }
    in
    two_written order first second written.0 written.1 c.into_inner.result.items
    c.into_inner-in-Ok.result.items refl
    (grown c.into_inner.result.items c.run_files.new.out.inner.items c.new-out.result.inner.items
    written.0 (ap (λ out. out.items) c.into_inner.ensures) written.3
    (ap (λ out. out.inner.items) c.new-out.ensures ∙ c.new.ensures.items))
    (grown c.into_inner-in-Ok.result.items c.run_files.new.err.inner.items
    c.new-err.result.inner.items written.1 (ap (λ err. err.items) c.into_inner-in-Ok.ensures)
    written.4
    (ap (λ err. err.inner.items) c.new-err.ensures ∙ c.new-2.ensures.items))
    written.2

pub returns-in-Err-clause-too_long : goal.returns-in-Err-clause-too_long
returns-in-Err-clause-too_long c = λ is_too_long.
    let first = c.args.files.now.first.now in
    let second = c.args.files.now.second.now in
    let order : Order = record { job = job_of c.args.settings; end = c.args.end; summary = false }
    in
    two_too_long _ is_too_long order first second _ _
    (c.in-Err.ensures.stopped (all_known first second))
