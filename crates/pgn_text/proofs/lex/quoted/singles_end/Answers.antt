use Rattle.pgn_text.proofs.Common.{◌+◌, ◌<◌, sym, ap, ◌∙◌, arith, is_single}
use Rattle.pgn_text.proofs.Bits.{not_false, not_true}
use Rattle.pgn_text.proofs.lex.RunsTo.{AllPass, run_to, runs_on}
use Rattle.pgn_text.proofs.lex.quoted.singles_end.Goals as goal

pub returns-then-place-lt32 : goal.returns-then-place-lt32
returns-then-place-lt32 c =
    let block = c.args.block.now in
    let from = c.args.from in
    let place = c.first_from-place.result in
    let found = c.first_from-place.ensures.found (omega arith) in
    run_to is_single block from (from + place) (omega arith) (omega arith)
    (λ k lt. let below : k < 32 = omega arith in
    ap (λ b. is_single b) (sym (c.bytes_at.ensures k below))
    ∙ not_false _ (sym (c.stops.ensures k below)
    ∙ c.first_from-place.ensures.before k (omega arith) (omega arith) (omega arith)))
    (λ _. ap (λ b. is_single b) (sym (c.bytes_at.ensures place (omega arith)))
    ∙ not_true _ (sym (c.stops.ensures place (omega arith)) ∙ found.1))

pub returns : goal.returns
returns c =
    let block = c.args.block.now in
    let from = c.args.from in
    let pass : AllPass is_single block from (from + 32) = record {
      forward = omega arith;
      within = omega arith;
      inside = λ k lt. let below : k < 32 = omega arith in
          ap (λ b. is_single b) (sym (c.bytes_at.ensures k below))
          ∙ not_false _ (sym (c.stops.ensures k below)
          ∙ c.first_from-place.ensures.before k (omega arith) (omega arith) (omega arith));
    } in
    runs_on is_single block from (from + 32) _ pass c.run_end-2.ensures
