use Rattle.std.proofs.Common.{◌≡◌, ◌+◌, ◌-◌, ◌++◌, ◌∷◌, [], length, ap, arith, length-append, ◌∙◌}
use Rattle.chess.specs.Public.Fen.{joined}
use Rattle.chess.specs.Private.FenTextWords.{rank_texts, rank_text, each_after}
use Rattle.chess.proofs.FenTextFacts.{one_more_rank, no_more_ranks, first_is_written}
use Rattle.chess.proofs.FenTextFacts.{rank_is_written, all_is_written}
use Rattle.chess.proofs.fen.write.push_ranks.Goals as goal

pub loop-step-init : goal.loop-step-init
loop-step-init c =
    let short = c.push_rank.ensures.short in
    record {
      text = λ p lettered. first_is_written p c.args.out.now.bytes c.push_rank.new.out.bytes
          (c.push_rank.ensures.text p lettered);
      short = omega arith;
      within = (omega arith, omega arith);
    }

pub loop-step-preserved : goal.loop-step-preserved
loop-step-preserved c =
    let at = c.loop-step.step in
    let near = c.loop-step-test.true in
    let short = c.push_rank-in-loop-step.ensures.short in
    let before = c.loop-step.invariant.short in
    let low = c.loop-step.auto.step in
    let slash : length c.push_byte.new.out.bytes ≡ length c.loop-step.out.bytes + 1 =
    ap length c.push_byte.ensures ∙ length-append c.loop-step.out.bytes (47 ∷ []) in
    record {
      text = λ p lettered.
          rank_is_written c.loop-step.out.bytes c.push_byte.new.out.bytes
          c.push_rank-in-loop-step.new.out.bytes (rank_text p (8 - at))
          (each_after 47 (rank_texts p (8 - (at + 1)))) (each_after 47 (rank_texts p (8 - at)))
          (c.args.out.now.bytes ++ joined 47 (rank_texts p 8))
          c.push_byte.ensures (c.push_rank-in-loop-step.ensures.text p lettered)
          (one_more_rank p at near) (c.loop-step.invariant.text p lettered);
      short = omega arith;
      within = (omega arith, omega arith);
    }

pub returns : goal.returns
returns c =
    let short = c.loop-step.invariant.short in
    let within = c.loop-step.invariant.within in
    record {
      text = λ p lettered.
          all_is_written c.loop-step.out.bytes (each_after 47 (rank_texts p (8 - c.loop-step.step)))
          (c.args.out.now.bytes ++ joined 47 (rank_texts p 8))
          (no_more_ranks p c.loop-step.step c.loop-step-test.false)
          (c.loop-step.invariant.text p lettered);
      short = omega arith;
    }
