use Rattle.pgn_text.proofs.Common.{◌++◌, ◌∷◌, [], arith, token_of}
use Rattle.pgn_text.proofs.Located.{passed_start, passed_more, element_here, element_more}
use Rattle.pgn_text.proofs.Located.{no_element}
use Rattle.pgn_text.proofs.error.locate.element_place.Goals as goal

pub loop-token-init : goal.loop-token-init
loop-token-init c =
    ([], passed_start c.args.file_start c.args.block.now c.args.begin c.requires, omega arith)

pub loop-token-preserved : goal.loop-token-preserved
loop-token-preserved c =
    let (done, to, counted) = c.loop-token.invariant in (
      done ++ c.in-Some.ensures.part ∷ [],
      passed_more c.args.file_start c.args.block.now c.args.begin c.loop-token.at c.in-Some.end done
          (token_of c.in-Some.token) to c.in-Some.ensures,
      element_more c.args.file_start c.args.block.now c.loop-token.at c.in-Some.end c.args.index
          c.loop-token.left c.element_count-count.result
          (token_of c.in-Some.token) done counted c.in-Some.ensures c.element_count-count.ensures
          (omega arith),
    )

pub returns-then-left-count-clause-place : goal.returns-then-left-count-clause-place
returns-then-left-count-clause-place c =
    let (done, to, counted) = c.loop-token.invariant in
    element_here c.args.file_start c.args.block.now c.args.begin c.loop-token.at c.in-Some.end
    c.args.index c.loop-token.left (token_of c.in-Some.token)
    done to counted c.in-Some.ensures (omega (arith, c.element_count-count.ensures))

pub returns-clause-place : goal.returns-clause-place
returns-clause-place c =
    let (done, to, counted) = c.loop-token.invariant in
    no_element c.args.file_start c.args.block.now c.args.begin c.loop-token.at c.args.index
    c.loop-token.left done to counted c.in_default.ensures

pub returns-then-left-count-clause-within : goal.returns-then-left-count-clause-within
returns-then-left-count-clause-within c = let (done, to, known) = c.loop-token.invariant in
    to.within

pub returns-clause-within : goal.returns-clause-within
returns-clause-within c = let (done, to, known) = c.loop-token.invariant in to.within
