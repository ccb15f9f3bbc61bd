use Rattle.pgn_text.proofs.Common.{sym, ◌∙◌, false≢true, depth_limit, state_of, token_of}
use Rattle.pgn_text.proofs.error.StopContexts.{after_game}
use Rattle.pgn_text.proofs.error.StopWalk.{walk_game, walk_more, walk_stuck}
use Rattle.pgn_text.proofs.error.error_position.walk.Goals as goal

pub returns-then-is_closed : goal.returns-then-is_closed
returns-then-is_closed c = (
  walk_game depth_limit c.args.file_start c.args.block.now c.args.begin c.loop-token.at
      c.in-Some.end (state_of c.loop-token.progress)
      (token_of c.in-Some.token) c.loop-token.invariant c.in-Some.ensures (sym c.is_result.ensures
      ∙ c.if-is_result.true)
      (c.is_closed.ensures.0 c.if-is_closed.true),
  after_game depth_limit c.args.file_start c.args.block.now c.args.begin c.loop-token.at
      c.in-Some.end (state_of c.loop-token.progress)
      (token_of c.in-Some.token) c.loop-token.invariant c.in-Some.ensures (sym c.is_result.ensures
      ∙ c.if-is_result.true),
)

pub loop-token-preserved : goal.loop-token-preserved
loop-token-preserved c =
    walk_more depth_limit c.args.file_start c.args.block.now c.args.begin c.loop-token.at
    c.in-Some.end (state_of c.loop-token.progress)
    (state_of c.step.new.self) (token_of c.in-Some.token) c.loop-token.invariant c.in-Some.ensures
    (sym c.is_result.ensures ∙ c.if-is_result.false) (rw c.if-not-step.false at c.step.ensures)

-- a result in a variation
pub returns-else-is_closed : goal.returns-else-is_closed
returns-else-is_closed c = (
  c.loop-token.invariant,
  walk_stuck depth_limit c.args.file_start c.args.block.now c.args.begin c.loop-token.at
      c.in-Some.end (state_of c.loop-token.progress)
      (token_of c.in-Some.token) c.in-Some.ensures
      (λ r z. false≢true (sym c.if-is_closed.false ∙ c.is_closed.ensures.1 z))
      (λ r. absurd (false≢true (sym r ∙ sym c.is_result.ensures ∙ c.if-is_result.true))),
)

-- a part that may not stand there
pub returns-then-not-step : goal.returns-then-not-step
returns-then-not-step c = (
  c.loop-token.invariant,
  walk_stuck depth_limit c.args.file_start c.args.block.now c.args.begin c.loop-token.at
      c.in-Some.end (state_of c.loop-token.progress)
      (token_of c.in-Some.token) c.in-Some.ensures
      (λ r. absurd (false≢true (sym c.if-is_result.false ∙ c.is_result.ensures ∙ r)))
      (λ r. rw c.if-not-step.true at c.step.ensures),
)
