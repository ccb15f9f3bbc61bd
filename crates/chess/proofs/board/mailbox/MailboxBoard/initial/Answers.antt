use Rattle.chess.proofs.Common.{◌≡◌, ◌∙◌, ap, sym, arith, Place, square_at, with_man, first_men}
use Rattle.chess.proofs.Common.{initial_man}
use Rattle.chess.proofs.StartFacts.{initial_none, initial_next}
use Rattle.chess.proofs.board.mailbox.MailboxBoard.initial.Goals as goal

pub loop-index-init : goal.loop-index-init
loop-index-init c = c.empty-board.ensures ∙ sym initial_none

pub loop-index-preserved : goal.loop-index-preserved
loop-index-preserved c =
    let n = c.loop-index.index in
    let men = first_men (λ n. initial_man (square_at n)) n in
    let square = c.of_index-square.ensures.square in
    c.put.ensures
    ∙ ap (λ p. with_man p c.of_index-square.result c.initial_man.result) c.loop-index.invariant
    ∙ ap (λ (s : Place). with_man men s c.initial_man.result) square
    ∙ ap (with_man men (square_at n)) (c.initial_man.ensures ∙ ap initial_man square)
    ∙ sym (initial_next n)

pub returns : goal.returns
returns c =
    let all : c.loop-index.index ≡ 64 = omega arith in
    c.loop-index.invariant ∙ ap (first_men (λ n. initial_man (square_at n))) all
