use Rattle.chess.proofs.Common.{◌≡◌, true, false, arith, index_of-below, on_board-men_of, cell_of}
use Rattle.chess.proofs.board.mailbox.MailboxBoard.attacked.Goals as goal

pub returns : goal.returns
returns c = (
  (λ e. let f : false ≡ true = e in absurd (cc)),
  (λ h.
      let on = on_board-men_of (cell_of c.args.self.now.cells) h.from h.man h.here in
      let below = index_of-below h.from on in
      let past = c.loop-index-test.false in
      absurd (c.loop-index.invariant h.from on (omega arith)
      (record { man = h.man; here = h.here; own = h.own; reaches = h.reaches }))),
)
