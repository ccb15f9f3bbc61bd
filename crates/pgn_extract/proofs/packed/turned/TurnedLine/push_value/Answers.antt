use Rattle.std.proofs.Common.{[], sym, append-nil}
use Rattle.pgn_extract.proofs.packed.WalkedLines.{shows_no_value}
use Rattle.pgn_extract.proofs.packed.turned.TurnedLine.push_value.Goals as goal

pub returns-clause-shown : goal.returns-clause-shown
returns-clause-shown c = (
  [],
  tt,
  λ aim game before P at. shows_no_value c.args.arg3 aim game before P at.plain,
  sym (append-nil c.args.arg2.now.items),
)
