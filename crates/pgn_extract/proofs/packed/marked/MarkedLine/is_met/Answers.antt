use Rattle.pgn_extract.proofs.Common.{true, ap, ◌∙◌, has_marks}
use Rattle.pgn_extract.proofs.packed.WalkedLines.{told_here}
use Rattle.pgn_extract.proofs.packed.marked.MarkedLine.is_met.Goals as goal

pub returns : goal.returns
returns c aim game before P at =
    let set = c.args.self.now.marks.flags in
    told_here aim game set at.met at.to true
    (ap (λ side. has_marks set side at.seen.check at.seen.stuck) at.turn ∙ at.told)
