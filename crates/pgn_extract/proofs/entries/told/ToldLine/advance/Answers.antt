use Rattle.std.proofs.Common.{arith}
use Rattle.pgn_extract.proofs.entries.KeptLines.{goes_one, ends_kept}
use Rattle.pgn_extract.proofs.entries.told.ToldLine.advance.Goals.{then-not-is_open-via-then-not-is_open}
use Rattle.pgn_extract.proofs.entries.told.ToldLine.advance.Goals.{then-not-is_open-via-else-not-is_open+then-next-len}
use Rattle.pgn_extract.proofs.entries.told.ToldLine.advance.Goals as goal

pub returns-then-not-is_open-clause-moved : goal.returns-then-not-is_open-clause-moved
returns-then-not-is_open-clause-moved c aim game before P (kept, at) =
    ends_kept kept c.args.self.now.met.items c.args.self.now.ply aim game before
    P at c.args.is_open
    (λ is_on. elim c.then-not-is_open.branch [
      | then-not-is_open-via-then-not-is_open w ↦ let off = w.if-not-is_open.true in absurd (cc)
      | then-not-is_open-via-else-not-is_open+then-next-len w ↦ omega
          (arith, w.len.ensures, w.if-next-len.true)
    ])

pub returns-clause-moved : goal.returns-clause-moved
returns-clause-moved c aim game before P (kept, at) =
    let (passed, next, there, none) =
    goes_one kept c.args.self.now.met.items c.args.self.now.ply aim game before P at
    (let within = c.args.self.now.within in
    omega (arith, within, c.len.ensures, c.if-next-len.false)) c.args.is_open in
    (passed, next, (kept, there), none)
