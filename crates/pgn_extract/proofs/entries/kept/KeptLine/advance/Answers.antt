use Rattle.std.proofs.Common.{arith}
use Rattle.pgn_extract.proofs.Common.{◌++◌, ◌∷◌, sym, subst}
use Rattle.pgn_extract.specs.Private.KeptLines.{IsKeptWith, line_of}
use Rattle.pgn_extract.proofs.entries.KeptLines.{goes_one, ends_kept}
use Rattle.pgn_extract.proofs.entries.kept.KeptLine.advance.Goals.{then-not-is_open-via-then-not-is_open}
use Rattle.pgn_extract.proofs.entries.kept.KeptLine.advance.Goals.{then-not-is_open-via-else-not-is_open+then-next-len}
use Rattle.pgn_extract.proofs.entries.kept.KeptLine.advance.Goals as goal

pub returns-then-not-is_open-clause-moved : goal.returns-then-not-is_open-clause-moved
returns-then-not-is_open-clause-moved c aim game before P at =
    let line = c.args.self.now in
    ends_kept (line_of line) line.met.items line.ply aim game before P at c.args.is_open
    (λ is_on. elim c.then-not-is_open.branch [
      | then-not-is_open-via-then-not-is_open w ↦ let off = w.if-not-is_open.true in absurd (cc)
      | then-not-is_open-via-else-not-is_open+then-next-len w ↦ omega
          (arith, w.len.ensures, w.if-next-len.true)
    ])

pub returns-then-next-len-2-clause-moved : goal.returns-then-next-len-2-clause-moved
returns-then-next-len-2-clause-moved c aim game before P at =
    let line = c.args.self.now in
    let new = c.play_next.new.self in
    let (same, met, ply) = c.play_next.ensures.line in
    let (passed, next, there, none) =
    goes_one (line_of line) line.met.items line.ply aim game before P at
    (let within = c.requires.valid.within in
    omega (arith, within, c.len.ensures, c.if-next-len.false)) c.args.is_open in
    let all = before ++ P ∷ passed in (
      passed,
      next,
      subst (λ k. IsKeptWith k new.met.items new.ply aim game all next) (sym same)
          (subst (λ ms. IsKeptWith (line_of line) ms new.ply aim game all next) (sym met)
          (subst (λ n. IsKeptWith (line_of line) line.met.items n aim game all next) (sym ply)
          there)),
      none,
    )

pub returns-clause-moved : goal.returns-clause-moved
returns-clause-moved c aim game before P at =
    let line = c.args.self.now in
    goes_one (line_of line) line.met.items line.ply aim game before P at
    (let within = c.requires.valid.within in
    omega (arith, within, c.len.ensures, c.if-next-len.false)) c.args.is_open
