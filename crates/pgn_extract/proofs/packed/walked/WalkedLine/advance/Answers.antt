use Rattle.pgn_extract.proofs.Common.{drop, get_or, refl, subst, arith, codes_in, IsWalkedWith}
use Rattle.pgn_game.specs.Public.PlyCodes.{PlyCode, code_of}
use Rattle.pgn_criteria.proofs.StandFacts.{three, below, rest_is}
use Rattle.pgn_extract.proofs.packed.WalkedLines.{walks_on, walks_all}
use Rattle.pgn_extract.proofs.packed.walked.WalkedLine.advance.Goals as goal

pub returns-then-not-is_open-clause-moved : goal.returns-then-not-is_open-clause-moved
returns-then-not-is_open-clause-moved c aim game before P at =
    let line = c.args.self.now in
    walks_all line.walk line.ply line.search aim game before P (codes_in line.left.now) at
    c.args.is_open (λ is_on. let off = c.if-not-is_open.true in absurd (cc))

pub returns-in_default-clause-moved : goal.returns-in_default-clause-moved
returns-in_default-clause-moved c aim game before P at =
    let line = c.args.self.now in
    walks_all line.walk line.ply line.search aim game before P (codes_in line.left.now) at
    c.args.is_open (λ is_on. below line.left.now (omega (arith, c.in_default.len_below)))

pub returns-clause-moved : goal.returns-clause-moved
returns-clause-moved c aim game before P at =
    let line = c.args.self.now in
    let bytes = line.left.now in
    let code : PlyCode = code_of (get_or bytes 0 0) (get_or bytes 1 0) (get_or bytes 2 0) in
    rw (c.step.ensures, rest_is bytes _ refl)
    (walks_on line.walk line.ply line.search aim game before P code (codes_in (drop 3 bytes))
    (subst (λ codes. IsWalkedWith line.walk codes line.ply line.search aim game before P)
    (three bytes c.in-len3-up.len_at_least) at) c.args.is_open)
