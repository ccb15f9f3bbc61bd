use Rattle.std.proofs.Common.{◌≡◌, ◌∙◌, sym, subst, true, false}
use Rattle.chess.specs.Public.FirstFields.{GivesPosition}
use Rattle.pgn_criteria.specs.Public.Lines.{IsTrimmed}
use Rattle.pgn_criteria.proofs.SetupTextFacts.{setup_read, setup_spelled}
use Rattle.pgn_criteria.proofs.line.setup.setup_of.Goals as goal

pub returns-in_err-own : goal.returns-in_err-own
returns-in_err-own c =
    rw c.from_residual.ensures (λ setup spells.
    c.in_err-own.ensures (setup_read c.args.text.now setup spells).0)

pub returns-then-not-is_trimmed : goal.returns-then-not-is_trimmed
returns-then-not-is_trimmed c = λ setup spells.
    let trimmed = (setup_read c.args.text.now setup spells).1 in
    let is = c.is_trimmed.ensures.1 (subst IsTrimmed (sym c.in_ok-own.ensures.1) trimmed) in
    let clash : true ≡ false = sym is ∙ c.if-not-is_trimmed.true in cc

pub returns-in_err-position : goal.returns-in_err-position
returns-in_err-position c =
    rw c.from_residual-in_err-position.ensures (λ setup spells.
    let gives = (setup_read c.args.text.now setup spells).2 in
    c.in_err-position.ensures setup.position setup.given
    (subst (λ x. GivesPosition x setup.given setup.position) (sym c.in_ok-own.ensures.1) gives))

pub returns : goal.returns
returns c =
    setup_spelled c.args.text.now c.in_ok-own.own.now
    (record { position = c.in_ok-position.position; given = c.in_ok-position.given })
    c.in_ok-own.ensures.0 c.in_ok-own.ensures.1
    (c.is_trimmed.ensures.0 c.if-not-is_trimmed.false) c.in_ok-position.ensures
