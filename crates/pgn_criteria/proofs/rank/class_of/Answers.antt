use Rattle.pgn_criteria.proofs.Common.{subst, AreMen}
use Rattle.pgn_criteria.proofs.SetFacts.{among_read, other_read, no_set, same_after}
use Rattle.pgn_criteria.proofs.rank.class_of.Goals as goal

pub returns-then-are_men : goal.returns-then-are_men
returns-then-are_men c =
    rw c.men_in.ensures (among_read c.args.inside.now (c.are_men.ensures.0 c.if-are_men.true))

pub returns-in_err-letters : goal.returns-in_err-letters
returns-in_err-letters c =
    rw c.from_residual.ensures
    (no_set c.args.inside.now (λ are. let t = c.are_men.ensures.1 are in
    absurd (cc (t, c.if-are_men.false)))
    (λ letters is are. c.in_err-letters.ensures letters is))

pub returns-then-not-are_men : goal.returns-then-not-are_men
returns-then-not-are_men c =
    no_set c.args.inside.now (λ are. let t = c.are_men.ensures.1 are in
    absurd (cc (t, c.if-are_men.false)))
    (λ letters is are.
    let same =
    same_after letters c.in_ok-letters.letters.now c.args.inside.now is c.in_ok-letters.ensures
    in
    let t = c.are_men-2.ensures.1 (subst AreMen same are) in
    absurd (cc (t, c.if-not-are_men.true)))

pub returns : goal.returns
returns c =
    let letters = c.in_ok-letters.letters.now in
    rw c.in_ok-letters.ensures (rw c.men_in-2.ensures (other_read letters (c.are_men-2.ensures.0
    c.if-not-are_men.false)))
