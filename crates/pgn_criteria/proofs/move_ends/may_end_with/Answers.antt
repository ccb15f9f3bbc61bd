use Rattle.pgn_criteria.proofs.Common.{◌≡◌, ◌⊎◌, None, sym, ◌∙◌, subst, inl, inr, arith, nat_tests}
use Rattle.pgn_criteria.proofs.Common.{kind_letter, rank_digit}
use Rattle.pgn_criteria.proofs.EndFacts.{Ends, ends_text, no_wing}
use Rattle.pgn_criteria.proofs.move_ends.may_end_with.Goals as goal

pub returns-else-byte-kind_letter : goal.returns-else-byte-kind_letter
returns-else-byte-kind_letter c P out text san ends =
    let m = c.args.m.now in
    let b = c.args.byte in
    let castle : m.castle ≡ None = no_wing m.castle (sym c.is_some.ensures ∙ c.if-is_some.false) in
    let is : (b ≡ kind_letter c.in-Some.kind) ⊎ (b ≡ rank_digit m.to.rank) =
    subst (λ p. Ends m None p b) c.in-Some.is
    (subst (λ w. Ends m w m.promote b) castle (ends_text P m text b san ends)) in
    elim is [
      | inl letter ↦ c.if-byte-kind_letter.false (letter ∙ sym c.kind_letter.ensures.letter)
      | inr rank ↦ let number = c.rank.ensures.number in grind (arith, nat_tests, out, rank, number)
    ]

pub returns-in-None : goal.returns-in-None
returns-in-None c P out text san ends =
    let m = c.args.m.now in
    let b = c.args.byte in
    let castle : m.castle ≡ None = no_wing m.castle (sym c.is_some.ensures ∙ c.if-is_some.false) in
    let is : b ≡ rank_digit m.to.rank = subst (λ p. Ends m None p b) c.in-None.is
    (subst (λ w. Ends m w m.promote b) castle (ends_text P m text b san ends)) in
    let number = c.rank-in-None.ensures.number in grind (arith, nat_tests, out, is, number)
