use Rattle.pgn_criteria.proofs.Common.{◌≡◌, sym, ap, ◌∙◌, subst, parted_at, AreNames, run_of}
use Rattle.pgn_criteria.proofs.Common.{after_word}
use Rattle.pgn_criteria.proofs.line.tag.named_of.Goals as goal

pub returns-in_err-rest : goal.returns-in_err-rest
returns-in_err-rest c =
    rw c.from_residual.ensures λ names operator own reads. c.in_err-rest.ensures reads.key_is

pub returns-then-not-are_names : goal.returns-then-not-are_names
returns-then-not-are_names c names operator own reads =
    let same : names ≡ c.split_first.result.0.now =
    sym reads.name_is ∙ ap run_of (sym c.in_ok-rest.ensures.1) ∙ sym c.split_first.ensures.word in
    let t = c.are_names.ensures.1 (subst (λ x. AreNames (parted_at 124 x)) same reads.are) in
    absurd (cc (t, c.if-not-are_names.true))

pub returns : goal.returns
returns c =
    let rest : c.split_first.result.1.now ≡ after_word (after_word c.args.text.now) =
    c.split_first.ensures.rest ∙ ap after_word c.in_ok-rest.ensures.1 in
    record {
      key_is = c.in_ok-rest.ensures.0;
      name_is = ap run_of (sym c.in_ok-rest.ensures.1) ∙ sym c.split_first.ensures.word;
      are = c.are_names.ensures.0 c.if-not-are_names.false;
      operator_is = ap run_of (sym rest) ∙ sym c.split_first-2.ensures.word;
      own_is = ap after_word (sym rest) ∙ sym c.split_first-2.ensures.rest;
    }
