use Rattle.pgn_criteria.proofs.Common.{◌≡◌, ap, sym, ◌∙◌, subst, SpellsCount, run_of, after_word}
use Rattle.pgn_criteria.proofs.PliesFacts.{compared_read, compared_spelled}
use Rattle.pgn_criteria.proofs.line.plies.compared_of.Goals as goal

pub returns-in_err-rest : goal.returns-in_err-rest
returns-in_err-rest c =
    rw c.from_residual.ensures λ comparison count spells. c.in_err-rest.ensures
    (compared_read c.args.key.now c.args.text.now comparison count c.requires spells).key_is

pub returns-in_err-comparison : goal.returns-in_err-comparison
returns-in_err-comparison c =
    rw c.from_residual-in_err-comparison.ensures λ comparison count spells.
    let read = compared_read c.args.key.now c.args.text.now comparison count c.requires spells in
    c.in_err-comparison.ensures comparison (c.split_first.ensures.word
    ∙ ap run_of c.in_ok-rest.ensures.1 ∙ read.sign_is)

pub returns-in_err-count : goal.returns-in_err-count
returns-in_err-count c =
    rw c.from_residual-in_err-count.ensures λ comparison count spells.
    let read = compared_read c.args.key.now c.args.text.now comparison count c.requires spells in
    let rest : after_word (after_word c.args.text.now) ≡ c.split_first.result.1.now =
    ap after_word (sym c.in_ok-rest.ensures.1) ∙ sym c.split_first.ensures.rest in
    c.in_err-count.ensures count (subst (λ x. SpellsCount x count) rest read.count_is)

pub returns : goal.returns
returns c =
    let rest : c.split_first.result.1.now ≡ after_word (after_word c.args.text.now) =
    c.split_first.ensures.rest ∙ ap after_word c.in_ok-rest.ensures.1 in
    compared_spelled c.args.key.now c.args.text.now c.in_ok-comparison.comparison
    c.in_ok-count.count
    (record {
      key_is = c.in_ok-rest.ensures.0;
      sign_is = ap run_of (sym c.in_ok-rest.ensures.1) ∙ sym c.split_first.ensures.word
          ∙ c.in_ok-comparison.ensures;
      count_is = subst (λ x. SpellsCount x c.in_ok-count.count) rest c.in_ok-count.ensures;
    })
