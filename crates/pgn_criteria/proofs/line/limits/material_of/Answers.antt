use Rattle.pgn_criteria.proofs.Common.{◌≡◌, ℕ, List, ◌∙◌, sym, ap, subst, run_of, after_word}
use Rattle.pgn_criteria.proofs.Common.{SpellsLimits}
use Rattle.pgn_criteria.proofs.MaterialFacts.{material_read, material_spelled}
use Rattle.pgn_criteria.proofs.line.limits.material_of.Goals as goal

pub returns-in_err-rest : goal.returns-in_err-rest
returns-in_err-rest c =
    rw c.from_residual.ensures λ white black spells.
    c.in_err-rest.ensures (material_read c.args.text.now white black spells).key_is

pub returns-in_err-black : goal.returns-in_err-black
returns-in_err-black c =
    rw c.from_residual-in_err-black.ensures λ white black spells.
    let read = material_read c.args.text.now white black spells in
    c.in_err-black.ensures
    (ap run_of (c.split_first.ensures.rest ∙ ap after_word c.in_ok-rest.ensures.1)
    ∙ read.between_is)

pub returns-in_err-white : goal.returns-in_err-white
returns-in_err-white c =
    rw c.from_residual-in_err-white.ensures λ white black spells.
    let read = material_read c.args.text.now white black spells in
    let same : run_of (after_word c.args.text.now) ≡ c.split_first.result.0.now =
    ap run_of (sym c.in_ok-rest.ensures.1) ∙ sym c.split_first.ensures.word in
    c.in_err-white.ensures white (subst (λ (x : List ℕ). SpellsLimits x white) same read.white_is)

pub returns-in_err-black-2 : goal.returns-in_err-black-2
returns-in_err-black-2 c =
    rw c.from_residual-in_err-black-2.ensures λ white black spells.
    let read = material_read c.args.text.now white black spells in
    let rest : c.split_first.result.1.now ≡ after_word (after_word c.args.text.now) =
    c.split_first.ensures.rest ∙ ap after_word c.in_ok-rest.ensures.1 in
    let same : after_word (after_word (after_word c.args.text.now)) ≡ c.in_ok-black.black.now =
    ap after_word (sym rest) ∙ sym c.in_ok-black.ensures.1 in
    c.in_err-black-2.ensures black (subst (λ (x : List ℕ). SpellsLimits x black) same read.black_is)

pub returns : goal.returns
returns c =
    let rest : c.split_first.result.1.now ≡ after_word (after_word c.args.text.now) =
    c.split_first.ensures.rest ∙ ap after_word c.in_ok-rest.ensures.1 in
    material_spelled c.args.text.now c.in_ok-white.white c.in_ok-black-2.black
    (record {
      key_is = c.in_ok-rest.ensures.0;
      white_is =
          subst (λ (x : List ℕ). SpellsLimits x c.in_ok-white.white) (c.split_first.ensures.word
          ∙ ap run_of c.in_ok-rest.ensures.1) c.in_ok-white.ensures;
      between_is = ap run_of (sym rest) ∙ c.in_ok-black.ensures.0;
      black_is = rw (← (c.in_ok-black.ensures.1 ∙ ap after_word rest)) c.in_ok-black-2.ensures;
    })
