use Rattle.chess.proofs.Common.{◌≡◌, ℕ, true, false, List, [], ◌∷◌, length, sym, ap, ◌∙◌, ◌==◌}
use Rattle.chess.proofs.Common.{fields_of, run_of, after_run, after_all}
use Rattle.chess.proofs.RestFacts.{no_length}
use Rattle.chess.proofs.FieldFacts.{fields_after_spaces, begins_field, fields_of_run}
use Rattle.chess.proofs.fen.read.fields.next_field.Goals as goal

-- what is left after the spaces is empty, or begins with a field
first_field : (text rest run after : List ℕ) → rest ≡ after_all 32 text → (length rest == 0) ≡ false
    → run ≡ run_of 32 rest → after ≡ after_run 32 rest
    → fields_of rest ≡ run ∷ fields_of after
first_field text [] run after e full r a = let clash : true ≡ false = full in cc
first_field text (b ∷ x) run after e full r a =
    fields_of_run b x (begins_field text b x (sym e))
    ∙ ap (λ f. f ∷ fields_of (after_run 32 (b ∷ x))) (sym r)
    ∙ ap (λ y. run ∷ fields_of y) (sym a)

pub returns-then-is_empty : goal.returns-then-is_empty
returns-then-is_empty c =
    let rest = c.after_separators-rest.result.now in
    fields_after_spaces c.args.text.now
    ∙ ap fields_of (sym c.after_separators-rest.ensures
    ∙ no_length rest (sym c.is_empty.ensures ∙ c.if-is_empty.true))

pub returns : goal.returns
returns c =
    let text = c.args.text.now in
    let rest = c.after_separators-rest.result.now in
    fields_after_spaces text ∙ ap fields_of (sym c.after_separators-rest.ensures)
    ∙ first_field text rest c.split_run.result.0.now c.split_run.result.1.now
    c.after_separators-rest.ensures
    (sym c.is_empty.ensures ∙ c.if-is_empty.false) c.split_run.ensures.run c.split_run.ensures.rest
