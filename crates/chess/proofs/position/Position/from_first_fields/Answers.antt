use Rattle.std.proofs.Common.{◌≤◌, ◌<◌, refl, sym, ◌∙◌, inl, inr, subst}
use Rattle.std.specs.Prelude.{codes}
use Rattle.chess.specs.Public.Fen.{fields_of}
use Rattle.chess.proofs.FenOnce.{read_or_refused}
use Rattle.chess.proofs.FirstFieldFacts.{some_text, given_white, given_black, none_given}
use Rattle.chess.proofs.position.Position.from_first_fields.Goals as goal

pub from_fields-requires : goal.from_fields-requires
from_fields-requires g c =
    let filled = c.in_ok-fields.ensures.0 in
    let some =
    some_text (codes "w") c.args.text.now (fields_of c.args.text.now) _ _ refl refl filled in
    (some.0, some.1 ∙ filled)

pub returns-in-Ok : goal.returns-in-Ok
returns-in-Ok g c =
    let filled = c.in_ok-fields.ensures.0 in
    given_white c.args.text.now (fields_of c.args.text.now) _ _ c.in_ok-fields.given
    c.in-Ok.position refl filled c.in_ok-fields.ensures.1
    (λ y are. c.in-Ok.ensures.answer y (are ∙ filled))

pub returns-then-given-gt1 : goal.returns-then-given-gt1
returns-then-given-gt1 g c = λ P given.
    let filled = c.in_ok-fields.ensures.0 in
    none_given c.args.text.now (fields_of c.args.text.now) given P refl
    (λ y are Q reads. read_or_refused y Q _ reads (c.in_default.ensures.answer y (are ∙ filled)))
    (inl (subst (λ n. 1 < n) c.in_ok-fields.ensures.1 c.if-given-gt1.true))

pub from_fields-requires-2 : goal.from_fields-requires-2
from_fields-requires-2 g c =
    let filled = c.in_ok-fields-2.ensures.0 in
    let some =
    some_text (codes "b") c.args.text.now (fields_of c.args.text.now) _ _ refl refl filled in
    (some.0, some.1 ∙ filled)

pub returns-in-Ok-from_fields : goal.returns-in-Ok-from_fields
returns-in-Ok-from_fields g c =
    let white = c.in_ok-fields.ensures.0 in
    let black = c.in_ok-fields-2.ensures.0 in
    given_black c.args.text.now (fields_of c.args.text.now) _ _ c.in_ok-fields-2.given
    c.in-Ok-from_fields.position refl black c.in_ok-fields-2.ensures.1
    (subst (λ n. n ≤ 1) (c.in_ok-fields.ensures.1 ∙ sym c.in_ok-fields-2.ensures.1)
    c.if-given-gt1.false)
    (λ y are Q reads. read_or_refused y Q _ reads (c.in_default.ensures.answer y (are ∙ white)))
    (λ y are. c.in-Ok-from_fields.ensures.answer y (are ∙ black))

pub returns-in-Err : goal.returns-in-Err
returns-in-Err g c = λ P given.
    let white = c.in_ok-fields.ensures.0 in
    let black = c.in_ok-fields-2.ensures.0 in
    none_given c.args.text.now (fields_of c.args.text.now) given P refl
    (λ y are Q reads. read_or_refused y Q _ reads (c.in_default.ensures.answer y (are ∙ white)))
    (inr (λ y are Q reads. read_or_refused y Q _ reads (c.in-Err.ensures.answer y (are ∙ black))))
