-- Each text asks for an edit after those of the texts before it, or is refused.
use Rattle.std.proofs.lemmas.List.{append_assoc}
use Rattle.pgn_extract.proofs.Common.{◌≡◌, ◌++◌, ◌∷◌, [], refl, ap, subst, ◌∙◌}
use Rattle.pgn_extract.proofs.Common.{err_from_is_err_and}
use Rattle.pgn_extract.proofs.app.EditTexts.{one_more, refused_drop, refused_set}
use Rattle.pgn_extract.specs.Public.AskedEdits.{IsAskedBeside, IsDropFault, IsDropped, IsSet}
use Rattle.pgn_extract.specs.Public.AskedEdits.{IsSetFault}
use Rattle.pgn_extract.specs.declared.app.command.Request.{Request}
use Rattle.pgn_game.specs.Public.Edits.{EditedTag, Edits, edit_of}
use Rattle.pgn_extract.proofs.app.edits.read_edits.Goals as goal

-- the edits with one more
abbrev one_edit : EditedTag → Edits → Edits
one_edit edit own = record own { tags = own.tags ++ edit ∷ [] }

-- it changes nothing of what is asked for beside
as_before : (request : Request) (edit : EditedTag) (before after : Edits)
    → after ≡ one_edit edit before → IsAskedBeside request before → IsAskedBeside request after
as_before request edit before after grown is = rw grown record {
  plies = is.plies;
  last = is.last;
  order = is.order;
}

pub loop-name-preserved : goal.loop-name-preserved
loop-name-preserved c =
    let items = c.deref-name-items.result.now in
    let i = c.loop-name.name-index in
    let edit = edit_of c.in_ok-drop_of.field-0 in
    let grown = c.in_ok-edits.ensures ∙ ap (one_edit edit) c.edits.view_is in (
      one_more IsDropped items i _ c.loop-name.edits.tags c.in_ok-edits.edits.tags edit
          c.loop-name-test.true (ap (λ (own : Edits). own.tags) grown) c.loop-name.invariant.0
          (subst (λ t. IsDropped t edit) c.as_bytes.ensures.value c.in_ok-drop_of.ensures.0),
      as_before c.args.request.now edit c.loop-name.edits c.in_ok-edits.edits grown
          c.loop-name.invariant.1,
    )

pub returns-in_err-drop_of-clause-refused : goal.returns-in_err-drop_of-clause-refused
returns-in_err-drop_of-clause-refused c =
    let why = c.in_err-drop_of.field-0.0 in
    let given = c.from_residual-in_err-drop_of in
    let p = err_from_is_err_and given.result given.ensures.1 in
    rw (p.1, p.2) (refused_drop c.args.request.now c.deref-name-items.result.now
    c.loop-name.name-index _ why c.deref-name-items.ensures.value c.loop-name-test.true
    (subst (λ t. IsDropFault t why) c.as_bytes.ensures.value c.in_err-drop_of.ensures))

pub returns-in_err-set_of-clause-refused : goal.returns-in_err-set_of-clause-refused
returns-in_err-set_of-clause-refused c =
    let why = c.in_err-set_of.field-0.0 in
    let given = c.from_residual-in_err-set_of in
    let p = err_from_is_err_and given.result given.ensures.1 in
    rw (p.1, p.2) (refused_set c.args.request.now c.deref-text-items.result.now
    c.loop-text.text-index _ why c.deref-text-items.ensures.value c.loop-text-test.true
    (subst (λ t. IsSetFault t why) c.as_bytes-in-loop-text.ensures.value c.in_err-set_of.ensures))

pub loop-text-preserved : goal.loop-text-preserved
loop-text-preserved c =
    let items = c.deref-text-items.result.now in
    let i = c.loop-text.text-index in
    let edit = edit_of c.in_ok-set_of.field-0 in
    let grown = c.in_ok-edits-2.ensures ∙ ap (one_edit edit) c.edits-in-loop-text.view_is in
    let (drops, sets, dropped, set, is, beside) = c.loop-text.invariant in (
      drops,
      sets ++ edit ∷ [],
      dropped,
      one_more IsSet items i _ sets (sets ++ edit ∷ []) edit c.loop-text-test.true refl set
          (subst (λ t. IsSet t edit) c.as_bytes-in-loop-text.ensures.value
          c.in_ok-set_of.ensures.0),
      ap (λ (own : Edits). own.tags) grown ∙ ap (λ es. es ++ edit ∷ []) is
          ∙ append_assoc drops sets (edit ∷ []),
      as_before c.args.request.now edit c.loop-text.edits c.in_ok-edits-2.edits grown beside,
    )
