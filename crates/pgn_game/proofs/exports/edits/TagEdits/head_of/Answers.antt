-- Each edit stands under its name.
use Rattle.std.specs.Prelude.{IsTrue, option_map}
use Rattle.pgn_game.proofs.Common.{◌≡◌, ◌+◌, ◌++◌, ◌∷◌, [], ap, sym, subst, ◌∙◌, arith, map, take}
use Rattle.pgn_game.proofs.Common.{list_all}
use Rattle.pgn_text.specs.Public.Bytes.{is_name_byte}
use Rattle.pgn_text.specs.Public.GameTexts.{IsRetagged}
use Rattle.pgn_game.specs.Public.Edits.{AreEditable, Edits, IsEditable, IsEditedBy}
use Rattle.pgn_game.specs.Public.Edits.{edit_of}
use Rattle.pgn_game.proofs.exports.EditFacts.{not_edited, edited_more, given_contents}
use Rattle.pgn_game.proofs.exports.EditFacts.{editable_there, edits_step, edits_end}
use Rattle.pgn_game.proofs.exports.edits.TagEdits.head_of.Goals as goal

pub loop-edit-init : goal.loop-edit-init
loop-edit-init c =
    let bare = record c.args.game.now { elements = [] } in
    subst (IsEditedBy [] bare) (sym c.in_ok-head.ensures) (not_edited bare)

pub retagged-requires-clause-name : goal.retagged-requires-clause-name
retagged-requires-clause-name c =
    let able = editable_there c.deref-edit-items.result.now c.loop-edit.edit-index
    c.edit-item.result c.loop-edit-test.true
    (subst (λ es. AreEditable (map edit_of es)) (sym c.deref-edit-items.ensures.value)
    c.self.invariant) in
    let own = subst (λ e. IsEditable (edit_of e)) (sym c.edit-item.is) able in
    subst (λ name. IsTrue (list_all is_name_byte name)) (sym c.deref.ensures.value) own.name

pub retagged-requires-clause-contents : goal.retagged-requires-clause-contents
retagged-requires-clause-contents c =
    let able = editable_there c.deref-edit-items.result.now c.loop-edit.edit-index
    c.edit-item.result c.loop-edit-test.true
    (subst (λ es. AreEditable (map edit_of es)) (sym c.deref-edit-items.ensures.value)
    c.self.invariant) in
    let own = subst (λ e. IsEditable (edit_of e)) (sym c.edit-item.is) able in
    given_contents (edit_of c.edit-item.result) c.contents.result own c.contents.ensures

pub loop-edit-preserved : goal.loop-edit-preserved
loop-edit-preserved c =
    let items = c.deref-edit-items.result.now in
    let i = c.loop-edit.edit-index in
    let edit = c.edit-item.result in
    edited_more (map edit_of (take i items)) (map edit_of (take (i + 1) items)) (edit_of edit)
    (record c.args.game.now { elements = [] }) c.loop-edit.head c.in_ok-head-2.head
    (subst (λ e. map edit_of (take (i + 1) items)
    ≡ map edit_of (take i items) ++ edit_of e ∷ []) (sym c.edit-item.is)
    (edits_step items i edit c.loop-edit-test.true)) c.loop-edit.invariant
    (subst (λ text. IsRetagged edit.name.items text c.loop-edit.head c.in_ok-head-2.head)
    c.contents.ensures
    (subst (λ name. IsRetagged name (option_map (λ text. text.now) c.contents.result)
    c.loop-edit.head c.in_ok-head-2.head) c.deref.ensures.value c.in_ok-head-2.ensures))

pub returns-clause-edited : goal.returns-clause-edited
returns-clause-edited c =
    subst (λ edits. IsEditedBy edits (record c.args.game.now { elements = [] }) c.loop-edit.head)
    (ap (map edit_of) (edits_end c.deref-edit-items.result.now c.loop-edit.edit-index (omega arith)
    ∙ c.deref-edit-items.ensures.value) ∙ ap (λ (own : Edits). own.tags) c.self.view_is)
    c.loop-edit.invariant

pub returns-clause-able : goal.returns-clause-able
returns-clause-able c =
    subst (λ (own : Edits). AreEditable own.tags) c.self.view_is c.self.invariant
