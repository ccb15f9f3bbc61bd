use Rattle.std.specs.Prelude.{OnOk}
use Rattle.pgn_extract.proofs.Common.{refl, subst, ◌∙◌, aim_of}
use Rattle.pgn_extract.specs.Private.Packed.{ListsRecord}
use Rattle.pgn_extract.proofs.PackedFacts.{lists_bare, lists_no_entry}
use Rattle.pgn_extract.proofs.packed.push_played.Goals as goal

pub returns-in-Ok-false-clause-ok : goal.returns-in-Ok-false-clause-ok
returns-in-Ok-false-clause-ok c =
    lists_no_entry (aim_of c.args.context.settings.now) c.args.context.record.now
    c.args.text.now.items (c.in-Ok-false.ensures.none c.in-Ok-false.field-0-test)

pub returns-in-Err-clause-err : goal.returns-in-Err-clause-err
returns-in-Err-clause-err c is = (refl, c.in-Err.ensures.err is)

pub returns-in-Ok-true-push_told_whole-clause-ok : goal.returns-in-Ok-true-push_told_whole-clause-ok
returns-in-Ok-true-push_told_whole-clause-ok c =
    lists_bare c.args.context.settings.now c.args.context.record.now c.args.text.now.items
    c.push_told_whole.new.text.items c.requires.bare
    (c.in-Ok-true-push_told_whole.ensures.seen c.in-Ok-true-push_told_whole.field-0-test)

pub returns-in-Ok-true-push_turned-clause-ok : goal.returns-in-Ok-true-push_turned-clause-ok
returns-in-Ok-true-push_turned-clause-ok c =
    subst (λ text. ListsRecord (aim_of c.args.context.settings.now) c.args.context.record.now text
    c.push_turned.new.text.items)
    (c.in-Ok-false-push_told_whole.ensures.unseen c.in-Ok-false-push_told_whole.field-0-test)
    (lists_bare c.args.context.settings.now c.args.context.record.now
    c.push_told_whole.new.text.items c.push_turned.new.text.items c.requires.bare
    (c.in-Ok-true-push_turned.ensures.seen c.in-Ok-true-push_turned.field-0-test))

pub returns-in-Ok-true-push_told-clause-ok : goal.returns-in-Ok-true-push_told-clause-ok
returns-in-Ok-true-push_told-clause-ok c =
    subst (λ text. ListsRecord (aim_of c.args.context.settings.now) c.args.context.record.now text
    c.push_told.new.text.items)
    (c.in-Ok-false-push_turned.ensures.unseen c.in-Ok-false-push_turned.field-0-test
    ∙ c.in-Ok-false-push_told_whole.ensures.unseen c.in-Ok-false-push_told_whole.field-0-test)
    (lists_bare c.args.context.settings.now c.args.context.record.now c.push_turned.new.text.items
    c.push_told.new.text.items c.requires.bare
    (c.in-Ok-true-push_told.ensures.seen c.in-Ok-true-push_told.field-0-test))

pub returns-in-Ok-false-push_told-clause-ok : goal.returns-in-Ok-false-push_told-clause-ok
returns-in-Ok-false-push_told-clause-ok c =
    subst (λ text. OnOk c.push_kept_record.result (ListsRecord (aim_of c.args.context.settings.now)
    c.args.context.record.now text c.push_kept_record.new.text.items))
    (c.in-Ok-false-push_told.ensures.unseen c.in-Ok-false-push_told.field-0-test
    ∙ c.in-Ok-false-push_turned.ensures.unseen c.in-Ok-false-push_turned.field-0-test
    ∙ c.in-Ok-false-push_told_whole.ensures.unseen c.in-Ok-false-push_told_whole.field-0-test)
    c.push_kept_record.ensures.ok

pub returns-in-Err-push_told-clause-err : goal.returns-in-Err-push_told-clause-err
returns-in-Err-push_told-clause-err c is =
    let none = c.in-Err-push_told.ensures.err is in (
      none.0
          ∙ c.in-Ok-false-push_turned.ensures.unseen c.in-Ok-false-push_turned.field-0-test
          ∙ c.in-Ok-false-push_told_whole.ensures.unseen
          c.in-Ok-false-push_told_whole.field-0-test,
      none.1,
    )
