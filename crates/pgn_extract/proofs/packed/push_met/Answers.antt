use Rattle.pgn_extract.proofs.Common.{◌≡◌, refl, sym, ◌∙◌, subst, aim_of}
use Rattle.std.specs.Prelude.{IfErr, OnOk}
use Rattle.pgn_extract.specs.Private.Packed.{HasNoText, ListsRecord}
use Rattle.pgn_extract.proofs.PackedFacts.{lists_bare, lists_no_entry}
use Rattle.pgn_extract.specs.declared.packed.PackedFault.TheVariants.{NoGame}
use Rattle.pgn_extract.proofs.packed.push_met.Goals as goal

pub returns-in-Ok-true-clause-ok : goal.returns-in-Ok-true-clause-ok
returns-in-Ok-true-clause-ok c =
    lists_bare c.args.context.settings.now c.args.context.record.now c.args.text.now.items
    c.push_seen.new.text.items (sym c.is_bare.ensures ∙ c.if-is_bare.true)
    (c.in-Ok-true.ensures.seen c.in-Ok-true.field-0-test)

pub returns-in-Ok-false-clause-ok : goal.returns-in-Ok-false-clause-ok
returns-in-Ok-false-clause-ok c =
    subst (λ text. OnOk c.push_played.result (ListsRecord (aim_of c.args.context.settings.now)
    c.args.context.record.now text c.push_played.new.text.items))
    (c.in-Ok-false.ensures.unseen c.in-Ok-false.field-0-test) c.push_played.ensures.ok

pub returns-in-Ok-false-clause-err : goal.returns-in-Ok-false-clause-err
returns-in-Ok-false-clause-err c =
    subst (λ text. IfErr c.push_played.result (λ fault. fault ≡ NoGame
    → (c.push_played.new.text.items ≡ text) × HasNoText c.args.context.record.now))
    (c.in-Ok-false.ensures.unseen c.in-Ok-false.field-0-test) c.push_played.ensures.err

pub returns-in-Ok-false-may_have_entry-clause-ok
    : goal.returns-in-Ok-false-may_have_entry-clause-ok
returns-in-Ok-false-may_have_entry-clause-ok c =
    lists_no_entry (aim_of c.args.context.settings.now) c.args.context.record.now
    c.args.text.now.items (c.in-Ok-false-may_have_entry.ensures.none
    c.in-Ok-false-may_have_entry.field-0-test)

pub returns-in-Err-may_have_entry-clause-err : goal.returns-in-Err-may_have_entry-clause-err
returns-in-Err-may_have_entry-clause-err c is = (refl, c.in-Err-may_have_entry.ensures.err is)
