use Rattle.pgn_extract.proofs.Common.{◌≡◌, ◌∷◌, ◌++◌, [], sym, ap, ◌∙◌, arith}
use Rattle.pgn_extract.proofs.Common.{append_assoc, append-nil, IfSome_then}
use Rattle.pgn_extract.proofs.Common.{err_from_is_err_and}
use Rattle.std.specs.Prelude.{codes}
use Rattle.pgn_extract.proofs.entries.FieldFacts.{no_next, next_shown, some_text, no_text}
use Rattle.pgn_extract.proofs.entries.FieldFacts.{or_dash_there, fails_more}
use Rattle.pgn_extract.proofs.entries.fields.push_next.Goals as goal

pub returns-then-not-is_asked-clause-shown : goal.returns-then-not-is_asked-clause-shown
returns-then-not-is_asked-clause-shown g c = (
  [],
  λ aim game before P at. no_next c.args.is_asked aim game before P c.if-not-is_asked.true,
  sym (append-nil c.args.text.now.items),
)

pub returns-in_err-push_value-clause-fault : goal.returns-in_err-push_value-clause-fault
returns-in_err-push_value-clause-fault g c =
    let p = err_from_is_err_and c.from_residual-in_err-push_value.result
    c.from_residual-in_err-push_value.ensures.1 in
    rw (p.1, p.2) (IfSome_then _ c.in_err-push_value.ensures.fault
    (fails_more _ c.args.text.now.items (32 ∷ []) c.push_blank.new.text.items
    c.push_value.new.text.items c.in_ok-push_blank.ensures.added))

pub returns-then-len-from-clause-shown : goal.returns-then-len-from-clause-shown
returns-then-len-from-clause-shown g c =
    let (value, plain, shows, pushed) = c.in_ok-push_value.ensures.shown in
    let start = c.args.text.now.items in
    let is : or_dash_there value ≡ value =
    some_text c.push_blank.new.text.items c.push_value.new.text.items value pushed
    (λ same. let other = c.if-len-from.true in
    absurd (omega (arith, same, other, c.len-from.ensures, c.len.ensures))) in (
      32 ∷ or_dash_there value,
      λ aim game before P at. next_shown c.args.is_asked value aim game before P
          c.if-not-is_asked.false (shows aim game before P at),
      pushed ∙ ap (λ t. t ++ value) c.in_ok-push_blank.ensures.added
          ∙ append_assoc start (32 ∷ []) value ∙ ap (λ t. start ++ 32 ∷ t) (sym is),
    )

pub returns-clause-shown : goal.returns-clause-shown
returns-clause-shown g c =
    let (value, plain, shows, pushed) = c.in_ok-push_value.ensures.shown in
    let start = c.args.text.now.items in
    let blank = c.push_blank.new.text.items in
    let none : value ≡ [] =
    no_text blank c.push_value.new.text.items value pushed
    (let same = c.if-len-from.false in
    omega (arith, same, c.len-from.ensures, c.len.ensures)) in
    let empty : c.push_value.new.text.items ≡ start ++ 32 ∷ [] =
    pushed ∙ ap (λ v. blank ++ v) none ∙ append-nil blank ∙ c.in_ok-push_blank.ensures.added in (
      32 ∷ or_dash_there value,
      λ aim game before P at. next_shown c.args.is_asked value aim game before P
          c.if-not-is_asked.false (shows aim game before P at),
      c.in_ok-extend_from_slice.ensures.items ∙ ap (λ t. t ++ codes "-") empty
          ∙ append_assoc start (32 ∷ []) (codes "-")
          ∙ ap (λ v. start ++ 32 ∷ or_dash_there v) (sym none),
    )
