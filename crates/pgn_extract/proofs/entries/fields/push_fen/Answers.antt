use Rattle.pgn_extract.proofs.Common.{◌∷◌, ◌++◌, [], sym, ap, ◌∙◌, append_assoc, append-nil}
use Rattle.pgn_extract.proofs.Common.{on_ok_weaker, MatchResult-weaker, IfSome_then}
use Rattle.pgn_extract.proofs.entries.FieldFacts.{no_fen, fen_shown, fails_more}
use Rattle.pgn_extract.proofs.entries.fields.push_fen.Goals as goal

pub returns-then-not-is_asked-clause-shown : goal.returns-then-not-is_asked-clause-shown
returns-then-not-is_asked-clause-shown g c = (
  [],
  λ aim game before P at. no_fen c.args.is_asked aim game before P c.if-not-is_asked.true,
  sym (append-nil c.args.text.now.items),
)

pub returns-clause-shown : goal.returns-clause-shown
returns-clause-shown g c =
    on_ok_weaker c.push_value.result
    (λ (value, plain, shows, pushed). (
      32 ∷ value,
      λ aim game before P at. fen_shown c.args.is_asked value aim game before P
          c.if-not-is_asked.false (shows aim game before P at),
      pushed ∙ ap (λ t. t ++ value) c.in_ok-push_blank.ensures.added
          ∙ append_assoc c.args.text.now.items (32 ∷ []) value,
    ))
    c.push_value.ensures.shown

pub returns-clause-fault : goal.returns-clause-fault
returns-clause-fault g c =
    MatchResult-weaker c.push_value.result c.push_value.ensures.fault (λ done none. tt)
    (λ fault met. IfSome_then _ met
    (fails_more _ c.args.text.now.items (32 ∷ []) c.push_blank.new.text.items
    c.push_value.new.text.items c.in_ok-push_blank.ensures.added))
