use Rattle.pgn_extract.proofs.Common.{◌++◌, ap, ◌∙◌, append_assoc, on_ok_weaker}
use Rattle.pgn_extract.proofs.Common.{MatchResult-weaker, IfSome_then}
use Rattle.pgn_extract.proofs.entries.FieldFacts.{fields_shown, fails_more}
use Rattle.pgn_extract.proofs.entries.fields.push_fields.Goals as goal

pub returns-clause-shown : goal.returns-clause-shown
returns-clause-shown g c =
    let (fen, of_fen, added) = c.in_ok-push_fen.ensures.shown in
    on_ok_weaker c.push_next.result
    (λ (next, of_next, pushed). (
      fen ++ next,
      λ aim game before P at. fields_shown c.args.fields fen next aim game before P
          (of_fen aim game before P at) (of_next aim game before P at),
      pushed ∙ ap (λ t. t ++ next) added ∙ append_assoc c.args.text.now.items fen next,
    ))
    c.push_next.ensures.shown

pub returns-clause-fault : goal.returns-clause-fault
returns-clause-fault g c =
    let (fen, of_fen, added) = c.in_ok-push_fen.ensures.shown in
    MatchResult-weaker c.push_next.result c.push_next.ensures.fault (λ done none. tt)
    (λ fault met. IfSome_then _ met
    (fails_more _ c.args.text.now.items fen c.push_fen.new.text.items c.push_next.new.text.items
    added))
