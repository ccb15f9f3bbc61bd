use Rattle.pgn_extract.proofs.Common.{◌++◌, [], ap, ◌∙◌, sym, aim_of, append-nil, fault_of, subst}
use Rattle.pgn_extract.proofs.Common.{IfSome_then}
use Rattle.pgn_extract.specs.Private.Finding.{AddsEntries}
use Rattle.pgn_extract.specs.Private.Lines.{aim_at}
use Rattle.pgn_extract.specs.declared.entries.Search.{Search}
use Rattle.pgn_extract.proofs.entries.LineListings.{each_listed}
use Rattle.pgn_extract.proofs.entries.each_line.push_each_line.Goals as goal

pub first_fault-requires : goal.first_fault-requires
first_fault-requires c =
    IfSome_then (fault_of c.in-Err.fault) c.in-Err.ensures (λ fault stops. stops.0)

pub returns-in-Err : goal.returns-in-Err
returns-in-Err c =
    IfSome_then (fault_of c.first_fault.result) c.first_fault.ensures
    (λ fault is. (is, [], sym (append-nil c.args.text.now.items)))

pub check_variations-requires : goal.check_variations-requires
check_variations-requires c =
    let (replay, is, entries, listed, added) = c.in_default.ensures in
    (replay, is)

pub returns : goal.returns
returns c =
    let aim = aim_of c.args.context.settings.now in
    let id = c.args.context.own in
    let game = c.args.game.now in
    let old = c.new-own.result.items in
    let mid = c.push_entries.new.text.items in
    let (text, each, put) =
    each_listed aim id game old mid c.push_variations.new.text.items
    (subst (λ (s : Search). AddsEntries (aim_at aim s.line s.least) id game old mid)
    c.of_line-search.ensures c.in_default.ensures) c.in_ok-push_variations.ensures in
    let (replay, sound) = c.in_ok-check_variations.ensures in (
      replay,
      sound,
      text,
      each,
      c.in_ok-extend_from_slice.ensures.items
          ∙ ap (λ t. c.args.text.now.items ++ t)
          (c.deref.ensures.value ∙ put ∙ ap (λ own. own ++ text) c.new-own.ensures.items),
    )
