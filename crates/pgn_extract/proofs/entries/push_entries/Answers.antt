use Rattle.std.proofs.Common.{IfSome}
use Rattle.pgn_extract.proofs.Common.{IfSome_then, on_ok_weaker, MatchResult-weaker, aim_of}
use Rattle.pgn_extract.proofs.Common.{fault_of, AddsEntries, StopsAtFault}
use Rattle.pgn_extract.specs.Private.Lines.{aim_at}
use Rattle.pgn_extract.proofs.Finds.{on_result, stops_of}
use Rattle.pgn_extract.proofs.Picks.{asks_given}
use Rattle.pgn_extract.proofs.entries.Finders.{finder_adds}
use Rattle.pgn_extract.proofs.entries.push_entries.Goals as goal

pub find_asked-requires-clause-asks : goal.find_asked-requires-clause-asks
find_asked-requires-clause-asks c =
    rw c.in_ok-finder.ensures.settings c.in_default.is

pub find_asked-requires-2-clause-asks : goal.find_asked-requires-2-clause-asks
find_asked-requires-2-clause-asks c =
    rw c.in_ok-finder.ensures.settings
    (asks_given (aim_of c.args.context.settings.now) c.args.game.now c.in-Some.criteria
    c.in_ok-question.field-0 c.in-Some-2.question
    c.in-Some.is c.in-Some-2.is c.in_ok-question.ensures)

pub returns-in_default : goal.returns-in_default
returns-in_default c =
    let settings = c.args.context.settings.now in
    let id = c.args.context.own in
    let game = c.args.game.now in
    let finder = c.in_ok-finder in
    let old = c.args.text.now.items in
    let new = c.find_asked.new.text.items in
    let aim = aim_at (aim_of settings) c.args.search.line c.args.search.least in
    on_result c.find_asked.result (AddsEntries aim id game old new) (λ fault.
    IfSome (fault_of fault) (StopsAtFault game old new))
    (on_ok_weaker c.find_asked.result
    (finder_adds settings id game c.args.search finder.finder finder.ensures old new)
    c.find_asked.ensures.found)
    c.find_asked.ensures.fault

pub returns-then-is_bare : goal.returns-then-is_bare
returns-then-is_bare c =
    let settings = c.args.context.settings.now in
    let id = c.args.context.own in
    let game = c.args.game.now in
    let finder = c.in_ok-finder in
    let old = c.args.text.now.items in
    let new = c.find_told.new.sink.items in
    let aim = aim_at (aim_of settings) c.args.search.line c.args.search.least in
    on_result c.find_told.result (AddsEntries aim id game old new) (λ fault.
    IfSome (fault_of fault) (StopsAtFault game old new))
    (on_ok_weaker c.find_told.result
    (finder_adds settings id game c.args.search finder.finder finder.ensures old new)
    c.find_told.ensures.found)
    (MatchResult-weaker c.find_told.result c.find_told.ensures.fault (λ done none. tt)
    (λ fault met. IfSome_then _ met (stops_of game old new)))

pub returns-in_default-2 : goal.returns-in_default-2
returns-in_default-2 c =
    let settings = c.args.context.settings.now in
    let id = c.args.context.own in
    let game = c.args.game.now in
    let finder = c.in_ok-finder in
    let old = c.args.text.now.items in
    let new = c.find_again.new.text.items in
    let aim = aim_at (aim_of settings) c.args.search.line c.args.search.least in
    on_result c.find_again.result (AddsEntries aim id game old new)
    (λ fault. IfSome (fault_of fault) (StopsAtFault game old new))
    (on_ok_weaker c.find_again.result
    (finder_adds settings id game c.args.search finder.finder finder.ensures old new)
    c.find_again.ensures.found)
    c.find_again.ensures.fault

pub returns : goal.returns
returns c =
    let settings = c.args.context.settings.now in
    let id = c.args.context.own in
    let game = c.args.game.now in
    let finder = c.in_ok-finder in
    let old = c.args.text.now.items in
    let new = c.find_asked-2.new.text.items in
    let aim = aim_at (aim_of settings) c.args.search.line c.args.search.least in
    on_result c.find_asked-2.result (AddsEntries aim id game old new) (λ fault.
    IfSome (fault_of fault) (StopsAtFault game old new))
    (on_ok_weaker c.find_asked-2.result
    (finder_adds settings id game c.args.search finder.finder finder.ensures old new)
    c.find_asked-2.ensures.found)
    c.find_asked-2.ensures.fault
