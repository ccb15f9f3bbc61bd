use Rattle.pgn_extract.proofs.Common.{◌+◌, aim_of, fault_of, subst, IfSome_then}
use Rattle.pgn_extract.specs.Private.Finding.{AddsEntries}
use Rattle.pgn_extract.specs.Private.Lines.{aim_at}
use Rattle.pgn_extract.specs.declared.entries.Search.{Search}
use Rattle.std.specs.Prelude.{◌-◌, Some, max}
use Rattle.pgn_extract.proofs.entries.LineListings.{none_of_main, one_here}
use Rattle.pgn_extract.proofs.entries.each_line.push_here.Goals as goal

pub returns-in-Ok-clause-text : goal.returns-in-Ok-clause-text
returns-in-Ok-clause-text c =
    let aim = aim_of c.args.context.settings.now in
    let id = c.args.context.own in
    let left = c.args.left.now in
    let variation = c.in-Some.variation in
    let old = c.args.text.now.items in
    let new = c.push_entries.new.text.items in
    let number = c.args.count + 1 in
    let (line, one, same, least, steps, sound) = rw c.in-Some.is at c.in_ok-variation.ensures in
    one_here aim id left.game variation.game c.args.count line left.begun old new one same
    (subst (λ n. AddsEntries (aim_at aim (Some (record { number = number; from = n - 1 }))
    (max aim.min_ply n)) id variation.game old new) least
    (subst (λ (s : Search). AddsEntries (aim_at aim s.line s.least) id variation.game old new)
    c.of_line-search.ensures c.in-Ok.ensures))

pub push_entries-requires : goal.push_entries-requires
push_entries-requires c is =
    let (line, one, same, least, steps, sound) = rw c.in-Some.is at c.in_ok-variation.ensures in
    sound

pub refused-requires : goal.refused-requires
refused-requires c =
    let (line, one, same, least, steps, sound) = rw c.in-Some.is at c.in_ok-variation.ensures in
    none_of_main c.in-Some.variation.game (fault_of c.in-Err.fault) sound
    (IfSome_then (fault_of c.in-Err.fault) c.in-Err.ensures (λ fault stops. stops.0))
