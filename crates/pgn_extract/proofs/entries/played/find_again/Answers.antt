use Rattle.pgn_extract.proofs.entries.KeptLines.{tells_known}
use Rattle.std.proofs.lemmas.List.{get_or_past}
use Rattle.pgn_extract.proofs.Common.{◌≡◌, [], true, false, get_or, length, arith, nat_tests, sym}
use Rattle.pgn_extract.proofs.Common.{append-nil, aim_with, heading_of, IsEntry, Main}
use Rattle.pgn_extract.specs.Public.Listing.{IsShownOf}
use Rattle.pgn_extract.proofs.Picks.{leaves_all}
use Rattle.pgn_extract.proofs.entries.played.find_again.Goals as goal

pub find_asked-requires-clause-asks : goal.find_asked-requires-clause-asks
find_asked-requires-clause-asks c =
    let (kept, is, are) = c.in_ok-met.ensures in
    tells_known c.args.game.now kept is c.args.criteria.now c.in_ok-met.met.items
    c.end_met.new.met.items are c.end_met.ensures _ c.requires.criteria

pub find_asked-requires-clause-sound : goal.find_asked-requires-clause-sound
find_asked-requires-clause-sound c known =
    let (kept, is, are) = c.in_ok-met.ensures in (kept, is)

pub returns-then-is_empty-clause-found : goal.returns-then-is_empty-clause-found
returns-then-is_empty-clause-found c name openings id of =
    let game = c.args.game.now in
    let aim = aim_with c.args.finder.now name openings in
    let (kept, is, are) = c.in_ok-met.ensures in
    let told = c.end_met.new.met.items in
    let none : length told ≡ 0 =
    let empty = c.is_empty.ensures in let so = c.if-is_empty.true in grind (arith, nat_tests) in
    let tells = tells_known game kept is c.args.criteria.now c.in_ok-met.met.items told are
    c.end_met.ensures _ c.requires.criteria in (
      kept,
      is,
      [],
      leaves_all id (IsEntry aim (heading_of game) kept) (IsShownOf aim id game kept) 0
          kept.positions
          (λ n low high entry.
          let meets : get_or told n false ≡ true =
          (tells kept (Main, is) n (omega (arith, high))).1 entry.0.2 in
          let past : get_or told n false ≡ false =
          get_or_past told n false (omega (arith, none)) in
          absurd (cc (meets, past))),
      sym (append-nil c.args.text.now.items),
    )
