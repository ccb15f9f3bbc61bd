use Rattle.std.specs.Prelude.{IsTrue}
use Rattle.pgn_extract.proofs.Common.{refl, subst, MeetsSeen, NowhereSeen, codes_in}
use Rattle.pgn_extract.specs.Private.Packed.{bare_aim}
use Rattle.pgn_extract.proofs.PackedFacts.{lists_none}
use Rattle.pgn_extract.proofs.packed.WalkedLines.{walks_record, none_in_walk}
use Rattle.pgn_extract.proofs.packed.push_walked.Goals as goal

pub returns-then-not-may_be_met-clause-ok : goal.returns-then-not-may_be_met-clause-ok
returns-then-not-may_be_met-clause-ok c =
    let walk = c.begin.new.walk in
    lists_none (bare_aim c.args.context.settings.now) c.args.context.record.now
    c.args.text.now.items
    (none_in_walk c.args.context.record.now (bare_aim c.args.context.settings.now) c.args.search
    walk c.requires.asks c.in_default.ensures.ok
    (subst (λ plies. NowhereSeen (MeetsSeen c.args.search) walk.men walk.turn
    (IsTrue walk.check) (IsTrue walk.stuck) (codes_in plies))
    c.plies.ensures (c.may_be_met.ensures c.if-not-may_be_met.true)))

pub push_found-requires-clause-stands : goal.push_found-requires-clause-stands
push_found-requires-clause-stands c =
    rw (c.plies-2.ensures)
    (walks_record c.args.context.record.now (bare_aim c.args.context.settings.now) c.args.search
    c.begin.new.walk c.requires.asks c.in_default.ensures.ok refl)

pub push_found-requires-clause-makes : goal.push_found-requires-clause-makes
push_found-requires-clause-makes c game replay packed own = tt

pub returns-in-Err-clause-err : goal.returns-in-Err-clause-err
returns-in-Err-clause-err c is = (refl, c.in-Err.ensures.err is)

pub push_found-requires-clause-shows : goal.push_found-requires-clause-shows
push_found-requires-clause-shows c = (λ is. tt, λ is. tt)
