use Rattle.pgn_criteria.proofs.Common.{◌+◌, ◌-◌, true, drop, refl, subst, arith, row, IsNextItem}
use Rattle.pgn_criteria.proofs.Common.{items_of, EachFrom, CanBeSplit, Item}
use Rattle.pgn_criteria.proofs.LayoutFacts.{lays_start, lays_step, lays_same, next_run, next_many}
use Rattle.pgn_criteria.proofs.layout.Layout.add_item.Goals as goal

pub returns-in_ok-add_run-in-Some-Run-default : goal.returns-in_ok-add_run-in-Some-Run-default
returns-in_ok-add_run-in-Some-Run-default c =
    let rank = c.args.rank in
    let taken = c.args.taken in
    let some = c.in-Some-Run-default in
    let items = c.args.items.now in
    let after = some.after.now in
    let next =
    subst (λ (i : Item). IsNextItem items i after) some.field-0-0-is some.ensures.next in (
      omega arith,
      some.ensures.shorter,
      lays_step (λ p. CanBeSplit (items_of items) (drop taken (row p rank))) (λ p.
          CanBeSplit (items_of items) (drop taken (row p rank)))
          (λ p. EachFrom p some.class rank taken 0 some.count) (λ p.
          CanBeSplit (items_of after) (drop (taken + some.count) (row p rank)))
          c.args.self.now c.args.self.now c.add_run.new.self true true true
          (lays_start (λ p. CanBeSplit (items_of items) (drop taken (row p rank)))
          c.args.self.now)
          c.in_ok-add_run-in-Some-Run-default.ensures (λ p.
          next_run p rank taken some.count items after some.class next (omega arith))
          (λ t. (refl, refl)),
    )

pub returns-else-size-taken : goal.returns-else-size-taken
returns-else-size-taken c =
    let rank = c.args.rank in
    let taken = c.args.taken in
    let size = c.in-Some.size in
    let some = c.in-Some-Many-default in
    let items = c.args.items.now in
    let after = some.after.now in
    let next =
    subst (λ (i : Item). IsNextItem items i after) some.field-0-0-is some.ensures.next in (
      omega arith,
      some.ensures.shorter,
      lays_same (λ p. CanBeSplit (items_of items) (drop taken (row p rank))) (λ p.
          CanBeSplit (items_of items) (drop taken (row p rank)))
          (λ p. CanBeSplit (items_of after) (drop (8 - size) (row p rank))) c.args.self.now
          c.args.self.now true
          (lays_start (λ p. CanBeSplit (items_of items) (drop taken (row p rank))) c.args.self.now)
          (λ p. next_many p rank taken size items after next c.in-Some.ensures.small (omega arith)
          c.in-Some.ensures.size),
    )
