use Rattle.std.proofs.Common.{◌<◌, ◌↔◌, ◌+◌, ℕ, subst, sym}
use Rattle.pgn_criteria.specs.Private.Items.{Has, IsAfter}
use Rattle.pgn_criteria.proofs.rank.PlaceFacts.{place_kept, place_added, added_low}
use Rattle.pgn_criteria.proofs.rank.advance.Goals.{then-goes_on, else-goes_on}
use Rattle.pgn_criteria.proofs.rank.advance.Goals as goal

abbrev IsKept : goal.Joined-goes_on → ℕ → Type 0
IsKept c next = record {
  low : next < 512;
  after : (place : ℕ) → Has next place
      ↔ IsAfter c.args.class c.args.squares.now c.args.reached (c.loop-place.place + 1) place;
}

pub loop-place-preserved : goal.loop-place-preserved
loop-place-preserved c =
    let class = c.args.class in
    let squares = c.args.squares.now in
    let reached = c.args.reached in
    let next = c.loop-place.next in
    let place = c.loop-place.place in
    elim c.if-goes_on.branch [
      | then-goes_on w ↦
          let here = c.goes_on.ensures.0 w.if-goes_on.true in
          subst (IsKept c) (sym w.next-is) (record {
            low = added_low next place c.loop-place-test.true c.loop-place.invariant.low;
            after = place_added class squares reached next place c.loop-place-test.true here.0
                here.1 c.loop-place.invariant.after;
          })
      | else-goes_on w ↦
          subst (IsKept c) (sym w.next-is) (record {
            low = c.loop-place.invariant.low;
            after = place_kept class squares reached next place (λ here.
                absurd (cc (c.goes_on.ensures.1 here, w.if-goes_on.false)))
                c.loop-place.invariant.after;
          })
    ]
