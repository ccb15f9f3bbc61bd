use Rattle.std.specs.Prelude.{◌↔◌}
use Rattle.pgn_criteria.proofs.Common.{◌≡◌, true, refl, drop, value_of, Allows, Has, Begins}
use Rattle.pgn_criteria.proofs.WithinFacts.{has_next, has_at_once}
use Rattle.pgn_criteria.proofs.compare.has.Goals as goal

pub loop-rest-preserved : goal.loop-rest-preserved
loop-rest-preserved c =
    let given = value_of c.loop-rest.rest.now in
    let text = value_of c.args.text.now in
    let next : Allows Has (drop 1 given) text ↔ Allows Has given text =
    has_next given text (λ begun. let yes : c.begins.result ≡ true = c.begins.ensures.1 begun in cc)
    in
    record {
      good = c.without_first-rest.ensures.contents;
      rest = rw c.without_first-rest.ensures.value (
        λ within.
            c.loop-rest.invariant.rest.0 (next.0 within),
        λ within. next.1 (c.loop-rest.invariant.rest.1 within),
      );
    }

pub returns : goal.returns
returns c =
    let begun : Allows Begins (value_of c.loop-rest.rest.now) (value_of c.args.text.now) =
    c.begins.ensures.0 (cc) in
    (λ yes. c.loop-rest.invariant.rest.0 (has_at_once _ _ begun), λ within. refl)
