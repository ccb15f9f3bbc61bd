use Rattle.std.specs.Prelude.{◌↔◌}
use Rattle.pgn_criteria.proofs.Common.{◌≡◌, ◌∷◌, sym, ◌∙◌, value_of, one_value, Allows, Begins}
use Rattle.pgn_criteria.proofs.WithinFacts.{same_next, begins_next}
use Rattle.pgn_criteria.proofs.compare.begins.Goals as goal

pub loop-byte-init : goal.loop-byte-init
loop-byte-init c =
    let first : c.value-bytes.result ≡ value_of c.args.given.now =
    one_value _ _ _ c.value-bytes.ensures.1 in
    let second : c.into_iter-byte-iterator.result ≡ value_of c.args.text.now =
    c.into_iter-byte-iterator.ensures.into_iter_gives ∙ one_value _ _ _ c.value-byte-items.ensures.1
    in
    rw (first, second) (λ begun. begun, λ begun. begun)

pub loop-byte-preserved : goal.loop-byte-preserved
loop-byte-preserved c =
    let first : c.loop-byte.bytes ≡ c.in-Some.byte ∷ c.next-in-loop-byte.new.self =
    same_next _ _ _ c.next-in-loop-byte.result c.next-in-loop-byte.ensures.steps (sym c.ne.ensures
    ∙ c.if-ne.false) in
    let second : c.loop-byte.byte-iterator ≡ c.in-Some.byte ∷ c.next.new.self =
    c.in-Some.ensures.steps in
    let next : Allows Begins c.next-in-loop-byte.new.self c.next.new.self
    ↔ Allows Begins c.loop-byte.bytes c.loop-byte.byte-iterator =
    begins_next _ _ _ _ c.in-Some.byte first second in (
      λ begun. c.loop-byte.invariant.0 (next.0 begun),
      λ begun. next.1 (c.loop-byte.invariant.1 begun),
    )
