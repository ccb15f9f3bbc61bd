use Rattle.pgn_criteria.proofs.Common.{◌≡◌, ◌-◌, true, false, length, take, drop, sym, ap, ◌∙◌}
use Rattle.pgn_criteria.proofs.Common.{subst, slice_index_or, has_byte, AreEntries, first_limit}
use Rattle.pgn_criteria.proofs.Common.{first_and_rest}
use Rattle.pgn_criteria.proofs.LimitFacts.{entries_read, entries_spelled}
use Rattle.pgn_criteria.proofs.line.limits.are_entries.Goals as goal

pub returns-in_default-kind_of : goal.returns-in_default-kind_of
returns-in_default-kind_of c = (
  (λ yes. absurd (cc)),
  (λ are.
      let rest = c.loop-rest.rest.now in
      let first = subst AreEntries (first_and_rest rest c.in-len1-up.len_at_least)
      (c.loop-rest.invariant.1 are) in
      let read = entries_read (slice_index_or rest 0 0) (take (length rest - 1) (drop 1 rest)) first
      in
      absurd (c.in_default-kind_of.ensures read.0.0 read.0.1)),
)

pub returns-then-has_byte : goal.returns-then-has_byte
returns-then-has_byte c = (
  (λ yes. absurd (cc)),
  (λ are.
      let rest = c.loop-rest.rest.now in
      let first = subst AreEntries (first_and_rest rest c.in-len1-up.len_at_least)
      (c.loop-rest.invariant.1 are) in
      let read = entries_read (slice_index_or rest 0 0) (take (length rest - 1) (drop 1 rest)) first
      in
      let found : has_byte (slice_index_or rest 0 0)
      (first_limit (take (length rest - 1) (drop 1 rest))).1 ≡ true =
      ap (has_byte (slice_index_or rest 0 0)) (sym c.first_limit.ensures.rest)
      ∙ sym c.has_byte.ensures ∙ c.if-has_byte.true in
      let clash : true ≡ false = sym found ∙ read.1 in cc),
)

pub loop-rest-preserved : goal.loop-rest-preserved
loop-rest-preserved c =
    let rest = c.loop-rest.rest.now in
    let whole = first_and_rest rest c.in-len1-up.len_at_least in
    let other : has_byte (slice_index_or rest 0 0)
    (first_limit (take (length rest - 1) (drop 1 rest))).1 ≡ false =
    ap (has_byte (slice_index_or rest 0 0)) (sym c.first_limit.ensures.rest)
    ∙ sym c.has_byte.ensures ∙ c.if-has_byte.false in (
      (λ more. c.loop-rest.invariant.0 (subst AreEntries (sym whole)
          (entries_spelled (slice_index_or rest 0 0) (take (length rest - 1) (drop 1 rest))
          c.in-Some.field-0 c.in-Some.ensures other
          (subst AreEntries c.first_limit.ensures.rest more)))),
      (λ are. subst AreEntries (sym c.first_limit.ensures.rest)
          (entries_read (slice_index_or rest 0 0) (take (length rest - 1) (drop 1 rest))
          (subst AreEntries whole (c.loop-rest.invariant.1 are))).2),
    )
