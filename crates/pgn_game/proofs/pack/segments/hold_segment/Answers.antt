use Rattle.std.proofs.Common.{◌≡◌, ◌∙◌, length, drop, sym, ap, arith}
use Rattle.pgn_game.specs.Public.Segments.{segment_at, front_at}
use Rattle.pgn_game.proofs.SegmentStreamFacts.{cut_front, bad_front, cut_body, bad_body, whole_body}
use Rattle.pgn_game.proofs.SegmentStreamFacts.{all_taken}
use Rattle.pgn_game.proofs.pack.segments.hold_segment.Goals as goal

pub returns-else-len-eq0-clause-gives : goal.returns-else-len-eq0-clause-gives
returns-else-len-eq0-clause-gives g c =
    let on = rw (c.if-not-branch.true) at c.in_ok-fill.ensures.gives in
    cut_front c.requires.empty on.0 on.1 (omega (arith, c.if-len-eq0.false, c.len.ensures)) on.2

pub returns-in-Err-clause-gives : goal.returns-in-Err-clause-gives
returns-in-Err-clause-gives g c =
    let on = rw (c.if-not-branch.false) at c.in_ok-fill.ensures.gives in
    bad_front c.requires.empty on.0 c.in-Err.error on.1 (ap front_at (sym c.bytes.ensures)
    ∙ c.in-Err.ensures.exact)

pub returns-then-not-branch-2-clause-gives : goal.returns-then-not-branch-2-clause-gives
returns-then-not-branch-2-clause-gives g c =
    let on = rw (c.if-not-branch.false) at c.in_ok-fill.ensures.gives in
    let more = rw (c.if-not-branch-2.true) at c.in_ok-fill-2.ensures.gives in
    cut_body c.requires.empty on.0 more.0 on.1 _ c.in-Ok.size (rw (← c.bytes.ensures)
    (sym c.in-Ok.ensures.rest))
    (ap front_at (sym c.bytes.ensures) ∙ c.in-Ok.ensures.exact) more.1 more.2

pub returns-in-Ok-read-clause-gives : goal.returns-in-Ok-read-clause-gives
returns-in-Ok-read-clause-gives g c =
    let on = rw (c.if-not-branch.false) at c.in_ok-fill.ensures.gives in
    let more = rw (c.if-not-branch-2.false) at c.in_ok-fill-2.ensures.gives in
    let rest : drop 24 c.fill.new.held ≡ c.in-Ok.field-0-1.now =
    ap (drop 24) (sym c.bytes.ensures) ∙ sym c.in-Ok.ensures.rest in
    let front = ap front_at (sym c.bytes.ensures) ∙ c.in-Ok.ensures.exact in
    let found = rw (c.bytes-2.ensures) at c.in-Ok-read.ensures.found in
    let exact = rw (c.bytes-2.ensures) at c.in-Ok-read.ensures.exact in (
      c.in-Ok-read.segment,
      found.0,
      whole_body c.requires.empty on.0 more.0 on.1 _ c.in-Ok.size rest front c.in-Ok-read.segment _
          more.1 exact found.1,
      all_taken c.requires.empty on.0 more.0 on.1 _ c.in-Ok.size rest front,
      ap length c.records.ensures,
    )

pub returns-in-Err-read-clause-gives : goal.returns-in-Err-read-clause-gives
returns-in-Err-read-clause-gives g c =
    let on = rw (c.if-not-branch.false) at c.in_ok-fill.ensures.gives in
    let more = rw (c.if-not-branch-2.false) at c.in_ok-fill-2.ensures.gives in
    bad_body c.requires.empty on.0 more.0 on.1 _ c.in-Ok.size (rw (← c.bytes.ensures)
    (sym c.in-Ok.ensures.rest))
    (ap front_at (sym c.bytes.ensures) ∙ c.in-Ok.ensures.exact) c.in-Err-read.error more.1
    (ap segment_at (sym c.bytes-2.ensures) ∙ c.in-Err-read.ensures.exact)
