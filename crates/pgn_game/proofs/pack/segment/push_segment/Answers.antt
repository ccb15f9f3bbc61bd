use Rattle.std.proofs.Common.{◌≡◌, ◌++◌, ◌∙◌, length}
use Rattle.pgn_game.specs.Public.Segments.{sealed, front_bytes}
use Rattle.pgn_game.proofs.SegmentReading.{pushed}
use Rattle.pgn_game.proofs.pack.segment.push_segment.Goals as goal

pub returns : goal.returns
returns c =
    let front : c.as_slice.result.now ≡ front_bytes c.args.records
    (length c.args.body.now) = c.as_slice.ensures.value ∙ c.in_ok-front.ensures in
    let first : c.push_sealed.new.out.items ≡ c.args.out.now.items ++ sealed c.as_slice.result.now =
    c.in_ok-push_sealed.ensures {u = tt} in
    let second : c.push_sealed-2.new.out.items ≡ c.push_sealed.new.out.items ++ sealed
    c.args.body.now = c.in_ok-push_sealed-2.ensures {u = tt} in
    pushed c.args.records c.args.body.now c.as_slice.result.now c.args.out.now.items
    c.push_sealed.new.out.items c.push_sealed-2.new.out.items front first second
