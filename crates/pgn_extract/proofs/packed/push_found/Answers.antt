use Rattle.pgn_extract.proofs.Common.{◌≡◌, ◌++◌, ◌∙◌, ap, on_ok_weaker, named_mark, raw_id}
use Rattle.pgn_extract.specs.Private.Packed.{aim_making}
use Rattle.pgn_extract.proofs.Finds.{on_ok_both}
use Rattle.pgn_extract.proofs.PackedFacts.{lists_record}
use Rattle.pgn_extract.proofs.packed.push_found.Goals as goal

pub returns : goal.returns
returns g c =
    let raw = c.args.context.record.now in
    let named = named_mark raw.name (raw_id raw) in
    let mark = c.push_record_mark.new.text.items in
    let marked : mark ≡ named =
    c.in_ok-push_record_mark.ensures ∙ ap (λ t. t ++ named) c.in_ok-mark.ensures.items in
    on_ok_weaker c.find.result
    (λ (found, grew).
    lists_record (aim_making c.args.context.settings.now c.args.lines) raw mark
    c.args.text.now.items c.find.new.sink.items marked grew
    (λ game replay packed own.
    let (before, P, at, none) = c.requires.stands game replay packed own in
    found raw.name c.args.context.settings.now.openings (raw_id raw) game before P at none
    (c.requires.makes game replay packed own)))
    (on_ok_both _ _ c.find.result c.find.ensures.found c.find.ensures.kept)
