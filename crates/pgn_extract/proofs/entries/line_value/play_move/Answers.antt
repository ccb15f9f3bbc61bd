use Rattle.pgn_extract.proofs.Common.{◌++◌, ap, ◌∙◌}
use Rattle.pgn_extract.proofs.entries.PlainTexts.{san_plain}
use Rattle.pgn_extract.proofs.entries.line_value.play_move.Goals as goal

pub returns-clause-text : goal.returns-clause-text
returns-clause-text c =
    let old = c.args.text.now.items in
    let text = c.play_san.result.bytes in
    let written = c.as_bytes.ensures.value ∙ c.deref.ensures.0 in (
      text,
      san_plain c.args.here.now c.args.m text c.invariant.ensures c.requires
          c.play_san.ensures.text,
      c.play_san.ensures.text,
      c.in_ok-extend_from_slice.ensures.items ∙ ap (λ t. old ++ t) written,
    )
