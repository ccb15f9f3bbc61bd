use Rattle.pgn_extract.proofs.Common.{◌++◌, ap, ◌∙◌}
use Rattle.pgn_extract.proofs.entries.PlainTexts.{san_plain}
use Rattle.pgn_extract.proofs.entries.line_value.push_san.Goals as goal

pub returns : goal.returns
returns c =
    let old = c.args.text.now.items in
    let text = c.san.result.bytes in
    let written = c.as_bytes.ensures.value ∙ c.deref.ensures.0 in (
      text,
      san_plain c.args.position.now c.args.m text c.invariant.ensures c.requires
          c.san.ensures.text,
      c.san.ensures.text,
      c.in_ok-extend_from_slice.ensures.items ∙ ap (λ t. old ++ t) written,
    )
