use Rattle.pgn_extract.proofs.Common.{◌-◌, ◌++◌, ap, ◌∙◌, aim_of, lines_from, refl}
use Rattle.pgn_extract.proofs.entries.EachPly.{plies_from, lines_listed, listed_plies}
use Rattle.pgn_extract.proofs.entries.listing.push_lines.Goals as goal

pub returns : goal.returns
returns c name openings id is tags replay size =
    let least = c.args.settings.now.min_ply in
    let end = c.end_ply.result in
    let text = c.args.text.now.items in (
      plies_from id least (end - least),
      listed_plies (record (aim_of c.args.settings.now) { name = name; openings = openings }) id
          c.args.plies end c.requires.criteria c.requires.plain refl c.end_ply.ensures.exactly tags
          replay size,
      c.in_ok-push_range.ensures ∙ ap (λ m. text ++ lines_from m least (end - least)) is
          ∙ ap (λ t. text ++ t) (lines_listed name id least (end - least)),
    )
