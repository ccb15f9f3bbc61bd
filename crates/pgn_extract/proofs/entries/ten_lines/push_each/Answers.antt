use Rattle.pgn_extract.proofs.Common.{◌≡◌, ◌-◌, ◌++◌, ◌∷◌, [], decimal, ap, ◌∙◌, arith, lines_from}
use Rattle.pgn_extract.proofs.entries.TenLines.{no_lines, lines_more, one_line}
use Rattle.pgn_extract.proofs.entries.ten_lines.push_each.Goals as goal

pub loop-ply-init : goal.loop-ply-init
loop-ply-init c =
    record {
      above = omega arith;
      within = omega arith;
      line = c.in_ok-push_entry.ensures
          ∙ ap (λ t. t ++ (c.args.mark.now ++ 32 ∷ decimal c.args.from ++ 10 ∷ []))
          c.clear.ensures.items;
      written = no_lines c.args.mark.now c.args.from c.args.text.now.items;
    }

pub loop-ply-preserved : goal.loop-ply-preserved
loop-ply-preserved c =
    record {
      above = omega arith;
      within = omega arith;
      line = c.in_ok-count_up.ensures;
      written =
          lines_more c.args.mark.now c.args.from c.loop-ply.ply 1 c.loop-ply.invariant.above
          c.args.text.now.items c.loop-ply.text.items c.extend_from_slice.new.self.items
          c.deref.result.now c.loop-ply.invariant.written (c.deref.ensures.value
          ∙ c.loop-ply.invariant.line ∙ one_line c.args.mark.now c.loop-ply.ply)
          c.in_ok-extend_from_slice.ensures.items;
    }

pub returns : goal.returns
returns c =
    let same : c.loop-ply.ply - c.args.from ≡ c.args.end - c.args.from = omega arith in
    c.loop-ply.invariant.written
    ∙ ap (λ n. c.args.text.now.items ++ lines_from c.args.mark.now c.args.from n) same
