use Rattle.pgn_extract.proofs.Common.{◌≡◌, ◌++◌, ◌∷◌, [], ℕ, List, length, sym, ap, ◌∙◌, subst}
use Rattle.pgn_extract.proofs.Common.{arith}
use Rattle.pgn_extract.proofs.Common.{take, take-length, append_assoc, IfSome_then, Fault, Where}
use Rattle.pgn_extract.proofs.Common.{err_from_is_err_and, HasFault, get_or}
use Rattle.pgn_extract.specs.Private.Lines.{ShowsParts}
use Rattle.pgn_extract.specs.Private.RowTexts.{filled}
use Rattle.pgn_extract.specs.Private.Sinks.{grows_more}
use Rattle.pgn_extract.specs.declared.entries.row_maker.RowPart.{RowPart}
use Rattle.pgn_extract.proofs.entries.RowMaking.{part_taken, shows_more, writes_more}
use Rattle.pgn_extract.proofs.entries.RowMaking.{size_more, filled_more}
use Rattle.pgn_extract.proofs.entries.LineValues.{column_shown}
use Rattle.pgn_extract.proofs.entries.row_maker.RowMaker.push_row.Goals as goal

pub returns-in_err-push_part-clause-fault : goal.returns-in_err-push_part-clause-fault
returns-in_err-push_part-clause-fault g c =
    let p = err_from_is_err_and c.from_residual-in_err-push_part.result
    c.from_residual-in_err-push_part.ensures.1 in
    let (values, shown, size, so_far) = c.loop-part.invariant in
    let line = g.L.Line.At c.args.line.now in
    let carries : (own : Fault) → Where line (HasFault own) × (some : List ℕ)
    × (c.push_part.new.text.items ≡ c.extend_from_slice.new.self.items ++ some)
    → Where line (HasFault own) × (some : List ℕ)
    × (c.push_part.new.text.items ≡ c.args.text.now.items ++ some) = λ own (fails, some, grew).
    let grown = grows_more c.args.text.now.items c.extend_from_slice.new.self.items
    c.push_part.new.text.items
    (grows_more c.args.text.now.items c.loop-part.text.items
    c.extend_from_slice.new.self.items (_, so_far)
    (_, c.in_ok-extend_from_slice.ensures.items))
    (some, grew) in
    (fails, grown.0, grown.1) in
    rw (p.1, p.2) (IfSome_then _ c.in_err-push_part.ensures.fault carries)

pub loop-part-preserved : goal.loop-part-preserved
loop-part-preserved g c =
    let (values, shown, size, so_far) = c.loop-part.invariant in
    let (value, own, pushed) = c.in_ok-push_part.ensures.shown in
    let all = c.args.self.now.parts.items in
    let i = c.loop-part.part-index in
    let part = c.part-item.result in
    let before : c.extend_from_slice.new.self.items ≡ c.loop-part.text.items ++ part.before.items =
    c.in_ok-extend_from_slice.ensures.items
    ∙ ap (λ t. c.loop-part.text.items ++ t) c.deref.ensures.value in
    let slice = c.deref-part-items.ensures.value in
    let size_is : length c.deref-part-items.result.now ≡ length all = ap length slice in
    let next = part_taken all i part (omega arith)
    (c.part-item.is ∙ ap (λ ps. get_or ps i part) slice) in (
      values ++ value ∷ [],
      subst (λ (ps : List RowPart). Where (g.L.Line.At c.args.line.now)
          (ShowsParts c.args.self.now ps (values ++ value ∷ []))) (sym next)
          (shows_more c.args.self.now (take i all) part values value
          (g.L.Line.At c.args.line.now) shown own),
      size_more (take i all) part values value size ∙ ap length (sym next),
      writes_more (take i all) part values value c.args.text.now.items c.loop-part.text.items
          c.extend_from_slice.new.self.items c.push_part.new.text.items size so_far before pushed
          ∙ ap (λ (ps : List RowPart). c.args.text.now.items
          ++ filled ps (values ++ value ∷ []) []) (sym next),
    )

pub returns-clause-shown : goal.returns-clause-shown
returns-clause-shown g c =
    let (values, shown, size, so_far) = c.loop-part.invariant in
    let all = c.args.self.now.parts.items in
    let i = c.loop-part.part-index in
    let last = c.args.self.now.last.items in
    let old = c.args.text.now.items in
    let size_is : length c.deref-part-items.result.now ≡ length all =
    ap length c.deref-part-items.ensures.value in
    let count : i ≡ length all = omega arith in
    let begin : length old ≡ c.len-begin.result = omega arith in
    let whole : take i all ≡ all = ap (λ n. take n all) count ∙ take-length all in
    let text : c.extend_from_slice-2.new.self.items ≡ old ++ filled all values last =
    c.in_ok-extend_from_slice-2.ensures.items
    ∙ ap (λ t. c.loop-part.text.items ++ t) c.deref-2.ensures.value
    ∙ ap (λ t. t ++ last) (so_far ∙ ap (λ ps. old ++ filled ps values []) whole)
    ∙ append_assoc old (filled all values []) last
    ∙ ap (λ t. old ++ t) (sym (filled_more all values [] last)) in (
      values,
      subst (λ (ps : List RowPart). Where (g.L.Line.At c.args.line.now)
          (ShowsParts c.args.self.now ps values)) whole shown,
      c.in_ok-end_row.ensures old (filled all values last) text begin,
    )

pub push_part-requires-clause-shows : goal.push_part-requires-clause-shows
push_part-requires-clause-shows g c =
    let all = c.args.self.now.parts.items in
    let i = c.loop-part.part-index in
    let part = c.part-item.result in
    let slice = c.deref-part-items.ensures.value in
    let size_is : length c.deref-part-items.result.now ≡ length all = ap length slice in
    column_shown g.L.Line.Shows all i part c.requires.shows (omega arith)
    (c.part-item.is ∙ ap (λ ps. get_or ps i part) slice)
