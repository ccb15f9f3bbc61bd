use Rattle.std.proofs.lemmas.List.{append-nil}
use Rattle.pgn_extract.proofs.Common.{ℕ, [], ◌∷◌, ◌++◌, Vec, Global, refl, sym, ap, ◌∙◌, codes}
use Rattle.pgn_extract.proofs.Common.{on_ok_weaker, block_limit, aim_of, is_chosen, fault_text}
use Rattle.pgn_extract.proofs.Common.{indented, too_long_text}
use Rattle.pgn_extract.proofs.ChoiceFacts.{passed_by, taken_by}
use Rattle.pgn_extract.proofs.NoteLines.{empty_note, too_long_note}
use Rattle.pgn_extract.proofs.VerdictFacts.{reports_passed, reports_too_long}
use Rattle.pgn_extract.proofs.engine.report.report_too_long.Goals as goal

pub returns-then-passes_over : goal.returns-then-passes_over
returns-then-passes_over c =
    let aim = aim_of c.args.settings.now in
    let held = c.passes_over.ensures in
    let passed = passed_by (is_chosen aim.chosen c.args.id) c.passes_over.result held.passed
    c.if-passes_over.true in
    reports_passed aim _ c.args.id passed (ap (λ (v : Vec ℕ Global). v.items) held.output
    ∙ c.clear.ensures.output)
    (ap (λ (v : Vec ℕ Global). v.items) held.faults
    ∙ c.clear.ensures.faults) held.counts.0 (held.counts.1 ∙ c.clear.ensures.counts.1)

pub returns-then-not-settings : goal.returns-then-not-settings
returns-then-not-settings c =
    let aim = aim_of c.args.settings.now in
    let held = c.passes_over.ensures in
    let taken = taken_by (is_chosen aim.chosen c.args.id) c.passes_over.result held.passed
    c.if-passes_over.false in
    let line = fault_text c.args.settings.now.name c.args.id (codes "too long") in
    let empty = ap (λ (v : Vec ℕ Global). v.items) held.faults ∙ c.clear.ensures.faults in
    reports_too_long aim _ c.args.id [] taken (empty_note c.args.settings.now.explain)
    (ap (λ (v : Vec ℕ Global). v.items) held.output ∙ c.clear.ensures.output)
    (c.in_ok-push_fault_line.ensures ∙ ap (λ t. t ++ line) empty
    ∙ sym (append-nil line)) held.counts.0 refl

pub returns : goal.returns
returns c =
    let aim = aim_of c.args.settings.now in
    let held = c.passes_over.ensures in
    let taken = taken_by (is_chosen aim.chosen c.args.id) c.passes_over.result held.passed
    c.if-passes_over.false in
    let line = fault_text c.args.settings.now.name c.args.id (codes "too long") in
    let note = indented (too_long_text c.args.size block_limit ∷ []) in
    let empty = ap (λ (v : Vec ℕ Global). v.items) held.faults ∙ c.clear.ensures.faults in
    on_ok_weaker c.push_too_long_note.result
    (λ is. reports_too_long aim _ c.args.id note taken
    (too_long_note c.args.settings.now.explain c.if-not-settings.false c.args.size block_limit)
    (ap (λ (v : Vec ℕ Global). v.items) held.output ∙ c.clear.ensures.output)
    (is ∙ ap (λ t. t ++ note) (c.in_ok-push_fault_line.ensures ∙ ap (λ t. t ++ line) empty))
    held.counts.0 refl)
    c.push_too_long_note.ensures
