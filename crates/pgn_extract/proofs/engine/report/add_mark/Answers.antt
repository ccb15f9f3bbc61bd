use Rattle.pgn_extract.proofs.Common.{◌≡◌, ℕ, ◌++◌, true, false, Vec, Global, sym, ap, ◌∙◌, subst}
use Rattle.pgn_extract.proofs.Common.{on_ok_weaker, mark_place, PieceStart, aim_of, is_chosen}
use Rattle.pgn_extract.proofs.Common.{mark_line, id_at}
use Rattle.pgn_extract.proofs.ChoiceFacts.{passed_by, taken_by}
use Rattle.pgn_extract.proofs.engine.GameVerdict.{mark_game, mark_passed, mark_unreadable}
use Rattle.pgn_extract.proofs.engine.report.add_mark.Goals as goal

pub returns-then-passes_over : goal.returns-then-passes_over
returns-then-passes_over c =
    let aim = aim_of c.args.context.settings.now in
    let id = c.args.context.id in
    let held = c.passes_over.ensures in
    let passed =
    passed_by (is_chosen aim.chosen (id_at id c.in-Game.at)) c.passes_over.result held.passed
    c.if-passes_over.true in
    mark_passed aim id c.args.context.bytes.now c.args.mark
    (subst (λ (m : PieceStart). is_chosen aim.chosen (id_at id (mark_place m))
    ≡ false) (sym c.in-Game.is) passed) held.output held.faults held.counts.0 held.counts.1

pub returns-then-passes_over-2 : goal.returns-then-passes_over-2
returns-then-passes_over-2 c =
    let aim = aim_of c.args.context.settings.now in
    let id = c.args.context.id in
    let held = c.passes_over-in-Unreadable.ensures in
    let passed = passed_by (is_chosen aim.chosen (id_at id c.in-Unreadable.at))
    c.passes_over-in-Unreadable.result held.passed c.if-passes_over-2.true in
    mark_passed aim id c.args.context.bytes.now c.args.mark
    (subst (λ (m : PieceStart). is_chosen aim.chosen (id_at id (mark_place m))
    ≡ false) (sym c.in-Unreadable.is) passed) held.output held.faults held.counts.0
    held.counts.1

pub returns-else-passes_over : goal.returns-else-passes_over
returns-else-passes_over c =
    let aim = aim_of c.args.context.settings.now in
    let id = c.args.context.id in
    let held = c.passes_over.ensures in
    let taken =
    taken_by (is_chosen aim.chosen (id_at id c.in-Game.at)) c.passes_over.result held.passed
    c.if-passes_over.false in
    let own = mark_line aim.name (id_at id c.in-Game.at) in
    on_ok_weaker c.push_mark_line.result
    (λ line. mark_game aim id c.args.context.bytes.now c.in-Game.at c.args.mark c.in-Game.is
    (subst (λ (m : PieceStart). is_chosen aim.chosen (id_at id (mark_place m))
    ≡ true) (sym c.in-Game.is) taken)
    (line ∙ ap (λ (v : Vec ℕ Global). v.items ++ own) held.output)
    (ap (λ (v : Vec ℕ Global). v.items) held.faults) held.counts.0 held.counts.1)
    c.push_mark_line.ensures

pub returns-else-passes_over-2 : goal.returns-else-passes_over-2
returns-else-passes_over-2 c =
    let aim = aim_of c.args.context.settings.now in
    let id = c.args.context.id in
    let held = c.passes_over-in-Unreadable.ensures in
    let taken = taken_by (is_chosen aim.chosen (id_at id c.in-Unreadable.at))
    c.passes_over-in-Unreadable.result held.passed c.if-passes_over-2.false in
    on_ok_weaker c.add_unreadable.result
    (λ adds.
    mark_unreadable aim id c.args.context.bytes.now c.in-Unreadable.at c.args.mark adds.0
    c.in-Unreadable.is
    (subst (λ (m : PieceStart). is_chosen aim.chosen (id_at id (mark_place m))
    ≡ true) (sym c.in-Unreadable.is) taken)
    adds.1 adds.2 held.output held.faults held.counts.0 held.counts.1)
    c.add_unreadable.ensures
