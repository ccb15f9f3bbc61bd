use Rattle.std.proofs.lemmas.List.{append-nil}
use Rattle.pgn_extract.proofs.Common.{true, drop, [], ◌++◌, refl, sym, ap, subst, ◌∙◌, append_assoc}
use Rattle.pgn_extract.proofs.Common.{codes, arith, on_ok_weaker, faulty_text, fault_text, IsNote}
use Rattle.pgn_extract.proofs.Common.{FaultyGame, Origin, id_at}
use Rattle.pgn_extract.proofs.NoteLines.{names_more, names_stop, no_note, notes_join, stop_note}
use Rattle.pgn_extract.proofs.engine.RestOfBlock.{rest_taken}
use Rattle.pgn_extract.proofs.engine.report.Report.add_unreadable.Goals as goal

pub returns : goal.returns
returns c =
    let line = fault_text c.args.context.settings.now.name (id_at c.args.context.id c.args.at)
    (codes "unreadable") in
    let text = faulty_text c.args.context.settings.now.mode c.args.context.settings.now.select
    (drop c.args.at c.args.context.bytes.now) in
    let written = c.in_ok-push_faulty.ensures
    ∙ ap (λ bytes. c.args.self.now.output.items
    ++ faulty_text c.args.context.settings.now.mode c.args.context.settings.now.select bytes)
    (rest_taken c.args.at c.args.context.bytes.now) in
    let origin : Origin = record { offset = c.args.context.id.offset; line = c.args.self.now.line }
    in
    let note = c.in_ok-push_stop_note.ensures in
    let explain = c.args.context.settings.now.explain in
    let offset = c.args.context.id.offset in
    let block = c.args.context.bytes.now in
    on_ok_weaker c.push_players.result
    (λ more. (
      FaultyGame text line (note.0 ++ more.0),
      (
        note.0 ++ more.0,
        subst (λ b. IsNote b (note.0 ++ more.0)) (sym c.if-not-settings.false)
            (notes_join note.0 more.0 (stop_note true refl origin block c.args.at note.0 note.1)
            more.1),
        names_more explain offset block c.args.at note.0 more.0
            (names_stop explain origin block c.args.at note.0 c.requires.place note.1),
        refl,
      ),
      record {
        output = written;
        faults =
            more.2 ∙ ap (λ t. t ++ more.0) (note.2
            ∙ ap (λ t. t ++ note.0) c.in_ok-push_fault_line.ensures)
            ∙ append_assoc (c.args.self.now.faults.items ++ line) note.0 more.0
            ∙ append_assoc c.args.self.now.faults.items line (note.0 ++ more.0);
        games = omega arith;
        faulty = refl;
      },
    ))
    c.push_players.ensures

pub returns-then-not-settings : goal.returns-then-not-settings
returns-then-not-settings c =
    let line = fault_text c.args.context.settings.now.name (id_at c.args.context.id c.args.at)
    (codes "unreadable") in
    let text = faulty_text c.args.context.settings.now.mode c.args.context.settings.now.select
    (drop c.args.at c.args.context.bytes.now) in
    let written = c.in_ok-push_faulty.ensures
    ∙ ap (λ bytes. c.args.self.now.output.items
    ++ faulty_text c.args.context.settings.now.mode c.args.context.settings.now.select bytes)
    (rest_taken c.args.at c.args.context.bytes.now) in
    let none =
    no_note c.args.context.settings.now.explain c.if-not-settings.true c.args.context.id.offset
    c.args.context.bytes.now c.args.at in (
      FaultyGame text line [],
      ([], none.0, none.1, refl),
      record {
        output = written;
        faults = c.in_ok-push_fault_line.ensures
            ∙ ap (λ t. c.args.self.now.faults.items ++ t) (sym (append-nil line));
        games = omega arith;
        faulty = refl;
      },
    )
