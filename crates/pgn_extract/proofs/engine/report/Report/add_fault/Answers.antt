use Rattle.std.proofs.lemmas.List.{append-nil}
use Rattle.pgn_extract.proofs.Common.{[], ◌++◌, refl, sym, ap, subst, ◌∙◌, append_assoc, arith}
use Rattle.pgn_extract.proofs.Common.{on_ok_weaker, fault_text, cause_text, IsNote}
use Rattle.pgn_extract.proofs.NoteLines.{empty_note, notes_join}
use Rattle.pgn_extract.proofs.engine.report.Report.add_fault.Goals as goal

pub returns-then-not-settings : goal.returns-then-not-settings
returns-then-not-settings c =
    let of = c.in_ok-push_game_fault.ensures in
    let line = fault_text c.args.context.settings.now.name c.args.context.own (cause_text of.0) in (
      of.0,
      [],
      of.1,
      empty_note c.args.context.settings.now.explain,
      record {
        output = sym (append-nil c.args.self.now.output.items);
        faults = of.2 ∙ ap (λ t. c.args.self.now.faults.items ++ t) (sym (append-nil line));
        games = omega arith;
        faulty = refl;
      },
    )

pub returns : goal.returns
returns c =
    let of = c.in_ok-push_game_fault.ensures in
    let line = fault_text c.args.context.settings.now.name c.args.context.own (cause_text of.0) in
    let note = c.in_ok-push_game_note.ensures in
    on_ok_weaker c.push_players.result
    (λ more. (
      of.0,
      note.0 ++ more.0,
      of.1,
      subst (λ b. IsNote b (note.0 ++ more.0)) (sym c.if-not-settings.false)
          (notes_join note.0 more.0 note.1 more.1),
      record {
        output = sym (append-nil c.args.self.now.output.items);
        faults =
            more.2 ∙ ap (λ t. t ++ more.0) (note.2 ∙ ap (λ t. t ++ note.0) of.2)
            ∙ append_assoc (c.args.self.now.faults.items ++ line) note.0 more.0
            ∙ append_assoc c.args.self.now.faults.items line (note.0 ++ more.0);
        games = omega arith;
        faulty = refl;
      },
    ))
    c.push_players.ensures
