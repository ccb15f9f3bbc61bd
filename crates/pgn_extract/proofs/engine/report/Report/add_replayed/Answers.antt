use Rattle.std.proofs.Math.Seq.{take-append_seam}
use Rattle.pgn_extract.proofs.Common.{◌≡◌, ◌++◌, take, length, refl, ap, subst, append-nil, ◌∙◌}
use Rattle.pgn_extract.proofs.Common.{arith, IfSome, on_ok_weaker, aim_of, StopsIn, faulty_text}
use Rattle.pgn_extract.proofs.Common.{cause_text, fault_text, FaultyGame, SoundGame, replayed_lines}
use Rattle.pgn_extract.proofs.engine.GameVerdict.{sound_added}
use Rattle.pgn_extract.proofs.engine.report.Report.add_replayed.Goals as goal

pub returns-in-Ok : goal.returns-in-Ok
returns-in-Ok c =
    let adds = c.in-Ok.ensures in (
      SoundGame adds.2,
      (adds.0, adds.1, adds.3),
      sound_added adds.4 refl refl refl,
    )

pub returns-in_ok-push_faulty-in-Err : goal.returns-in_ok-push_faulty-in-Err
returns-in_ok-push_faulty-in-Err c =
    let settings = c.args.context.settings.now in
    let lines = replayed_lines settings.mode (aim_of settings) in
    let game = c.args.game.now in
    let old = c.args.self.now.output.items in
    let new = c.push_sound.new.text.items in
    let size : c.len-length.result ≡ length old = let ok = c.args.self.now.output.ok in let is =
    c.len-length.ensures in omega arith in
    let faulty = faulty_text settings.mode settings.select game.text in
    on_ok_weaker c.add_fault.result
    (λ of.
    let stops : StopsIn lines game old new of.0 =
    subst (λ o. IfSome o (StopsIn lines game old new)) of.2 c.in-Err.ensures in
    let cut : c.truncate.new.self.items ≡ old =
    c.truncate.ensures.items ∙ ap (λ n. take n new) size ∙ ap (take (length old)) stops.2
    ∙ take-append_seam old stops.1 in
    let put = c.in_ok-push_faulty-in-Err.ensures
    ∙ ap (λ bytes. c.truncate.new.self.items ++ faulty_text settings.mode settings.select bytes)
    c.text-text.ensures ∙ ap (λ front. front ++ faulty) cut in (
      FaultyGame faulty (fault_text settings.name c.args.context.own (cause_text of.0)) of.1,
      (of.0, stops.0, refl, of.3, refl),
      record {
        output = of.4.output ∙ append-nil _ ∙ put;
        faults = of.4.faults;
        games = of.4.games;
        faulty = of.4.faulty;
      },
    ))
    c.add_fault.ensures
