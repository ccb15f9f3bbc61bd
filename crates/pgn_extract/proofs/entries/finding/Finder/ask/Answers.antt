use Rattle.pgn_extract.proofs.Common.{◌∷◌, [], length, refl, subst, arith, aim_with}
use Rattle.pgn_extract.proofs.Chosen.{entry_at}
use Rattle.pgn_extract.proofs.Finds.{leaves_shut, leaves_past, leaves_unwanted, keeps_one}
use Rattle.pgn_extract.proofs.Finds.{is_wanted, not_wanted}
use Rattle.pgn_extract.proofs.entries.finding.Finder.ask.Goals.{then-not-is_open-via-then-not-is_open}
use Rattle.pgn_extract.proofs.entries.finding.Finder.ask.Goals.{then-not-is_open-via-else-not-is_open+then-ply-self}
use Rattle.pgn_extract.proofs.entries.finding.Finder.ask.Goals.{then-ply-self-2-via-then-ply-self-2}
use Rattle.pgn_extract.proofs.entries.finding.Finder.ask.Goals.{then-ply-self-2-via-else-ply-self-2+then-not-is_met}
use Rattle.pgn_extract.proofs.entries.finding.Finder.ask.Goals as goal

pub returns-then-not-is_open-clause-asked : goal.returns-then-not-is_open-clause-asked
returns-then-not-is_open-clause-asked g c name openings id game before P at of start so_far =
    elim c.then-not-is_open.branch [
      | then-not-is_open-via-then-not-is_open w ↦ leaves_shut P so_far w.if-not-is_open.true
      | then-not-is_open-via-else-not-is_open+then-ply-self w ↦
          let count = c.ply-ply.ensures _ game before P at in
          leaves_past P so_far (omega (arith, count, w.if-ply-self.true))
    ]

pub returns-then-not-is_open-clause-kept : goal.returns-then-not-is_open-clause-kept
returns-then-not-is_open-clause-kept g c = g.met.S.Sink.stays c.args.sink.now

pub returns-then-ply-self-2-clause-asked : goal.returns-then-ply-self-2-clause-asked
returns-then-ply-self-2-clause-asked g c name openings id game before P at of start so_far =
    let count = c.ply-ply.ensures _ game before P at in
    leaves_unwanted P so_far c.if-not-is_open.false (elim c.then-ply-self-2.branch [
      | then-ply-self-2-via-then-ply-self-2 w ↦ λ replay own rest is wanted.
          let low = wanted.0 in omega (arith, count, w.if-ply-self-2.true, low)
      | then-ply-self-2-via-else-ply-self-2+then-not-is_met w ↦
          not_wanted (aim_with c.args.self.now name openings) game before
          P w.is_met.result (w.is_met.ensures _ game before P at) w.if-not-is_met.true
    ])

pub returns-then-ply-self-2-clause-kept : goal.returns-then-ply-self-2-clause-kept
returns-then-ply-self-2-clause-kept g c = g.met.S.Sink.stays c.args.sink.now

pub returns-clause-asked : goal.returns-clause-asked
returns-clause-asked g c name openings id game before P at of start so_far =
    let aim = aim_with c.args.self.now name openings in
    let mark = c.args.self.now.mark.items in
    let count = c.ply-ply.ensures aim game before P at in
    let put = c.in_ok-put.ensures.put in
    let handed =
    put.1 aim game before P at id (record { line = refl; of_line = refl; of_game = of }) in
    keeps_one P so_far put.0 c.if-not-is_open.false
    (is_wanted aim game before P c.is_met.result (c.is_met.ensures aim game before P at)
    c.if-not-is_met.false
    (omega (arith, count, c.if-ply-self-2.false)) (omega (arith, count, c.if-ply-self.false)))
    handed.0
    (g.met.S.Sink.more mark start c.args.sink.now c.put.new.self so_far.found
    (entry_at id (length before) put.0 ∷ [])
    so_far.got
    (subst (λ m.
    g.S.Sink.Gets m c.args.sink.now (entry_at id (length before) put.0 ∷ []) c.put.new.self)
    c.deref.ensures.value handed.1))
