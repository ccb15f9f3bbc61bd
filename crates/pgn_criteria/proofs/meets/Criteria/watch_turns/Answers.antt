use Rattle.std.proofs.Common.{◌≡◌, ◌∙◌, ◌/◌, ℕ, List, length, sym, ap}
use Rattle.pgn_criteria.proofs.Common.{heading_of, heading_of_raw}
use Rattle.pgn_criteria.proofs.RecordHeadings.{raw_heading, said_so, text_heading}
use Rattle.pgn_criteria.proofs.meets.Criteria.watch_turns.Goals as goal

pub returns : goal.returns
returns c =
    said_so c.watch_turns_of.result
    (λ search met game replay packed is fits shows any size ply.
    let heading : heading_of_raw c.args.record.now ≡ heading_of game =
    ap heading_of_raw (sym shows) ∙ raw_heading packed fits
    ∙ text_heading packed.name packed.number packed.offset game replay packed is in
    rw (← heading) (met any (size ∙ ap (λ (bytes : List ℕ). length bytes / 3)
    (sym c.plies.ensures)) ply))
    c.watch_turns_of.ensures
