use Rattle.pgn_game.proofs.Common.{refl, inl, IfSome_then, err_from_is_err_and}
use Rattle.pgn_game.proofs.replays.played_line.MainLine.push_next.Goals as goal

pub returns-in_err-play_named_san-clause-fault : goal.returns-in_err-play_named_san-clause-fault
returns-in_err-play_named_san-clause-fault c =
    let walk = c.self.inside.walk in
    let handed = c.from_residual-in_err-play_named_san in
    let p = err_from_is_err_and handed.result handed.ensures.1 in
    let refusal = rw c.copy-next.ensures at (c.in_err-play_named_san.ensures walk.plies refl) in
    rw (p.1, p.2) (rw (← c.self.view_is) (rw c.in-Some.ensures.1 (IfSome_then _ refusal
    (λ fault refused. inl refused))))
