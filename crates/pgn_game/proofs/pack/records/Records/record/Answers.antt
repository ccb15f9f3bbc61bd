use Rattle.std.proofs.lemmas.List.{take_rest}
use Rattle.pgn_game.proofs.Common.{◌≡◌, take, ap, ◌∙◌, record_bytes, Window}
use Rattle.pgn_game.proofs.PackStreamFacts.{body_held}
use Rattle.pgn_game.proofs.pack.records.Records.record.Goals as goal

pub returns : goal.returns
returns c =
    let game = c.requires.0 in
    let held = take c.self.inside.size c.bytes.result.now in
    let is : held ≡ record_bytes game =
    rw c.bytes.ensures (ap (λ (w : Window). w.current) c.self.view_is ∙ c.requires.2) in
    let known = body_held game held c.requires.1 is in
    let read = rw c.unwrap.ensures at c.read_again.ensures in
    (game, c.requires.1, c.requires.2, cc (read, known, take_rest held 4))
