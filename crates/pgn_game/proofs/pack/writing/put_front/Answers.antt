use Rattle.pgn_game.proofs.Common.{◌++◌, ◌∙◌, ℕ, List, ap, w32, w64, to_be_bytes, name_of}
use Rattle.pgn_game.proofs.Common.{body_size}
use Rattle.pgn_game.proofs.RecordWriting.{front_put}
use Rattle.pgn_game.proofs.pack.writing.put_front.Goals as goal

pub returns-clause-front : goal.returns-clause-front
returns-clause-front c =
    let size =
    body_size (name_of c.args.origin.now) c.args.game.now.tags c.args.plies in
    front_put c.args.out.now.items c.put_size.new.out.items c.extend_from_slice.new.self.items
    c.extend_from_slice-2.new.self.items (to_be_bytes w32 size)
    (to_be_bytes w64 c.args.origin.now.number) (to_be_bytes w64 c.args.origin.now.offset)
    c.in_ok-put_size.ensures.size
    (c.in_ok-extend_from_slice.ensures.items
    ∙ ap (λ (bytes : List ℕ). c.put_size.new.out.items ++ bytes) c.to_be_bytes.ensures)
    (c.in_ok-extend_from_slice-2.ensures.items
    ∙ ap (λ (bytes : List ℕ). c.extend_from_slice.new.self.items
    ++ bytes) c.to_be_bytes-2.ensures)
