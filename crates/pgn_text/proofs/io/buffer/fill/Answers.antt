use Rattle.std.proofs.Common.{◌≡◌, ℕ, ◌+◌, ◌≤◌, length, take, arith, sym, ap, refl, ◌∙◌}
use Rattle.std.proofs.Common.{length-take, length-drop}
use Rattle.std.specs.Prelude.{vec_len}
use Rattle.std.proofs.lemmas.List.{length-take-le}
use Rattle.pgn_text.proofs.Joined.{reads_counted}
use Rattle.pgn_text.proofs.io.Spliced.{spliced}
use Rattle.pgn_text.proofs.io.buffer.fill.Goals as goal

pub returns-in-Ok-clause-ok : goal.returns-in-Ok-clause-ok
returns-in-Ok-clause-ok g c =
    let room : c.args.len + c.args.count ≤ vec_len c.args.room.now = c.requires.within in
    let size : vec_len c.args.room.now ≡ length c.args.room.now.items = c.args.room.now.ok.0 in
    let long : length (take c.args.len c.args.room.now.items) ≡ c.args.len =
    length-take-le c.args.len c.args.room.now.items (omega arith) in
    let wide : length c.deref_mut.result.now ≡ vec_len c.args.room.now = c.deref_mut.ensures.len in
    let part : length c.read.new.buf ≡ c.args.count =
    c.read.auto.buf ∙ omega (arith, length-take {A = ℕ}, length-drop {A = ℕ}) in
    let below : c.in-Ok.more ≤ length c.read.new.buf = c.in-Ok.ensures.bound.0 in
    record {
      read = take c.in-Ok.more c.read.new.buf;
      reads = reads_counted _ _ _ _ _ _ c.in-Ok.ensures.bytes.0 c.in-Ok.ensures.moved
          c.in-Ok.ensures.bound.1;
      joined =
          spliced _ _ _ _ _ _ _ _ _ (ap (take c.args.len) c.deref_mut.ensures.value) long below
          (omega arith) refl;
      counted = sym c.in-Ok.ensures.bound.1;
      within = omega arith;
      end = λ none. c.in-Ok.ensures.bytes.1 none (let h = c.requires.some in omega arith);
    }
