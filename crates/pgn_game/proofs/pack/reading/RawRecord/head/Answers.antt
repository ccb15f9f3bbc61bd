-- Each tag is put in unless its name is there, and none is with which no text has a game.
use Rattle.std.specs.Prelude.{IsTrue}
use Rattle.pgn_game.proofs.Common.{◌≡◌, ◌∙◌, ap, sym, subst, arith, is_some, true, false, tag_in}
use Rattle.pgn_game.proofs.Tags.{tag_there}
use Rattle.pgn_game.proofs.TagFilling.{in_no_text, never_cut_off, one_more, there_already}
use Rattle.pgn_game.proofs.pack.reading.RawRecord.head.Goals.{else-not-contains_key}
use Rattle.pgn_game.proofs.pack.reading.RawRecord.head.Goals.{then-not-are_name_bytes-via-then-not-are_name_bytes}
use Rattle.pgn_game.proofs.pack.reading.RawRecord.head.Goals.{then-not-are_name_bytes-via-else-not-are_name_bytes+then-not-is_contents}
use Rattle.pgn_game.proofs.pack.reading.RawRecord.head.Goals.{then-not-contains_key+else-not-are_name_bytes+else-not-is_contents+in_ok-head}
use Rattle.pgn_game.proofs.pack.reading.RawRecord.head.Goals as goal

pub returns-in_default : goal.returns-in_default
returns-in_default c =
    never_cut_off c.args.self.now c.loop.counter c.loop.rest.now c.loop.head c.in_default.field-0
    (omega arith) c.loop.invariant c.in_default.ensures

pub returns-then-not-are_name_bytes : goal.returns-then-not-are_name_bytes
returns-then-not-are_name_bytes c =
    let there : is_some (tag_in c.in-Ok.name.now c.loop.head.tags) ≡ c.contains_key.result =
    ap (λ ts. is_some (tag_in c.in-Ok.name.now ts)) (sym c.tags.ensures.tags)
    ∙ tag_there c.tags.result.now c.in-Ok.name.now ∙ sym c.contains_key.ensures in
    in_no_text c.args.self.now c.loop.counter c.loop.rest.now c.in-Ok.name.now
    c.in-Ok.contents.now c.in-Ok.after.now c.loop.head (omega arith) c.loop.invariant
    c.in-Ok.ensures (there ∙ c.if-not-contains_key.true) (λ names good.
    elim c.then-not-are_name_bytes.branch [
      | then-not-are_name_bytes-via-then-not-are_name_bytes w ↦
          let both : false ≡ true = subst IsTrue (sym c.are_name_bytes.ensures
          ∙ w.if-not-are_name_bytes.true) names in cc
      | then-not-are_name_bytes-via-else-not-are_name_bytes+then-not-is_contents w ↦
          let both : false ≡ true = subst IsTrue w.if-not-is_contents.true
          (w.is_contents.ensures.1 good) in cc
    ])

pub loop-preserved : goal.loop-preserved
loop-preserved c =
    let there : is_some (tag_in c.in-Ok.name.now c.loop.head.tags) ≡ c.contains_key.result =
    ap (λ ts. is_some (tag_in c.in-Ok.name.now ts)) (sym c.tags.ensures.tags)
    ∙ tag_there c.tags.result.now c.in-Ok.name.now ∙ sym c.contains_key.ensures in
    elim c.if-not-contains_key.branch [
      | then-not-contains_key+else-not-are_name_bytes+else-not-is_contents+in_ok-head w ↦
          rw w.head-is (one_more c.args.self.now c.loop.counter c.loop.rest.now c.in-Ok.name.now
          c.in-Ok.contents.now c.in-Ok.after.now c.loop.head _ (omega arith) c.loop.invariant
          c.in-Ok.ensures (there ∙ w.if-not-contains_key.true) w.in_ok-head.ensures)
      | else-not-contains_key w ↦
          rw w.head-is (there_already c.args.self.now c.loop.counter c.loop.rest.now
          c.in-Ok.name.now c.in-Ok.contents.now c.in-Ok.after.now c.loop.head (omega arith)
          c.loop.invariant c.in-Ok.ensures (there ∙ w.if-not-contains_key.false))
    ]
