-- A new line is put into the map, or its position has one already.
use Rattle.pgn_game.proofs.Common.{ap, sym, subst, ◌≡◌, ◌∙◌, ◌++◌, ◌∷◌, []}
use Rattle.std.proofs.Common.{map}
use Rattle.pgn_game.specs.Public.Openings.{ends_of, named_of}
use Rattle.pgn_game.specs.Private.Filing.{AreFiled, AreSieved}
use Rattle.pgn_game.proofs.openings.FilingFacts.{line_again, line_new, line_sieved, named_push}
use Rattle.pgn_game.proofs.openings.FilingFacts.{put_there}
use Rattle.pgn_game.proofs.openings.Naming.{contents_more}
use Rattle.pgn_game.proofs.openings.Openings.with.Goals as goal
use Rattle.pgn_game.proofs.openings.Openings.with.Goals.{then-not-contains_key+in_ok-insert}
use Rattle.pgn_game.proofs.openings.Openings.with.Goals.{else-not-contains_key}

pub invariant_of-self : goal.invariant_of-self
invariant_of-self c =
    let old = c.self.inside in
    let line = c.args.line in
    let items = c.push.new.self.items in
    let laws = c.keys_tell_positions.ensures in
    elim c.if-not-contains_key.branch [
      | then-not-contains_key+in_ok-insert w ↦
          let pushed = c.in_ok-push.ensures.items
          ∙ ap (λ i. i.lines.items ++ line ∷ []) w.self-inside-is in record {
            filed = subst (AreFiled (ends_of (map named_of items)))
                (sym (ap (λ i. i.places) w.self-inside-is))
                (line_new laws.keys old.lines.items items old.places
                w.insert.new.self line c.key-key.result w.len.result
                c.invariant.ensures c.key-key.ensures (sym w.if-not-contains_key.ensures)
                (w.len.ensures ∙ old.lines.ok.0) w.in_ok-insert.ensures.updates pushed
                c.self.invariant.filed);
            sieved = subst (λ own. AreSieved (ends_of (map named_of items)) own.pawns own.keys)
                (sym w.self-inside-is)
                (line_sieved laws.pawns laws.keys old.lines.items items old.pawns old.keys
                c.put.new.self c.put-2.new.self line c.pawns.result c.key-key.result
                c.pawns.ensures c.invariant.ensures c.key-key.ensures
                (put_there c.pawns_place.ensures.place c.put.ensures.here c.put.ensures.kept)
                (put_there c.key_place.ensures.place c.put-2.ensures.here c.put-2.ensures.kept)
                pushed c.self.invariant.sieved);
            contents = contents_more old.lines.items items line pushed c.requires
                c.self.invariant.contents;
          }
      | else-not-contains_key w ↦
          let pushed = c.in_ok-push.ensures.items
          ∙ ap (λ i. i.lines.items ++ line ∷ []) w.self-inside-is in record {
            filed = subst (AreFiled (ends_of (map named_of items)))
                (sym (ap (λ i. i.places) w.self-inside-is))
                (line_again laws.keys old.lines.items items old.places line c.key-key.result
                c.invariant.ensures c.key-key.ensures (sym w.if-not-contains_key.ensures) pushed
                c.self.invariant.filed);
            sieved = subst (λ own. AreSieved (ends_of (map named_of items)) own.pawns own.keys)
                (sym w.self-inside-is)
                (line_sieved laws.pawns laws.keys old.lines.items items old.pawns old.keys
                c.put.new.self c.put-2.new.self line c.pawns.result c.key-key.result
                c.pawns.ensures c.invariant.ensures c.key-key.ensures
                (put_there c.pawns_place.ensures.place c.put.ensures.here c.put.ensures.kept)
                (put_there c.key_place.ensures.place c.put-2.ensures.here c.put-2.ensures.kept)
                pushed c.self.invariant.sieved);
            contents = contents_more old.lines.items items line pushed c.requires
                c.self.invariant.contents;
          }
    ]

pub returns : goal.returns
returns c =
    let line = c.args.line in
    let same : c.if-not-contains_key.self-inside.lines ≡ c.self.inside.lines =
    elim c.if-not-contains_key.branch [
      | then-not-contains_key+in_ok-insert w ↦ ap (λ i. i.lines) w.self-inside-is
      | else-not-contains_key w ↦ ap (λ i. i.lines) w.self-inside-is
    ] in
    ap (map named_of) (c.in_ok-push.ensures.items ∙ ap (λ v. v.items ++ line ∷ []) same)
    ∙ named_push c.self.inside.lines.items line
    ∙ ap (λ ls. ls ++ named_of line ∷ []) c.self.view_is
