-- The names still ascend, and of the other names each has what it had.
use Rattle.std.specs.Prelude.{option_map}
use Rattle.pgn_text.proofs.Common.{refl, subst, Some, None}
use Rattle.pgn_text.specs.Public.GameTexts.{IsRetagged}
use Rattle.pgn_text.proofs.game.Pairing.{tags_ascend}
use Rattle.pgn_text.proofs.Retagging.{good_retagged}
use Rattle.pgn_text.proofs.TagLemmas.{retagged}
use Rattle.pgn_text.proofs.game.RawGame.retagged.Goals as goal
use Rattle.pgn_text.proofs.game.RawGame.retagged.Goals.{in-Some+in_ok-insert-in-Some, in-None}

pub invariant_of-self : goal.invariant_of-self
invariant_of-self c =
    good_retagged _ _ c.args.name.now (Some c.in-Some.contents.now) c.self.invariant
    c.requires.name (rw c.in-Some.is at c.requires.contents)
    (record {
      place = refl;
      text = refl;
      tags = λ wanted. retagged c.self.inside.tags c.insert.new.self c.args.name.now wanted
          (Some c.in-Some.contents) c.in_ok-insert-in-Some.ensures.updates;
      elements = refl;
      result = refl;
    })
    (tags_ascend c.insert.new.self.entries c.insert.ensures.ordered)

pub invariant_of-self-in-None : goal.invariant_of-self-in-None
invariant_of-self-in-None c =
    good_retagged _ _ c.args.name.now None c.self.invariant c.requires.name tt
    (record {
      place = refl;
      text = refl;
      tags = λ wanted. retagged c.self.inside.tags c.remove.new.self c.args.name.now wanted None
          c.remove.ensures.updates;
      elements = refl;
      result = refl;
    })
    (tags_ascend c.remove.new.self.entries c.remove.ensures.ordered)

pub returns : goal.returns
returns c = subst (λ game. IsRetagged c.args.name.now (option_map (λ text. text.now)
    c.args.contents) game c.match-contents.self) c.self.view_is
    (elim c.match-contents.branch [
      | in-Some+in_ok-insert-in-Some w ↦ rw (w.self-is, w.in-Some.is) record {
        place = refl;
        text = refl;
        tags = λ wanted. retagged c.self.inside.tags w.insert.new.self c.args.name.now wanted
            (Some w.in-Some.contents) w.in_ok-insert-in-Some.ensures.updates;
        elements = refl;
        result = refl;
      }
      | in-None w ↦ rw (w.self-is, w.in-None.is) record {
        place = refl;
        text = refl;
        tags = λ wanted. retagged c.self.inside.tags w.remove.new.self c.args.name.now wanted None
            w.remove.ensures.updates;
        elements = refl;
        result = refl;
      }
    ])
