use Rattle.pgn_text.proofs.Common.{◌∙◌, sym, tags_of}
use Rattle.pgn_text.proofs.OwnTags.{begun, ended, moved}
use Rattle.pgn_text.proofs.ShownOnce.{same_tags}
use Rattle.pgn_text.proofs.game.Pairing.{tags_ascend}
use Rattle.pgn_text.proofs.game.own_tags.Goals as goal

pub loop-name-init : goal.loop-name-init
loop-name-init c = record {
  same = λ wanted. begun c.args.tags c.new-own.result wanted c.new-own.ensures.empty;
  ascends = tags_ascend c.new-own.result.entries c.new-own.ensures.ordered;
}

pub loop-name-preserved : goal.loop-name-preserved
loop-name-preserved c = record {
  same = λ wanted.
      moved c.loop-name.rest c.pop_first.new.self c.loop-name.own c.insert.new.self
      c.in-Some.name.now c.in-Some.contents wanted c.in-Some.ensures.updates
      c.in-Some.ensures.value c.in_ok-insert.ensures.updates ∙ c.loop-name.invariant.same wanted;
  ascends = tags_ascend c.insert.new.self.entries c.insert.ensures.ordered;
}

pub returns : goal.returns
returns c =
    same_tags (tags_of c.loop-name.own) (tags_of c.args.tags) c.loop-name.invariant.ascends
    c.requires
    (λ wanted. sym (ended c.loop-name.rest c.loop-name.own wanted
    (λ some. let never = c.in_default.ensures.variant.1 some in cc))
    ∙ c.loop-name.invariant.same wanted)
