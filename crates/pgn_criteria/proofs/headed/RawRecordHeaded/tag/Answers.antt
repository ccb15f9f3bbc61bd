use Rattle.std.proofs.lemmas.Option.{none-some}
use Rattle.pgn_criteria.proofs.Common.{◌≡◌, Some, None, sym, subst, ◌∙◌, same_Some, IsContents}
use Rattle.pgn_criteria.proofs.RecordHeadings.{named_there}
use Rattle.pgn_criteria.proofs.headed.RawRecordHeaded.tag.Goals as goal

pub returns-then-is_contents : goal.returns-then-is_contents
returns-then-is_contents c = (
  named_there c.args.self.now c.requires c.args.name.now (Some c.in-Some.contents)
      c.in-Some.ensures,
  c.is_contents.ensures.0 c.if-is_contents.true,
)

pub returns-else-is_contents : goal.returns-else-is_contents
returns-else-is_contents c contents is own =
    let there = named_there c.args.self.now c.requires c.args.name.now (Some c.in-Some.contents)
    c.in-Some.ensures in
    let same : contents ≡ c.in-Some.contents.now =
    same_Some contents c.in-Some.contents.now (sym is ∙ there) in
    let yes = c.is_contents.ensures.1 (subst IsContents same own) in
    absurd (cc (yes, c.if-is_contents.false))

pub returns-in-None : goal.returns-in-None
returns-in-None c contents is own =
    none-some contents
    (sym (named_there c.args.self.now c.requires c.args.name.now None c.in-None.ensures) ∙ is)
