use Rattle.pgn_criteria.proofs.Common.{◌≡◌, ◌∙◌, Option, Some, None, sym, ap, subst, IfSome}
use Rattle.pgn_criteria.proofs.Common.{Heading, heading_of, heading_of_raw}
use Rattle.pgn_criteria.specs.Public.ByMarks.{AreMetByMarks}
use Rattle.pgn_criteria.proofs.RecordHeadings.{raw_heading, text_heading}
use Rattle.pgn_criteria.proofs.meets.Criteria.marks_packed.Goals as goal

-- what is found is so in other words
said_so : {X : Type 0} {P Q : X → Type 0} (r : Option X) → ((x : X) → P x → Q x) → IfSome r P
    → IfSome r Q
said_so (Some x) so all = so x all
said_so None so all = tt

pub returns : goal.returns
returns c =
    said_so c.marks_of_heading.result
    (λ marks met game replay packed is fits shows.
    let heading : heading_of_raw c.args.record.now ≡ heading_of game =
    ap heading_of_raw (sym shows) ∙ raw_heading packed fits
    ∙ text_heading packed.name packed.number packed.offset game replay packed is in
    subst (λ (h : Heading). AreMetByMarks marks.flags h c.args.self.now) heading met)
    c.marks_of_heading.ensures
