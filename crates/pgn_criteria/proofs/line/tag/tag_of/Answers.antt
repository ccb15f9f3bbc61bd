use Rattle.std.proofs.Common.{sym, ◌∙◌, codes}
use Rattle.pgn_criteria.specs.Public.Lines.{relation_text}
use Rattle.pgn_criteria.proofs.TagFacts.{tag_read, tag_spelled, named_once, quoted, read_fits}
use Rattle.pgn_criteria.proofs.line.tag.tag_of.Goals as goal

pub returns-in_err-names : goal.returns-in_err-names
returns-in_err-names c =
    rw c.from_residual.ensures λ names contents relation spells.
    c.in_err-names.ensures names (relation_text relation) (quoted contents)
    (tag_read c.args.text.now names relation contents spells)

pub returns-in_err-relation : goal.returns-in_err-relation
returns-in_err-relation c =
    rw c.from_residual-in_err-relation.ensures λ names contents relation spells.
    let read = tag_read c.args.text.now names relation contents spells in
    let same = named_once (codes "tag") c.args.text.now _ _ _ _ _ _ c.in_ok-names.ensures read in
    c.in_err-relation.ensures relation same.1

pub returns-in_err-contents : goal.returns-in_err-contents
returns-in_err-contents c =
    rw c.from_residual-in_err-contents.ensures λ names contents relation spells.
    let read = tag_read c.args.text.now names relation contents spells in
    let same = named_once (codes "tag") c.args.text.now _ _ _ _ _ _ c.in_ok-names.ensures read in
    c.in_err-contents.ensures contents same.2 spells.1

pub returns-then-not-can_be_compared : goal.returns-then-not-can_be_compared
returns-then-not-can_be_compared c names contents relation spells =
    let read = tag_read c.args.text.now names relation contents spells in
    let same = named_once (codes "tag") c.args.text.now _ _ _ _ _ _ c.in_ok-names.ensures read in
    let t = c.can_be_compared.ensures.1
    (read_fits relation c.in_ok-relation.relation contents c.in_ok-contents.contents.now
    (sym same.1 ∙ c.in_ok-relation.ensures) (sym same.2 ∙ c.in_ok-contents.ensures.0) spells.2) in
    absurd (cc (t, c.if-not-can_be_compared.true))

pub returns : goal.returns
returns c =
    tag_spelled c.args.text.now _ _ _ c.in_ok-relation.relation c.in_ok-contents.contents.now
    c.in_ok-names.ensures c.in_ok-relation.ensures c.in_ok-contents.ensures.0
    c.in_ok-contents.ensures.1 (c.can_be_compared.ensures.0 c.if-not-can_be_compared.false)
