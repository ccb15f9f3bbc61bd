use Rattle.pgn_text.proofs.Common.{◌++◌, ◌∷◌, [], refl, sym, ◌∙◌, token_of}
use Rattle.pgn_text.proofs.Located.{passed_start, passed_more, tag_here, tag_more, no_tag}
use Rattle.pgn_text.proofs.error.locate.tag_place.Goals as goal

pub loop-token-init : goal.loop-token-init
loop-token-init c =
    ([], passed_start c.args.file_start c.args.block.now c.args.begin c.requires, refl)

pub loop-token-preserved : goal.loop-token-preserved
loop-token-preserved c =
    let (done, to, none) = c.loop-token.invariant in (
      done ++ c.in-Some.ensures.part ∷ [],
      passed_more c.args.file_start c.args.block.now c.args.begin c.loop-token.at c.in-Some.end done
          (token_of c.in-Some.token) to c.in-Some.ensures,
      tag_more c.args.name.now done c.in-Some.ensures.part (token_of c.in-Some.token)
          c.in-Some.ensures.keeps none (sym c.is_tag_of.ensures ∙ c.if-is_tag_of.false),
    )

pub returns-then-is_tag_of-clause-place : goal.returns-then-is_tag_of-clause-place
returns-then-is_tag_of-clause-place c =
    let (done, to, none) = c.loop-token.invariant in
    tag_here c.args.file_start c.args.block.now c.args.begin c.loop-token.at c.in-Some.end
    c.args.name.now (token_of c.in-Some.token) done to none
    c.in-Some.ensures (sym c.is_tag_of.ensures ∙ c.if-is_tag_of.true)

pub returns-clause-place : goal.returns-clause-place
returns-clause-place c =
    let (done, to, none) = c.loop-token.invariant in
    no_tag c.args.file_start c.args.block.now c.args.begin c.loop-token.at c.args.name.now done to
    none c.in_default.ensures

pub returns-then-is_tag_of-clause-within : goal.returns-then-is_tag_of-clause-within
returns-then-is_tag_of-clause-within c = let (done, to, known) = c.loop-token.invariant in to.within

pub returns-clause-within : goal.returns-clause-within
returns-clause-within c = let (done, to, known) = c.loop-token.invariant in to.within
