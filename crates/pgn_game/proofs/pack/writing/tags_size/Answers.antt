use Rattle.pgn_game.proofs.Common.{◌≡◌, ◌∙◌, ap, sym, arith, rules, map, deref_pair, iter_end}
use Rattle.pgn_game.proofs.Common.{tag_of}
use Rattle.pgn_game.proofs.RecordWriting.{shown_tags, tags_more, size_more}
use Rattle.pgn_game.proofs.pack.writing.tags_size.Goals as goal

pub loop-name-preserved : goal.loop-name-preserved
loop-name-preserved c =
    rw (tags_more c.loop-name.yielded (c.in-Some.name, c.in-Some.contents))
    (omega (
      arith,
      size_more (shown_tags c.loop-name.yielded) (
        c.in-Some.name.now.now,
        c.in-Some.contents.now.now,
      ),
    ))

pub returns : goal.returns
returns c =
    let all : map deref_pair c.loop-name.yielded ≡ c.tags-name-items.result.now.entries =
    search (rules, iter_end) in
    let tags : shown_tags c.loop-name.yielded ≡ c.args.game.now.tags =
    ap (map tag_of) all ∙ c.tags-name-items.ensures.tags in
    rw (sym tags) c.loop-name.invariant
