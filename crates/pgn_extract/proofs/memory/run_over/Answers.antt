use Rattle.pgn_extract.proofs.Common.{◌≡◌, [], ◌++◌, drop, refl, ap, sym, subst, ◌∙◌, block_limit}
use Rattle.pgn_extract.proofs.Common.{depth_limit, AreMarkedPieces, aim_of, AreExports, index}
use Rattle.pgn_extract.proofs.Common.{listing}
use Rattle.pgn_extract.proofs.memory.run_over.Goals as goal

pub returns-in-Ok-clause-indexes : goal.returns-in-Ok-clause-indexes
returns-in-Ok-clause-indexes c mode =
    let settings = c.args.settings.now in
    let done = c.in-Ok.ensures.done.0 in
    let text : c.new-input.result.inner.now ≡ c.args.text.now = rw c.new-input.ensures refl in
    let empty : c.new-out.result.inner.items ≡ [] = rw c.new-out.ensures c.new.ensures.items in
    let written : c.into_inner.result.items ≡ c.run.new.out.inner.items =
    rw c.into_inner.ensures refl in
    let indexed = c.complete_runs.ensures.indexes _ _ _ _ done mode in (
      done.pieces,
      subst
          (λ t. AreMarkedPieces block_limit depth_limit settings.offset (drop settings.offset t)
          done.pieces) text done.each,
      written ∙ indexed
          ∙ ap (λ t. t ++ index settings.chosen settings.name settings.number done.pieces) empty,
    )

pub returns-in-Ok-clause-lists : goal.returns-in-Ok-clause-lists
returns-in-Ok-clause-lists c mode =
    let settings = c.args.settings.now in
    let lists = c.in-Ok.ensures.lists mode in
    let text : c.new-input.result.inner.now ≡ c.args.text.now = rw c.new-input.ensures refl in
    let empty : c.new-out.result.inner.items ≡ [] = rw c.new-out.ensures c.new.ensures.items in
    let written : c.into_inner.result.items ≡ c.run.new.out.inner.items =
    rw c.into_inner.ensures refl in (
      lists.pieces,
      lists.entries,
      subst
          (λ t. AreMarkedPieces block_limit depth_limit settings.offset (drop settings.offset t)
          lists.pieces) text lists.each,
      lists.are,
      written ∙ lists.listed ∙ ap (λ t. t ++ listing settings.name lists.entries) empty,
    )

pub returns-in-Ok-clause-exports : goal.returns-in-Ok-clause-exports
returns-in-Ok-clause-exports c mode =
    let settings = c.args.settings.now in
    let done = c.in-Ok.ensures.done.0 in
    let text : c.new-input.result.inner.now ≡ c.args.text.now = rw c.new-input.ensures refl in
    let empty : c.new-out.result.inner.items ≡ [] = rw c.new-out.ensures c.new.ensures.items in
    let written : c.into_inner.result.items ≡ c.run.new.out.inner.items =
    rw c.into_inner.ensures refl in
    let (exports, are, exported) = c.complete_runs.ensures.exports _ _ _ _ done mode in (
      done.pieces,
      subst
          (λ t. AreMarkedPieces block_limit depth_limit settings.offset (drop settings.offset t)
          done.pieces) text done.each,
      subst (AreExports (aim_of settings) settings.number done.pieces)
          (sym (written ∙ exported ∙ ap (λ t. t ++ exports) empty)) are,
    )
