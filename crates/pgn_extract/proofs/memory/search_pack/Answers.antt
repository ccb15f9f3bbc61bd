use Rattle.pgn_extract.proofs.Common.{◌++◌, ◌∙◌, ap, subst, sym, listing, IsIndexOfSoundGames}
use Rattle.pgn_extract.proofs.memory.search_pack.Goals as goal

pub returns-in-Ok-clause-listed : goal.returns-in-Ok-clause-listed
returns-in-Ok-clause-listed c = λ list name number pieces pack entries are.
    let lists = rw (c.new-input.ensures, c.new-out.ensures) at c.in-Ok.ensures.stands.lists in
    rw c.into_inner.ensures (lists list name number pieces pack entries are
    ∙ ap (λ t. t ++ listing name entries) c.new.ensures.items)

pub returns-in-Ok-clause-indexed : goal.returns-in-Ok-clause-indexed
returns-in-Ok-clause-indexed c = λ index name number pieces pack.
    let indexes = rw (c.new-input.ensures, c.new-out.ensures) at c.in-Ok.ensures.stands.indexes in
    let found = indexes index name number pieces pack in
    rw c.into_inner.ensures
    (subst (IsIndexOfSoundGames name number pieces)
    (sym (found.2 ∙ ap (λ t. t ++ found.0) c.new.ensures.items)) found.1)
