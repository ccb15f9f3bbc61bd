use Rattle.std.proofs.lemmas.Map.Iter.{iter_turn}
use Rattle.pgn_game.proofs.Common.{ℕ, List, Bor, arith, deref_pair}
use Rattle.pgn_game.proofs.RecordWriting.{shown_below}
use Rattle.pgn_game.proofs.pack.writing.put_tags.Goals as goal

pub put_text-requires : goal.put_text-requires
put_text-requires c =
    let tag : Bor (Bor (List ℕ)) × Bor (Bor (List ℕ)) = (c.in-Some.name, c.in-Some.contents) in
    let at =
    iter_turn deref_pair _ _ _ _ _ _ c.into_iter-name-iterator.ensures.into_iter_gives.0
    c.loop-name.yielded_by tag c.in-Some.is c.next.ensures.steps in
    let below =
    shown_below c.args.game.now.tags _ _ (deref_pair tag) c.tags-name-items.ensures.tags at.1 in
    omega (arith, below.0)

pub put_text-requires-in-loop-name : goal.put_text-requires-in-loop-name
put_text-requires-in-loop-name c =
    let tag : Bor (Bor (List ℕ)) × Bor (Bor (List ℕ)) = (c.in-Some.name, c.in-Some.contents) in
    let at =
    iter_turn deref_pair _ _ _ _ _ _ c.into_iter-name-iterator.ensures.into_iter_gives.0
    c.loop-name.yielded_by tag c.in-Some.is c.next.ensures.steps in
    let below =
    shown_below c.args.game.now.tags _ _ (deref_pair tag) c.tags-name-items.ensures.tags at.1 in
    omega (arith, below.1)
