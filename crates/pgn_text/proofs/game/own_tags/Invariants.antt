use Rattle.pgn_text.proofs.Common.{◌≡◌, ℕ, List, length, slice_cmp, nat_cmp, tags_of, tag_in}
use Rattle.pgn_text.proofs.Common.{tag_names, IsStrictlySortedBy}
use Rattle.pgn_text.proofs.OwnTags.{in_both}
use Rattle.pgn_text.proofs.game.own_tags.Given as goal

abbrev pub invariant-loop-name : goal.invariant-loop-name
invariant-loop-name l = record {
  same : (wanted : List ℕ) → in_both l.rest l.own wanted ≡ tag_in wanted (tags_of l.fn.tags);
  ascends : IsStrictlySortedBy (slice_cmp nat_cmp) (tag_names (tags_of l.own));
}

abbrev pub decreases-loop-name : goal.decreases-loop-name
decreases-loop-name l = length l.rest.entries
