use Rattle.pgn_criteria.proofs.Common.{rules, ◌≡◌, ◌<◌, ◌∷◌, length, parted_at}
use Rattle.pgn_criteria.proofs.mirror.MirrorTextFacts.{ranks_added}
use Rattle.pgn_criteria.proofs.ParseFacts.{part_shorter}
use Rattle.pgn_criteria.proofs.mirror.+add_ranks.Goals as goal

pub add_ranks-requires : goal.add_ranks-requires
add_ranks-requires t c =
    let text = c.args.ranks.now in
    let first = c.next_part.result.0.now in
    let parts : parted_at 47 text ≡ first ∷ parted_at 47 c.in-Some.after.now =
    rw c.in-Some.is at c.next_part.ensures in
    let less : length c.in-Some.after.now < length text =
    part_shorter 47 text first c.in-Some.after.now parts in
    search rules

pub returns : goal.returns
returns t c =
    let text = c.args.ranks.now in
    let first = c.next_part.result.0.now in
    let parts : parted_at 47 text ≡ first ∷ parted_at 47 c.in-Some.after.now =
    rw c.in-Some.is at c.next_part.ensures in
    rw (ranks_added c.args.text.now.items c.add_ranks.new.text.items c.push.new.self.items text
    first c.in-Some.after.now parts c.in_ok-add_ranks.ensures c.in_ok-push.ensures.items) at
    c.add_rank-2.ensures
