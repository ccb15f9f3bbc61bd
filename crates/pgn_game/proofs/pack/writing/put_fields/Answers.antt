use Rattle.pgn_game.proofs.Common.{◌++◌, ap, ◌∙◌, arith, flat_map, tag_bytes}
use Rattle.pgn_game.proofs.RecordWriting.{count_below}
use Rattle.pgn_game.proofs.pack.writing.put_fields.Goals as goal

pub put_head-requires : goal.put_head-requires
put_head-requires c =
    omega (arith, count_below c.args.game.now.tags, c.in_ok-put_front.ensures.within)

pub returns-clause-fields : goal.returns-clause-fields
returns-clause-fields c =
    let front = c.in_ok-put_front.ensures in
    let good = c.invariant.ensures in
    record {
      number = front.placed.0;
      offset = front.placed.1;
      ordered = good.ordered;
      known = front.placed.2;
      ends = good.ends;
      within = front.within;
      fronted = c.put_front.new.out.items;
      headed = c.put_head.new.out.items;
      front = front.front;
      head = c.in_ok-put_head.ensures.head;
      put = c.in_ok-put_tags.ensures.tags
          ∙ ap (λ bytes. bytes ++ flat_map tag_bytes c.args.game.now.tags)
          c.in_ok-put_name.ensures.name;
    }
