-- The head has the tags of the line, and its record is written.
use Rattle.pgn_game.proofs.Common.{◌∙◌, ◌++◌, ap, subst, Some, record_bytes}
use Rattle.pgn_game.specs.Public.NamedRecords.{with_tags}
use Rattle.pgn_game.specs.Public.Openings.{tag_by}
use Rattle.pgn_game.specs.Private.RecordHeads.{HasHead, IsHeadOf}
use Rattle.pgn_game.proofs.openings.Openings.named_record.Goals as goal

pub returns : goal.returns
returns c = λ game fits shows.
    let has : HasHead game c.in-Some.head =
    subst (IsHeadOf game) c.in-Some.is (c.in_ok-head.ensures game fits shows) in
    let named = c.in_ok-head-2.ensures in
    let put = c.in_ok-put_headed.ensures game fits shows in
    record {
      line = named.0;
      there = named.1;
      contents = named.2;
      head = c.in_ok-head-2.head;
      good = c.invariant.ensures;
      tags = λ wanted. named.3.tags wanted ∙ ap (tag_by (Some named.0) wanted) (has.tags wanted);
      result = named.3.result ∙ has.result;
      fits = put.0;
      spells = put.1 ∙ ap (λ bytes. bytes ++ record_bytes (with_tags c.in_ok-head-2.head.tags game))
          c.new-bytes.ensures.items;
    }
