use Rattle.std.proofs.Common.{decimal}
use Rattle.chess.proofs.Common.{joined, side_text, rights_letters, or_dash, en_passant_text}
use Rattle.chess.proofs.Common.{rank_texts, CastlingRights}
use Rattle.chess.proofs.FenTextFacts.{spell_ranks, shortest_ranks, six_fields, written_of}
use Rattle.chess.proofs.position.Position.fen.Goals as goal

pub returns : goal.returns
returns g c =
    let P = c.args.self.now in
    record {
      ranks = rank_texts P.men 8;
      spelled = spell_ranks P.men 8;
      shortest = shortest_ranks P.men 8;
      text =
          six_fields (joined 47 (rank_texts P.men 8)) (side_text P.turn)
          (or_dash (rights_letters P.rights)) (en_passant_text P.en_passant)
          (decimal P.halfmove_clock) (decimal P.fullmove_number)
          c.new-out.result.bytes c.push_men.new.out.bytes c.push_byte.new.out.bytes
          c.push_side.new.out.bytes c.push_byte-2.new.out.bytes
          c.push_rights.new.out.bytes c.push_byte-3.new.out.bytes c.push_en_passant.new.out.bytes
          c.push_byte-4.new.out.bytes
          c.push_count.new.out.bytes c.push_byte-5.new.out.bytes c.push_count-2.new.out.bytes
          c.new-out.ensures
          c.push_men.ensures.text
          c.push_byte.ensures
          (written_of side_text _ _ _ _ c.push_side.ensures c.side.ensures)
          c.push_byte-2.ensures
          (written_of (λ (rights : CastlingRights).
          or_dash (rights_letters rights)) _ _ _ _ c.push_rights.ensures c.rights.ensures)
          c.push_byte-3.ensures
          (written_of en_passant_text _ _ _ _ c.push_en_passant.ensures c.en_passant.ensures)
          c.push_byte-4.ensures
          (written_of decimal _ _ _ _ c.push_count.ensures.text c.clock.ensures)
          c.push_byte-5.ensures
          (written_of decimal _ _ _ _ c.push_count-2.ensures.text c.number.ensures);
    }
