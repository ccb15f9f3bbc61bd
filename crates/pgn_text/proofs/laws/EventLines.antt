-- An event line parts the pieces of a text.
use Rattle.pgn_text.proofs.Common.{◌≡◌, ◌≢◌, ℕ, ◌+◌, true, List, [], ◌∷◌, ◌++◌, length, sym, ap}
use Rattle.pgn_text.proofs.Common.{subst, ◌∙◌, arith, append_assoc, append-nil, length-append}
use Rattle.pgn_text.proofs.Common.{IsTrue, and_parts, and_from, false≢true, ends_in_line_feed}
use Rattle.pgn_text.proofs.Common.{is_event_line, IsFirstBlock, AreBlocks, MarkedPiece, AreOfBlocks}
use Rattle.pgn_text.specs.Public.TextLaws.{PiecesJoinAtEventLines, PiecesPartAtEventLines}
use Rattle.pgn_text.proofs.FrontText.{event_front}
use Rattle.pgn_text.proofs.laws.LineFronts.{begins_line, line_front}
use Rattle.pgn_text.proofs.MarkedPieces.{marked_pieces_exist, one_marked_pieces}
use Rattle.pgn_text.proofs.ResumedText.{event_line_after}
use Rattle.pgn_text.proofs.OneList.{no_bytes}

-- bytes stand after the place of an event line
pub line_has_byte : (before after : List ℕ) → IsTrue (is_event_line before after) → after ≢ []
line_has_byte before after line none =
    false≢true (ap begins_line (sym none)
    ∙ (and_parts (ends_in_line_feed before) (begins_line after) line).1)

-- a first block stays one where an event line follows what stood after it
first_more : (block rest after : List ℕ) → IsTrue (is_event_line (block ++ rest) after)
    → IsFirstBlock block rest → IsFirstBlock block (rest ++ after)
first_more block rest after line first =
    record { ends = λ some. ends rest line first; whole = whole }
  where
    ends : (back : List ℕ) → IsTrue (is_event_line (block ++ back) after) → IsFirstBlock block back
        → IsTrue (is_event_line block (back ++ after))
    ends [] here own = subst (λ t. IsTrue (is_event_line t after)) (append-nil block) here
    ends (b ∷ back) here own = event_front block (b ∷ back) after (own.ends (λ e. cc))

    whole : (x y : List ℕ) → block ≡ x ++ y → x ≢ [] → y ≢ []
        → IsTrue (is_event_line x (y ++ (rest ++ after))) → ⊥
    whole x y e some other here =
        let regroup : block ++ rest ≡ x ++ (y ++ rest) =
        ap (λ t. t ++ rest) e ∙ append_assoc x y rest in
        let there : IsTrue (is_event_line (y ++ rest) after) =
        sym (event_line_after x (y ++ rest) after (λ n. other (no_bytes y rest n)))
        ∙ ap (λ t. is_event_line t after) (sym regroup) ∙ line in
        let feed = (and_parts (ends_in_line_feed (y ++ rest)) (begins_line after) there).0 in
        let both = and_parts (ends_in_line_feed x) (begins_line (y ++ (rest ++ after))) here in
        let long : begins_line ((y ++ rest) ++ after) ≡ true =
        ap begins_line (append_assoc y rest after) ∙ both.1 in
        first.whole x y e some other
        (and_from (ends_in_line_feed x) (begins_line (y ++ rest)) both.0
        (line_front (y ++ rest) after feed long))

-- so the blocks before an event line and those from it on are together the blocks of the text
blocks_join : (front back : List (List ℕ)) (before after : List ℕ)
    → IsTrue (is_event_line before after)
    → AreBlocks front before → AreBlocks back after → AreBlocks (front ++ back) (before ++ after)
blocks_join [] back before after line h k = absurd h
blocks_join (block ∷ []) [] before after line h k = absurd k
blocks_join (block ∷ []) (next ∷ back) before after line h k = (
  after,
  ap (λ t. t ++ after) h.0,
  line_has_byte before after line,
  first_more block [] after
      (subst (λ t. IsTrue (is_event_line t after)) (h.0 ∙ sym (append-nil block)) line) h.1,
  k,
)
blocks_join (block ∷ next ∷ front) back before after line h k =
    let here : IsTrue (is_event_line (block ++ h.0) after) =
    subst (λ t. IsTrue (is_event_line t after)) h.1 line in (
      h.0 ++ after,
      ap (λ t. t ++ after) h.1 ∙ append_assoc block h.0 after,
      λ n. h.2 (no_bytes h.0 after n),
      first_more block h.0 after here h.3,
      blocks_join (next ∷ front) back h.0 after (sym (event_line_after block h.0 after h.2)
          ∙ here) h.4 k,
    )

-- and their pieces
pieces_join : (limit max_depth offset : ℕ) (front back : List (List ℕ)) (before : List ℕ)
    (own rest : List MarkedPiece)
    → AreBlocks front before → AreOfBlocks limit max_depth offset front own
    → AreOfBlocks limit max_depth (offset + length before) back rest
    → AreOfBlocks limit max_depth offset (front ++ back) (own ++ rest)
pieces_join limit max_depth offset [] back before own rest parted h k = absurd parted
pieces_join limit max_depth offset (block ∷ []) back before own rest parted h k = (
  h.0,
  rest,
  ap (λ t. t ++ rest) (h.2 ∙ ap (λ t. h.0 ++ t) h.4 ∙ append-nil h.0),
  h.3,
  subst (λ t. AreOfBlocks limit max_depth (offset + length t) back rest) parted.0 k,
)
pieces_join limit max_depth offset (block ∷ next ∷ front) back before own rest parted h k =
    let place : offset + length before ≡ offset + length block + length parted.0 =
    omega (arith, ap length parted.1 ∙ length-append block parted.0) in (
      h.0,
      h.1 ++ rest,
      ap (λ t. t ++ rest) h.2 ∙ append_assoc h.0 h.1 rest,
      h.3,
      pieces_join limit max_depth (offset + length block) (next
          ∷ front) back parted.0 h.1 rest parted.4 h.4
          (subst (λ n. AreOfBlocks limit max_depth n back rest) place k),
    )

pub join_at_event_line : PiecesJoinAtEventLines
join_at_event_line limit max_depth offset before after front back line h k = record {
  blocks = h.blocks ++ k.blocks;
  parted = blocks_join h.blocks k.blocks before after line h.parted k.parted;
  each = pieces_join limit max_depth offset h.blocks k.blocks before front back h.parted h.each
      k.each;
}

pub part_at_event_line : PiecesPartAtEventLines
part_at_event_line limit max_depth offset before after pieces line all =
    let front = marked_pieces_exist limit max_depth offset before in
    let back = marked_pieces_exist limit max_depth (offset + length before) after in (
      front.0,
      back.0,
      one_marked_pieces limit max_depth offset (before ++ after) pieces (front.0 ++ back.0) all
          (join_at_event_line limit max_depth offset before after front.0 back.0 line front.1
          back.1),
      front.1,
      back.1,
    )
