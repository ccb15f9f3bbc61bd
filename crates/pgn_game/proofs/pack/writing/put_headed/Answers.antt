-- The head takes no more than the size, and the fields make the record.
use Rattle.pgn_game.proofs.Common.{◌≡◌, ◌∙◌, ◌++◌, ◌*◌, ◌+◌, ◌%◌, ℕ, List, ap, length, arith}
use Rattle.pgn_game.proofs.Common.{w32}
use Rattle.pgn_game.proofs.Common.{w64, to_be_bytes, name_bytes}
use Rattle.pgn_game.proofs.RecordWriting.{count_below}
use Rattle.pgn_game.proofs.HeadedRecords.{counted, headed, headed_size}
use Rattle.pgn_game.proofs.pack.writing.put_headed.Goals as goal

pub overflow_cast-count : goal.overflow_cast-count
overflow_cast-count c =
    omega (
      arith,
      count_below c.args.head.now.tags,
      counted c.tags.result.now c.args.head.now.tags c.tags.ensures.tags,
      c.len-count.ensures.len,
      c.headed_size-size.ensures,
      c.if-size-gt-LARGEST_BODY.false,
    )

pub overflow_mul-count : goal.overflow_mul-count
overflow_mul-count c =
    omega (
      arith,
      count_below c.args.head.now.tags,
      counted c.tags.result.now c.args.head.now.tags c.tags.ensures.tags,
      c.len-count.ensures.len,
      c.headed_size-size.ensures,
      c.if-size-gt-LARGEST_BODY.false,
    )

pub overflow_add-count : goal.overflow_add-count
overflow_add-count c =
    omega (
      arith,
      count_below c.args.head.now.tags,
      counted c.tags.result.now c.args.head.now.tags c.tags.ensures.tags,
      c.len-count.ensures.len,
      c.headed_size-size.ensures,
      c.if-size-gt-LARGEST_BODY.false,
      c.below_count.ensures,
    )

pub returns : goal.returns
returns c = λ game fits shows.
    let small = c.if-size-gt-LARGEST_BODY.false in
    let size : c.headed_size-size.result ≡ headed_size c.args.raw.now c.args.head.now.tags =
    omega (arith, c.headed_size-size.ensures, small) in
    let count : 32 * c.len-count.result + c.below_count.result
    ≡ 32 * length c.args.head.now.tags + c.args.raw.now.head % 32 =
    omega (
      arith,
      counted c.tags.result.now c.args.head.now.tags c.tags.ensures.tags,
      c.len-count.ensures.len,
      c.below_count.ensures,
    ) in
    headed c.args.raw.now game c.args.head.now.tags c.args.out.now.items
    c.extend_from_slice.new.self.items c.extend_from_slice-2.new.self.items
    c.extend_from_slice-3.new.self.items c.extend_from_slice-4.new.self.items
    c.put_name.new.out.items c.put_tags.new.out.items c.extend_from_slice-5.new.self.items
    shows fits (omega (arith, size, small)) c.invariant.ensures.ordered
    (c.in_ok-extend_from_slice.ensures.items
    ∙ ap (λ (bytes : List ℕ). c.args.out.now.items ++ bytes) (c.to_be_bytes.ensures
    ∙ ap (to_be_bytes w32) size))
    (c.in_ok-extend_from_slice-2.ensures.items
    ∙ ap (λ (bytes : List ℕ). c.extend_from_slice.new.self.items ++ bytes) (c.to_be_bytes-2.ensures
    ∙ ap (to_be_bytes w64) c.number.ensures))
    (c.in_ok-extend_from_slice-3.ensures.items
    ∙ ap (λ (bytes : List ℕ). c.extend_from_slice-2.new.self.items ++ bytes)
    (c.to_be_bytes-3.ensures ∙ ap (to_be_bytes w64) c.offset.ensures))
    (c.in_ok-extend_from_slice-4.ensures.items
    ∙ ap (λ (bytes : List ℕ). c.extend_from_slice-3.new.self.items ++ bytes)
    (c.to_be_bytes-4.ensures ∙ ap (to_be_bytes w32) count))
    (c.in_ok-put_name.ensures.name
    ∙ ap (λ name. c.extend_from_slice-4.new.self.items ++ name_bytes name) c.name.ensures)
    c.in_ok-put_tags.ensures.tags
    (c.in_ok-extend_from_slice-5.ensures.items
    ∙ ap (λ (bytes : List ℕ). c.put_tags.new.out.items ++ bytes) c.plies.ensures)
