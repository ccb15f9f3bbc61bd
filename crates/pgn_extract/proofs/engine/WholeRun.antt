-- The run over a whole input: the bytes dropped, and the blocks of the others.
use Rattle.std.proofs.lemmas.List.{append-nil, drop_all, drop_at, take_at}
use Rattle.pgn_extract.proofs.Common.{◌≡◌, ℕ, ◌+◌, ◌^◌, ◌<◌, ◌≤◌, List, [], ◌∷◌, ◌++◌, length, take}
use Rattle.pgn_extract.proofs.Common.{drop, Option, Some, None, refl, sym, ap, ◌∙◌, subst, arith}
use Rattle.pgn_extract.proofs.Common.{append_assoc, length-append, inl, inr, IfSome, Appends}
use Rattle.pgn_extract.proofs.Common.{cases_lt, append_cancel_left, AreCompletePieces}
use Rattle.pgn_extract.proofs.Common.{AreMarkedPieces, no_bytes, not_nil, Drops, DropsSome}
use Rattle.pgn_extract.proofs.Common.{EndsBlocks, BeginsFirst, BreaksOff, StandsOver}
use Rattle.pgn_extract.proofs.Common.{WritesComplete, BeginsAll, Job, Io, Completes, Stops}
use Rattle.pgn_extract.proofs.Common.{RunError, Read, Write, OutOfMemory, InputTooLong, Summary}
use Rattle.pgn_text.proofs.OneBlocks.{empty_block}
use Rattle.pgn_extract.proofs.BegunAll.{begun_all}
use Rattle.pgn_extract.proofs.Writing.{appends_none}

-- after the bytes dropped stand the others, also where there were too few to be dropped
drop_is : (most : ℕ) (dropped rest : List ℕ) → length dropped ≤ most
    → (length dropped < most → rest ≡ []) → drop most (dropped ++ rest) ≡ rest
drop_is most dropped rest fits end =
    elim (cases_lt (length dropped) most) [
      | inl less ↦
          let none = end less in
          ap (λ t. drop most (dropped ++ t)) none ∙ ap (drop most) (append-nil dropped)
          ∙ drop_all most dropped (omega arith) ∙ sym none
      | inr more ↦ drop_at dropped rest most (omega arith)
    ]

-- where there were too few, no other is left
nothing_left : (whole dropped rest : List ℕ) → whole ≡ dropped ++ rest → whole ≡ dropped → rest ≡ []
nothing_left whole dropped rest parted is =
    append_cancel_left dropped rest [] (sym parted ∙ is ∙ sym (append-nil dropped))

-- nothing is reported where no byte is kept
none_complete : (limit max_depth offset : ℕ) → AreCompletePieces limit max_depth offset [] []
none_complete limit max_depth offset = record {
  blocks = [];
  complete = record { last = []; parted = (refl, empty_block) };
  each = refl;
}

module _ (job : Job) (io : Io) where
  -- the whole input is reported
  pub ends_whole : (first mid last : Option (List ℕ)) {moved count moved' : ℕ} {summary : Summary}
      → Drops first mid moved count job.id.offset
      → EndsBlocks job.aim job.limit job.max_depth job.id mid last count moved' io.out.old.bytes
      io.out.new.bytes io.err.old.bytes io.err.new.bytes summary
      → IfSome first (λ whole. Completes job io whole summary)
  ends_whole None mid last d e = tt
  ends_whole (Some whole) None last d e = absurd d.reads.bytes
  ends_whole (Some whole) (Some rest) last d e = record {
    size =
        let dropped = d.within in let read = e.size in
        omega (arith, ap length d.reads.bytes, length-append d.dropped rest, ap length e.all);
    pieces = e.pieces;
    each = subst (λ t. AreMarkedPieces job.limit job.max_depth job.id.offset t e.pieces) (sym kept)
        e.each;
    verdicts = e.verdicts;
    written = e.written;
    games = e.games;
    faulty = e.faulty;
  }
    where
      kept : drop job.id.offset whole ≡ e.read
      kept = ap (drop job.id.offset) d.reads.bytes
          ∙ drop_is job.id.offset d.dropped rest d.within (λ less.
          nothing_left whole d.dropped rest d.reads.bytes (d.end less)) ∙ e.all

  -- a read failed within the bytes to be dropped
  pub skip_stands : (first last : Option (List ℕ)) {moved : ℕ} (error : RunError) → error ≡ Read
      → moved ≡ 0 → job.id.offset ≤ 2 ^ 62
      → io.out.new.bytes ≡ io.out.old.bytes → io.err.new.bytes ≡ io.err.old.bytes
      → DropsSome first last moved io.input.new.moved job.id.offset
      → IfSome first (λ whole. Stops error job io whole)
  skip_stands None last error is zero small same_out same_err d = tt
  skip_stands (Some whole) None error is zero small same_out same_err d = absurd d.reads.bytes
  skip_stands (Some whole) (Some rest) {moved} error is zero small same_out same_err d =
      subst (λ e. Stops e job io whole) (sym is) record {
        pieces = [];
        each = subst (λ t. AreCompletePieces job.limit job.max_depth job.id.offset t []) (sym none)
            (none_complete job.limit job.max_depth job.id.offset);
        verdicts = [];
        written = record {
          each = refl;
          output =
              subst (λ o. Appends io.out.old.bytes o []) (sym same_out)
              (appends_none io.out.old.bytes);
          faults =
              subst (λ o. Appends io.err.old.bytes o []) (sym same_err)
              (appends_none io.err.old.bytes);
        };
      }
    where
      size : length d.dropped ≡ io.input.new.moved
      size = let w = d.within in let c = d.reads.count (omega arith) in omega arith

      none : drop job.id.offset (take io.input.new.moved whole) ≡ []
      none = ap (λ t. drop job.id.offset (take io.input.new.moved t)) d.reads.bytes
          ∙ ap (drop job.id.offset) (take_at d.dropped rest io.input.new.moved size)
          ∙ drop_all job.id.offset d.dropped d.within

  -- what stands after an error, over the whole input
  pub stands_whole : (first mid last : Option (List ℕ)) {moved count : ℕ} (error : RunError)
      → moved ≡ 0 → job.id.offset ≤ 2 ^ 62 → Drops first mid moved count job.id.offset
      → BreaksOff job.aim job.limit job.max_depth job.id mid last count io.input.new.moved
      io.out.old.bytes io.out.new.bytes io.err.old.bytes io.err.new.bytes error
      → IfSome first (λ whole. Stops error job io whole)
  stands_whole None mid last error zero small d b = tt
  stands_whole (Some whole) None last error zero small d b = absurd d.reads.bytes
  stands_whole (Some whole) (Some rest) None error zero small d b = absurd b.reads.bytes
  stands_whole (Some whole) (Some rest) (Some after) {moved} {count} error zero small d b =
      by_kind error b.stands
    where
      kept : drop job.id.offset whole ≡ rest
      kept = ap (drop job.id.offset) d.reads.bytes
          ∙ drop_is job.id.offset d.dropped rest d.within (λ less.
          nothing_left whole d.dropped rest d.reads.bytes (d.end less))

      none_read : length d.dropped < job.id.offset → b.read ≡ []
      none_read less =
          no_bytes b.read after (sym b.reads.bytes
          ∙ nothing_left whole d.dropped rest d.reads.bytes (d.end less))

      shape : whole ≡ (d.dropped ++ b.read) ++ after
      shape = d.reads.bytes ∙ ap (λ t. d.dropped ++ t) b.reads.bytes
          ∙ sym (append_assoc d.dropped b.read after)

      size : length (d.dropped ++ b.read) ≡ io.input.new.moved
      size =
          let w = d.within in let s = b.size in
          let here : count ≡ moved + length d.dropped = d.reads.count (omega arith) in
          let there : io.input.new.moved ≡ count + length b.read = b.reads.count (omega arith) in
          omega (arith, length-append d.dropped b.read)

      read_part : drop job.id.offset (take io.input.new.moved whole) ≡ b.read
      read_part =
          ap (λ t. drop job.id.offset (take io.input.new.moved t)) shape ∙ ap (drop job.id.offset)
          (take_at (d.dropped ++ b.read) after io.input.new.moved size)
          ∙ drop_is job.id.offset d.dropped b.read d.within none_read

      begun : BeginsFirst job.aim job.limit job.max_depth job.id rest io.out.old.bytes
          io.out.new.bytes io.err.old.bytes io.err.new.bytes
          → BeginsAll job.aim job.limit job.max_depth job.id (drop job.id.offset whole)
          io.out.old.bytes io.out.new.bytes io.err.old.bytes io.err.new.bytes
      begun s =
          begun_all job.aim job.limit job.max_depth job.id (drop job.id.offset whole)
          io.out.old.bytes io.out.new.bytes io.err.old.bytes io.err.new.bytes
          (subst (λ t.
          BeginsFirst job.aim job.limit job.max_depth job.id t io.out.old.bytes io.out.new.bytes
          io.err.old.bytes io.err.new.bytes) (sym kept) s)

      by_kind : (e : RunError)
          → StandsOver job.aim job.limit job.max_depth job.id (Some rest) b.read io.out.old.bytes
          io.out.new.bytes io.err.old.bytes io.err.new.bytes e → Stops e job io whole
      by_kind Read s =
          subst (λ t.
          WritesComplete job.aim job.limit job.max_depth job.id t io.out.old.bytes io.out.new.bytes
          io.err.old.bytes io.err.new.bytes) (sym read_part) s
      by_kind Write s = begun s
      by_kind OutOfMemory s = begun s
      by_kind InputTooLong s =
          elim (cases_lt (length d.dropped) job.id.offset) [
            | inl less ↦ absurd (not_nil s.kept s.byte [] (sym s.parted ∙ none_read less))
            | inr more ↦
                let front : whole ≡ (d.dropped ++ s.kept) ++ (s.byte ∷ [] ++ after) = d.reads.bytes
                ∙ ap (λ t. d.dropped ++ t) (b.reads.bytes ∙ ap (λ t. t ++ after) s.parted
                ∙ append_assoc s.kept (s.byte ∷ []) after)
                ∙ sym (append_assoc d.dropped s.kept (s.byte ∷ [] ++ after)) in
                let full : length (d.dropped ++ s.kept) ≡ 2 ^ 62 =
                (let w = d.within in let f = s.full in
                omega (arith, length-append d.dropped s.kept)) in
                let part : drop job.id.offset (take (2 ^ 62) whole) ≡ s.kept =
                ap (λ t. drop job.id.offset (take (2 ^ 62) t)) front ∙ ap (drop job.id.offset)
                (take_at (d.dropped ++ s.kept) (s.byte ∷ [] ++ after) (2 ^ 62) full)
                ∙ drop_at d.dropped s.kept job.id.offset (let w = d.within in omega arith) in (
                  omega (
                    arith,
                    full,
                    ap length front,
                    length-append (d.dropped ++ s.kept) (s.byte ∷ [] ++ after),
                  ),
                  subst (λ t.
                      WritesComplete job.aim job.limit job.max_depth job.id t io.out.old.bytes
                      io.out.new.bytes io.err.old.bytes io.err.new.bytes) (sym part) s.written,
                )
          ]
