-- The run over the blocks: what stands at each turn, and what each way out of it gives.
use Rattle.std.proofs.Common.{◌≡◌, ℕ, ◌+◌, ◌-◌, ◌^◌, ◌<◌, ◌≤◌, true, false, List, [], ◌∷◌, ◌++◌}
use Rattle.std.proofs.Common.{length, Option, Some, None, refl, sym, ap, ◌∙◌, subst, arith}
use Rattle.std.proofs.Common.{append_assoc, length-append, inl, inr, ◌⊎◌, Fits, w64}
use Rattle.std.proofs.lemmas.List.Sums.{count_by-le-length}
use Rattle.std.specs.Prelude.{◌≢◌, count_by}
use Rattle.std.proofs.lemmas.List.{append-nil}
use Rattle.pgn_extract.proofs.Common.{IfSome, Keeps, IsAtEnd, cases_Bool, both_ways, MarkedPiece}
use Rattle.pgn_extract.proofs.Common.{AreMarkedPieces, Reads, ReadError, reads_join, turns}
use Rattle.pgn_extract.proofs.Common.{WritesBlock, Begins, BeginsBlock, EndsBlocks, BeginsFirst}
use Rattle.pgn_extract.proofs.Common.{BreaksOff, StandsOver, Writes, RunError, Write, OutOfMemory}
use Rattle.pgn_extract.proofs.Common.{Verdict, is_faulty, Summary, Aim, GameId, game_id}
use Rattle.pgn_text.specs.Public.Windows.{Window, fresh_window, IsCutOff, FailsAfter}
use Rattle.pgn_text.proofs.Joined.{reads_none}
use Rattle.pgn_text.proofs.BlockSizes.{some_bytes}
use Rattle.pgn_extract.specs.Private.Blockwise.{run_error_of}
use Rattle.pgn_extract.proofs.engine.Beginnings.{says_kept, writes_more, begins_written}
use Rattle.pgn_extract.proofs.engine.Beginnings.{begins_more}
use Rattle.pgn_extract.proofs.engine.BlocksGiven.{Given, none_given, one_given, all_given}
use Rattle.pgn_extract.proofs.engine.BlocksGiven.{all_but_last}
use Rattle.pgn_extract.proofs.engine.BlocksGiven.{goes_on}
use Rattle.pgn_extract.proofs.engine.Dropping.{all_read}
use Rattle.pgn_extract.proofs.VerdictFacts.{count_by-join}
use Rattle.pgn_extract.proofs.Writing.{appends_none}
use Rattle.pgn_text.specs.declared.io.blocks.ReadError.TheVariants as cause

-- some blocks are read, and their pieces reported and counted
pub record Progress (aim : Aim) (limit max_depth : ℕ) (id : GameId) (now : Window)
    (first left : Option (List ℕ)) (moved count : ℕ) (out out' err err' : Option (List ℕ))
    (games faulty : ℕ) : Type 0 where
  pub bytes : List ℕ
  pub pieces : List MarkedPiece
  pub given : Given limit max_depth id.offset now bytes pieces
  pub reads : Reads first left moved count (bytes ++ now.ahead)
  pub verdicts : List Verdict
  pub written : Writes aim out out' err err' id.number pieces verdicts
  pub same : length verdicts ≡ length pieces
  pub counted : games ≡ length pieces
  pub faults : faulty ≡ count_by is_faulty verdicts
  pub few : length pieces ≤ length bytes
  pub within : now.place + length now.ahead ≤ 2 ^ 62
  pub last : now.ended ≡ true → (now.ahead ≡ []) × IfSome first (λ whole. whole ≡ bytes)
  pub sound : (now.failed ≡ false) × (now.over ≡ false)

-- at the start nothing is read and nothing reported
pub progress_start : {aim : Aim} {limit max_depth : ℕ} {id : GameId} {now : Window}
    (left : Option (List ℕ)) (moved : ℕ) (out err : Option (List ℕ)) → now ≡ fresh_window id.offset
    → id.offset ≤ 2 ^ 62
    → Progress aim limit max_depth id now left left moved moved out out err err 0 0
progress_start {aim} {limit} {max_depth} {id} {now} left moved out err is small =
    subst (λ (w : Window).
    Progress aim limit max_depth id w left left moved moved out out err err 0 0) (sym is)
    record {
      bytes = [];
      pieces = [];
      given = none_given refl refl;
      reads = reads_none left moved;
      verdicts = [];
      written = record { each = refl; output = appends_none out; faults = appends_none err };
      same = refl;
      counted = refl;
      faults = refl;
      few = omega arith;
      within = omega arith;
      last = λ ended. cc;
      sound = (refl, refl);
    }

-- of an input that is known, what is left follows what was read
known : (first last : Option (List ℕ)) (moved count : ℕ) (read : List ℕ) (P : List ℕ → Type 0)
    → Reads first last moved count read
    → ((rest : List ℕ) → (IsAtEnd last → rest ≡ []) → P (read ++ rest)) → IfSome first P
known None last moved count read P reads holds = tt
known (Some whole) None moved count read P reads holds = absurd reads.bytes
known (Some whole) (Some rest) moved count read P reads holds =
    subst P (sym reads.bytes) (holds rest (λ end. end))

module _ {aim : Aim} {limit max_depth : ℕ} {id : GameId} {now : Window}
    {first left : Option (List ℕ)} {moved count : ℕ} {out out' err err' : Option (List ℕ)}
    {games faulty : ℕ}
    (p : Progress aim limit max_depth id now first left moved count out out' err err' games faulty)
  where
    -- no further block is shorter than the way to the end
    pub nearer : {next : Window} {left' : Option (List ℕ)} {read block : List ℕ}
        → IsCutOff now next left' read block
        → (2 ^ 62 - next.place) + turns next.ended < (2 ^ 62 - now.place) + turns now.ended
    nearer {next} {left'} {read} {block} cut =
        let before : turns now.ended ≡ 1 = ap turns cut.going in
        let place = cut.place in let within = cut.within in
        elim (cases_Bool next.ended) [
          | inl ended ↦ let after : turns next.ended ≡ 0 = ap turns ended in omega arith
          | inr going ↦
              let after : turns next.ended ≡ 1 = ap turns going in
              let some : 0 < length block =
              some_bytes next.ahead block (cut.more going) (cut.first [] (λ _. refl)) in
              omega arith
        ]

    -- the bytes of a block and those ahead then, after those before
    total : {next : Window} {left' : Option (List ℕ)} {count' : ℕ} {read block : List ℕ}
        → IsCutOff now next left' read block → Reads left left' count count' read
        → Reads first left' moved count' ((p.bytes ++ block) ++ next.ahead)
    total {next} {left'} {count'} {read} {block} cut more =
        subst (λ r. Reads first left' moved count' r)
        (append_assoc p.bytes now.ahead read ∙ ap (λ t. p.bytes ++ t) cut.parted
        ∙ sym (append_assoc p.bytes block next.ahead))
        (reads_join first left left' moved count count' (p.bytes ++ now.ahead) read p.reads more)

    -- no more of the pieces are faulty than there are bytes before the place
    pub faulty_fits : Fits w64 faulty
    faulty_fits =
        omega (
          arith,
          p.faults,
          p.same,
          p.few,
          p.within,
          p.given.place,
          count_by-le-length is_faulty p.verdicts,
        )

    -- one more block is reported
    pub progress_more : {next : Window} {left' : Option (List ℕ)} {count' from : ℕ}
        {read block : List ℕ} {out'' err'' : Option (List ℕ)} {verdict : Summary}
        → IsCutOff now next left' read block → Reads left left' count count' read
        → from + length block ≡ next.place
        → WritesBlock aim limit max_depth (game_id (id.number + games) from) block out' out'' err'
        err'' verdict
        → Progress aim limit max_depth id next first left' moved count' out out'' err err'' (games
        + verdict.games) (faulty + verdict.faulty)
    progress_more {next} {left'} {count'} {from} {read} {block} {out''} {err''} {verdict} cut more
        place writes =
        let own =
        subst (λ n. Writes aim out' out'' err' err'' (id.number + n) writes.own writes.verdicts)
        p.counted writes.written in
        let reads = total cut more in
        record {
          bytes = p.bytes ++ block;
          pieces = p.pieces ++ writes.own;
          given = one_given p.given cut place writes.each;
          reads = reads;
          verdicts = p.verdicts ++ writes.verdicts;
          written = writes_more p.written writes.own writes.verdicts own;
          same = let h = p.same in let k = writes.same in
              omega (
                arith,
                length-append p.pieces writes.own,
                length-append p.verdicts writes.verdicts,
              );
          counted = let g = p.counted in let h = writes.games in
              omega (arith, length-append p.pieces writes.own);
          faults = let g = p.faults in let h = writes.faulty in
              omega (arith, count_by-join p.verdicts writes.verdicts);
          few = let g = p.few in let h = writes.few in
              omega (arith, length-append p.pieces writes.own, length-append p.bytes block);
          within = cut.within;
          last = λ ended.
              let none = (cut.last ended).0 in
              let here : (p.bytes ++ block) ++ next.ahead ≡ p.bytes ++ block =
              ap (λ t. (p.bytes ++ block) ++ t) none ∙ append-nil (p.bytes ++ block) in (
                none,
                subst (λ b. IfSome first (λ whole. whole ≡ b)) here
                    (all_read first left' moved count' ((p.bytes ++ block)
                    ++ next.ahead) reads (cut.last ended).1),
              );
          sound = cut.sound;
        }

    -- one more block is reported in part
    pub block_breaks : {next : Window} {left' : Option (List ℕ)} {count' from : ℕ}
        {read block : List ℕ} {out'' err'' : Option (List ℕ)} (error : RunError)
        → IsCutOff now next left' read block → Reads left left' count count' read
        → from + length block ≡ next.place
        → BeginsBlock aim limit max_depth (game_id (id.number + games) from) block out' out'' err'
        err'' → (error ≡ Write) ⊎ (error ≡ OutOfMemory)
        → BreaksOff aim limit max_depth id first left' moved count' out out'' err err'' error
    block_breaks {next} {left'} {count'} {from} {read} {block} {out''} {err''} error cut more place
        begins kind =
        let own = subst (λ n. Begins aim out' out'' err' err'' (id.number + n) begins.own) p.counted
        begins.written in
        let reads = total cut more in
        let given = one_given p.given cut place begins.each in
        record {
          read = (p.bytes ++ block) ++ next.ahead;
          reads = reads;
          size = let w = cut.within in let q = given.place in
              omega (arith, length-append (p.bytes ++ block) next.ahead);
          stands =
              let begun = known first left' moved count' ((p.bytes ++ block) ++ next.ahead)
              (λ whole. BeginsFirst aim limit max_depth id whole out out'' err err'') reads
              (λ rest end.
              let others =
              goes_on given rest (λ ended. ((cut.last ended).0, end (cut.last ended).1))
              in
              record {
                pieces = (p.pieces ++ begins.own) ++ others.0;
                each = subst (λ t.
                    AreMarkedPieces limit max_depth id.offset t ((p.pieces ++ begins.own)
                    ++ others.0)) (sym (append_assoc (p.bytes ++ block) next.ahead rest)) others.1;
                written = begins_more p.written begins.own others.0 own;
              }) in
              elim kind [
                | inl is ↦ subst (StandsOver aim limit max_depth id first ((p.bytes ++ block)
                    ++ next.ahead) out out'' err err'') (sym is) begun
                | inr is ↦ subst (StandsOver aim limit max_depth id first ((p.bytes ++ block)
                    ++ next.ahead) out out'' err err'') (sym is) begun
              ];
        }

    -- all blocks are reported
    pub all_written : {left' : Option (List ℕ)} {count' : ℕ} {out'' err'' : Option (List ℕ)}
        {summary : Summary} → now.ended ≡ true → Reads left left' count count' []
        → Keeps out' out'' → Keeps err' err'' → summary.games ≡ games → summary.faulty ≡ faulty
        → EndsBlocks aim limit max_depth id first left' moved count' out out'' err err'' summary
    all_written {left'} {count'} {out''} {err''} {summary} ended more out_kept err_kept counted
        faults =
        let none = (p.last ended).0 in
        let here : (p.bytes ++ now.ahead) ++ [] ≡ p.bytes =
        append-nil (p.bytes ++ now.ahead) ∙ ap (λ t. p.bytes ++ t) none ∙ append-nil p.bytes in
        record {
          read = p.bytes;
          reads = subst (λ r. Reads first left' moved count' r) here
              (reads_join first left left' moved count count' (p.bytes
              ++ now.ahead) [] p.reads more);
          all = (p.last ended).1;
          size = let w = p.within in let q = p.given.place in omega arith;
          pieces = p.pieces;
          each = all_given p.given ended none;
          verdicts = p.verdicts;
          written = says_kept p.written out_kept err_kept;
          games = counted ∙ p.counted;
          faulty = faults ∙ p.faults;
        }

    -- all blocks are reported, and a flush failed
    pub flush_breaks : {left' : Option (List ℕ)} {count' : ℕ} {out'' err'' : Option (List ℕ)}
        (error : RunError) → now.ended ≡ true → Reads left left' count count' []
        → Keeps out' out'' → Keeps err' err'' → error ≡ Write
        → BreaksOff aim limit max_depth id first left' moved count' out out'' err err'' error
    flush_breaks {left'} {count'} {out''} {err''} error ended more out_kept err_kept is =
        let none = (p.last ended).0 in
        let here : (p.bytes ++ now.ahead) ++ [] ≡ p.bytes =
        append-nil (p.bytes ++ now.ahead) ∙ ap (λ t. p.bytes ++ t) none ∙ append-nil p.bytes in
        record {
          read = p.bytes;
          reads = subst (λ r. Reads first left' moved count' r) here
              (reads_join first left left' moved count count' (p.bytes
              ++ now.ahead) [] p.reads more);
          size = let w = p.within in let q = p.given.place in omega arith;
          stands =
              subst (StandsOver aim limit max_depth id first p.bytes out out'' err err'') (sym is)
              (begun first (p.last ended).1);
        }
      where
        all : BeginsFirst aim limit max_depth id p.bytes out out'' err err''
        all = record {
          pieces = p.pieces ++ [];
          each = subst (AreMarkedPieces limit max_depth id.offset p.bytes)
              (sym (append-nil p.pieces))
              (all_given p.given ended (p.last ended).0);
          written = begins_written (says_kept p.written out_kept err_kept) [];
        }

        begun : (f : Option (List ℕ)) → IfSome f (λ whole. whole ≡ p.bytes)
            → IfSome f (λ whole. BeginsFirst aim limit max_depth id whole out out'' err err'')
        begun None is = tt
        begun (Some whole) is =
            subst (λ w. BeginsFirst aim limit max_depth id w out out'' err err'') (sym is) all

    -- the next block could not be read
    pub read_breaks : {left' : Option (List ℕ)} {count' : ℕ} (read : List ℕ) (error : ReadError)
        → Reads left left' count count' read
        → (now.ended ≡ true → error ≡ cause.Failed) → error ≢ cause.Failed
        → FailsAfter now.place now.ahead read error
        → BreaksOff aim limit max_depth id first left' moved count' out out' err err'
        (run_error_of error)
    read_breaks {left'} {count'} read error more last other fails = by_kind error last other fails
      where
        all : Reads first left' moved count' (p.bytes ++ (now.ahead ++ read))
        all = subst (λ r. Reads first left' moved count' r) (append_assoc p.bytes now.ahead read)
            (reads_join first left left' moved count count' (p.bytes
            ++ now.ahead) read p.reads more)

        going : (e : ReadError) → (now.ended ≡ true → e ≡ cause.Failed) → e ≢ cause.Failed
            → now.ended ≡ false
        going e l o = elim (cases_Bool now.ended) [ inl ended ↦ absurd (o (l ended)) | inr is ↦ is ]

        fits : (size : ℕ) → now.place + length (now.ahead ++ read) ≤ size
            → id.offset + length (p.bytes ++ (now.ahead ++ read)) ≤ size
        fits size h = let q = p.given.place in
            omega (arith, length-append p.bytes (now.ahead ++ read))

        by_kind : (e : ReadError) → (now.ended ≡ true → e ≡ cause.Failed) → e ≢ cause.Failed
            → FailsAfter now.place now.ahead read e
            → BreaksOff aim limit max_depth id first left' moved count' out out' err err'
            (run_error_of e)
        by_kind cause.Read l o f = record {
          read = p.bytes ++ (now.ahead ++ read);
          reads = all;
          size = fits (2 ^ 62 + 1) (let w = f.within in omega arith);
          stands = record {
            pieces = p.pieces;
            each = all_but_last p.given read (going cause.Read l o) f.uncut;
            verdicts = p.verdicts;
            written = p.written;
          };
        }
        by_kind cause.OutOfMemory l o f = record {
          read = p.bytes ++ (now.ahead ++ read);
          reads = all;
          size = fits (2 ^ 62 + 1) (omega arith);
          stands = known first left' moved count' (p.bytes ++ (now.ahead ++ read)) (λ whole.
              BeginsFirst aim limit max_depth id whole out out' err err') all
              (λ rest end.
              let others = goes_on p.given (read ++ rest) (λ ended.
              absurd (both_ways now.ended (going cause.OutOfMemory l o) ended)) in
              let shape : p.bytes ++ (now.ahead ++ (read ++ rest))
              ≡ (p.bytes ++ (now.ahead ++ read)) ++ rest =
              ap (λ t. p.bytes ++ t) (sym (append_assoc now.ahead read rest))
              ∙ sym (append_assoc p.bytes (now.ahead ++ read) rest) in
              record {
                pieces = p.pieces ++ others.0;
                each = subst (λ t.
                    AreMarkedPieces limit max_depth id.offset t (p.pieces ++ others.0))
                    shape others.1;
                written = begins_written p.written others.0;
              });
        }
        by_kind cause.InputTooLong l o f = record {
          read = p.bytes ++ (now.ahead ++ read);
          reads = all;
          size = fits (2 ^ 62 + 1) (let w = f.full in
              omega (
                arith,
                length-append now.ahead read,
                length-append now.ahead f.kept,
                ap length f.parted,
                length-append f.kept (f.byte ∷ []),
              ));
          stands = record {
            kept = p.bytes ++ (now.ahead ++ f.kept);
            byte = f.byte;
            parted =
                ap (λ t. p.bytes ++ (now.ahead ++ t)) f.parted
                ∙ ap (λ t. p.bytes ++ t) (sym (append_assoc now.ahead f.kept (f.byte ∷ [])))
                ∙ sym (append_assoc p.bytes (now.ahead ++ f.kept) (f.byte ∷ []));
            full = let w = f.full in let q = p.given.place in
                omega (arith, length-append p.bytes (now.ahead ++ f.kept));
            written = record {
              pieces = p.pieces;
              each = all_but_last p.given f.kept (going cause.InputTooLong l o) f.uncut;
              verdicts = p.verdicts;
              written = p.written;
            };
          };
        }
        by_kind cause.Failed l o f = absurd (o refl)
