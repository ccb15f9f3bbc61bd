-- How a run ends: as the run over its blocks does, once the bytes before its begin are dropped.
use Rattle.std.specs.Prelude.{Some, None, Ok, Err}
use Rattle.pgn_extract.proofs.Common.{◌≡◌, ℕ, ◌≤◌, true, List, ◌∷◌, drop, sym, subst, Option}
use Rattle.pgn_extract.proofs.Common.{Result, IfOk, IfErr, IfSome, largest_offset, AreMarkedPieces}
use Rattle.pgn_extract.proofs.Common.{resumed_pieces, Drops, DropsSome, EndsBlocks, BreaksOff}
use Rattle.pgn_extract.proofs.Common.{AreEntries, listing, entries_at_least, Job, Io, Adds}
use Rattle.pgn_extract.proofs.Common.{Completes, Lists, RunError, Read, Summary}
use Rattle.pgn_extract.specs.Public.Runs.{FaultsAre, IsRun}
use Rattle.pgn_extract.proofs.ExactEntries.{are_entries}
use Rattle.pgn_extract.proofs.ModeOutputs.{of_pieces}
use Rattle.pgn_extract.proofs.OneListing.{one_listing, rest_entries}
use Rattle.pgn_extract.proofs.engine.WholeRun.{ends_whole, skip_stands, stands_whole}
use Rattle.pgn_extract.specs.declared.settings.Mode.TheVariants as mode

module _ (job : Job) (io : Io) where
  -- a run for the listing wrote it; begun at a mark it is the whole listing from there on
  lists_of : (whole : List ℕ) (summary : Summary) → Completes job io whole summary
      → job.aim.mode ≡ mode.List → Lists job io whole
  lists_of whole summary done is =
      let (entries, rows, text) =
      of_pieces job.aim is job.id.number done.pieces done.verdicts done.written.each in
      let own = are_entries job.aim job.id.number done.pieces entries rows in
      let listed : Adds io.out (listing job.aim.name entries) =
      subst (Adds io.out) text done.written.output in record {
        pieces = done.pieces;
        each = done.each;
        entries = entries;
        are = own;
        listed = listed;
        rest = λ all each mark found are.
            let rest = mark.piece ∷ mark.after in
            let same : done.pieces ≡ rest = resumed_pieces job.limit job.max_depth whole
            mark.before mark.piece mark.after done.pieces
            (subst (AreMarkedPieces job.limit job.max_depth 0 whole) mark.parted each)
            (subst (λ o. AreMarkedPieces job.limit job.max_depth o (drop o whole) done.pieces)
            mark.placed done.each) in
            let kept : AreEntries job.aim job.id.number rest
            (entries_at_least job.id.number found) =
            subst (λ n. AreEntries job.aim n rest (entries_at_least n found)) (sym mark.numbered)
            (rest_entries job.aim mark.before rest 1 found
            (subst (λ p. AreEntries job.aim 1 p found) mark.parted are)) in
            let one = one_listing job.aim job.id.number rest entries
            (entries_at_least job.id.number found)
            (subst (λ p. AreEntries job.aim job.id.number p entries) same own) kept in
            subst (λ e. Adds io.out (listing job.aim.name e)) one listed;
      }

  -- so it is of an input whose bytes may be known
  listed_of : (input : Option (List ℕ)) (summary : Summary)
      → IfSome input (λ whole. Completes job io whole summary)
      → IfSome input (λ whole. job.aim.mode ≡ mode.List → Lists job io whole)
  listed_of None summary done = tt
  listed_of (Some whole) summary done = lists_of whole summary done

  -- a run ends as the run over its blocks, where those before its begin were dropped
  pub ended : (result : Result Summary RunError) {mid : Option (List ℕ)} {count : ℕ}
      → io.input.old.moved ≡ 0 → job.id.offset ≤ largest_offset
      → Drops io.input.old.bytes mid io.input.old.moved count job.id.offset
      → IfOk result (λ summary.
      EndsBlocks job.aim job.limit job.max_depth job.id mid io.input.new.bytes count
      io.input.new.moved
      io.out.old.bytes io.out.new.bytes io.err.old.bytes io.err.new.bytes summary
      × (io.out.new.flushed ≡ true) × (io.err.new.flushed ≡ true)) → IfErr result
      (BreaksOff job.aim job.limit job.max_depth job.id mid io.input.new.bytes count
      io.input.new.moved
      io.out.old.bytes io.out.new.bytes io.err.old.bytes io.err.new.bytes)
      → FaultsAre result io → IsRun job io result
  ended (Ok summary) zero small drops ends breaks faults =
      let done = ends_whole job io _ _ _ drops ends.0 in record {
        done = (done, ends.1, ends.2);
        lists = listed_of io.input.old.bytes summary done;
        stopped = tt;
        faults = faults;
      }
  ended (Err error) zero small drops ends breaks faults = record {
    done = tt;
    lists = tt;
    stopped = stands_whole job io _ _ _ error zero small drops breaks;
    faults = faults;
  }

  -- or with a read that failed among them
  pub not_begun : {last : Option (List ℕ)} {moved : ℕ} (error : RunError) → error ≡ Read → moved ≡ 0
      → job.id.offset ≤ largest_offset
      → io.out.new.bytes ≡ io.out.old.bytes → io.err.new.bytes ≡ io.err.old.bytes
      → DropsSome io.input.old.bytes last moved io.input.new.moved job.id.offset
      → FaultsAre (Err error) io → IsRun job io (Err error)
  not_begun error is zero small same_out same_err drops faults = record {
    done = tt;
    lists = tt;
    stopped = skip_stands job io _ _ error is zero small same_out same_err drops;
    faults = faults;
  }
