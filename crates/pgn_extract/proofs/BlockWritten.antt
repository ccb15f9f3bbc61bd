-- One block reported, or a beginning of it.
use Rattle.std.proofs.lemmas.List.{append-nil}
use Rattle.pgn_extract.proofs.Common.{◌≡◌, ℕ, false, List, [], Option, Ok, refl, sym, subst, inl}
use Rattle.pgn_extract.proofs.Common.{inr, false_from_ne_true, Appends, GathersBlock, WritesBlock}
use Rattle.pgn_extract.proofs.Common.{BeginsBlock, AppendsFront, Passage, Report, Aim, GameId}
use Rattle.pgn_text.proofs.MarkedPieces.{of_block_exist}
use Rattle.pgn_extract.specs.Private.RunParts.{WriteFaultsAre}
use Rattle.pgn_extract.proofs.engine.Gathered.{gathers_begun}
use Rattle.pgn_extract.proofs.Writing.{appends_none, appends_join}

-- nothing is a beginning
pub front_none : (old : Option (List ℕ)) (bytes : List ℕ) → AppendsFront old old bytes
front_none old bytes = (0, appends_none old)

-- where no write failed, both writers are sound
pub written_soundly : {A : Type 0} {answer : A} {out err : Passage}
    → WriteFaultsAre (Ok answer) out err → (out.new.faulted ≡ false) × (err.new.faulted ≡ false)
written_soundly faults = (
  false_from_ne_true _ (λ is. let k = faults.write.1 (inl is) in cc),
  false_from_ne_true _ (λ is. let k = faults.write.1 (inr is) in cc),
)

-- a block of which nothing is reported
pub begins_none : (aim : Aim) (limit max_depth : ℕ) (id : GameId) (block : List ℕ)
    (out err : Option (List ℕ)) → BeginsBlock aim limit max_depth id block out out err err
begins_none aim limit max_depth id block out err =
    let own = of_block_exist limit max_depth id.offset block in
    record {
      own = own.0;
      each = own.1;
      written = record {
        before = [];
        after = own.0;
        parted = refl;
        verdicts = [];
        each = refl;
        output = front_none out _;
        faults = front_none err _;
      };
    }

module _ {aim : Aim} {report : Report} {limit max_depth : ℕ} {id : GameId} {block : List ℕ}
    {out out' err err' : Option (List ℕ)}
    (of : GathersBlock aim report limit max_depth id block out out' err err') where
  -- a block whose report is written to its end
  pub writes_rest : {out'' err'' : Option (List ℕ)} → Appends out' out'' report.output.items
      → Appends err' err'' report.faults.items
      → WritesBlock aim limit max_depth id block out out'' err err''
      (record {
        games = report.games;
        faulty = report.faulty;
        unplayed = report.unplayed;
        met = report.met;
      })
  writes_rest {out''} {err''} output faults = record {
    own = of.own;
    each = of.each;
    verdicts = of.written.verdicts;
    written = record {
      each = of.written.each;
      output =
          subst (Appends out out'') of.written.output
          (appends_join out out' out'' of.written.first_output report.output.items
          of.written.out_grew output);
      faults =
          subst (Appends err err'') of.written.faults
          (appends_join err err' err'' of.written.first_faults report.faults.items
          of.written.err_grew faults);
    };
    same = of.written.same;
    games = of.written.games;
    faulty = of.written.faulty;
    few = of.few;
  }

  -- a block whose report is written up to somewhere
  pub begins_rest : {out'' err'' : Option (List ℕ)} → AppendsFront out' out'' report.output.items
      → AppendsFront err' err'' report.faults.items
      → BeginsBlock aim limit max_depth id block out out'' err err''
  begins_rest output faults = record {
    own = of.own;
    each = of.each;
    written = gathers_begun of.written of.own [] (sym (append-nil of.own)) output faults;
  }
