-- What is reported of pieces in a row, written up to somewhere.
use Rattle.pgn_extract.proofs.Common.{ℕ, ◌+◌, List, ◌++◌, length, take, Option, refl, sym, ap, ◌∙◌}
use Rattle.pgn_extract.proofs.Common.{subst, arith, append_assoc, Appends, Keeps, take_all}
use Rattle.pgn_extract.proofs.Common.{take-append-add, MarkedPiece, Begins, AppendsFront, Writes}
use Rattle.pgn_extract.proofs.Common.{Verdict, Aim}
use Rattle.pgn_extract.proofs.VerdictFacts.{output_text-append, fault_lines-append, verdicts-append}
use Rattle.pgn_extract.proofs.Writing.{appends_join, appends_kept}

-- some bytes, and a beginning of others
pub front_join : (old mid new : Option (List ℕ)) (xs ys : List ℕ) → Appends old mid xs
    → AppendsFront mid new ys → AppendsFront old new (xs ++ ys)
front_join old mid new xs ys whole front = (
  length xs + front.0,
  subst (Appends old new) (sym (take-append-add xs ys front.0))
      (appends_join old mid new xs (take front.0 ys) whole front.1),
)

-- all of the bytes are a beginning of them
pub front_all : (old new : Option (List ℕ)) (xs : List ℕ) → Appends old new xs
    → AppendsFront old new xs
front_all old new xs whole =
    (length xs, subst (Appends old new) (sym (take_all (length xs) xs (omega arith))) whole)

module _ {aim : Aim} {out out' err err' : Option (List ℕ)} {number : ℕ} {pieces : List MarkedPiece}
    {verdicts : List Verdict}
    (verdict : Writes aim out out' err err' number pieces verdicts) where
  -- what is reported stays
  pub says_kept : {out'' err'' : Option (List ℕ)} → Keeps out' out'' → Keeps err' err''
      → Writes aim out out'' err err'' number pieces verdicts
  says_kept {out''} {err''} out_kept err_kept = record {
    each = verdict.each;
    output = appends_kept out out' out'' _ verdict.output out_kept;
    faults = appends_kept err err' err'' _ verdict.faults err_kept;
  }

  -- more pieces are reported
  pub writes_more : {out'' err'' : Option (List ℕ)} (own : List MarkedPiece) (others : List Verdict)
      → Writes aim out' out'' err' err'' (number + length pieces) own others
      → Writes aim out out'' err err'' number (pieces ++ own) (verdicts ++ others)
  writes_more {out''} {err''} own others more = record {
    each = verdicts-append aim number pieces own verdicts others verdict.each more.each;
    output =
        subst (Appends out out'') (sym (output_text-append verdicts others))
        (appends_join out out' out'' _ _ verdict.output more.output);
    faults =
        subst (Appends err err'') (sym (fault_lines-append verdicts others))
        (appends_join err err' err'' _ _ verdict.faults more.faults);
  }

  -- what is reported is a beginning
  pub begins_written : (others : List MarkedPiece)
      → Begins aim out out' err err' number (pieces ++ others)
  begins_written others = record {
    before = pieces;
    after = others;
    parted = refl;
    verdicts = verdicts;
    each = verdict.each;
    output = front_all out out' _ verdict.output;
    faults = front_all err err' _ verdict.faults;
  }

  -- and with a beginning of more it is one still
  pub begins_more : {out'' err'' : Option (List ℕ)} (own others : List MarkedPiece)
      → Begins aim out' out'' err' err'' (number + length pieces) own
      → Begins aim out out'' err err'' number ((pieces ++ own) ++ others)
  begins_more {out''} {err''} own others more = record {
    before = pieces ++ more.before;
    after = more.after ++ others;
    parted =
        ap (λ t. (pieces ++ t) ++ others) more.parted
        ∙ append_assoc pieces (more.before ++ more.after) others
        ∙ ap (λ t. pieces ++ t) (append_assoc more.before more.after others)
        ∙ sym (append_assoc pieces more.before (more.after ++ others));
    verdicts = verdicts ++ more.verdicts;
    each = verdicts-append aim number pieces more.before verdicts more.verdicts verdict.each
        more.each;
    output =
        subst (AppendsFront out out'') (sym (output_text-append verdicts more.verdicts))
        (front_join out out' out'' _ _ verdict.output more.output);
    faults =
        subst (AppendsFront err err'') (sym (fault_lines-append verdicts more.verdicts))
        (front_join err err' err'' _ _ verdict.faults more.faults);
  }
