-- Bytes dropped from the front of an input.
use Rattle.std.proofs.Common.{◌≡◌, ℕ, ◌+◌, ◌-◌, ◌^◌, ◌≤◌, min, Bool, false, List, ◌++◌, length}
use Rattle.std.proofs.Common.{Option, Some, None, ap, ◌∙◌, sym, arith, length-append}
use Rattle.std.proofs.lemmas.List.{append-nil}
use Rattle.pgn_extract.proofs.Common.{IfSome, Consumes, IsAtEnd, Reads, Drops, DropsSome}
use Rattle.pgn_text.proofs.Joined.{reads_join, reads_counted}

-- some bytes are dropped, and so many are to be dropped still
pub record Dropping (first now : Option (List ℕ)) (moved count most left : ℕ)
    (faulted : Bool) : Type 0 where
  pub dropped : List ℕ
  pub reads : Reads first now moved count dropped
  pub size : length dropped + left ≡ most
  pub sound : faulted ≡ false

-- an input that loses all of its bytes in two turns
lost_twice : (first mid last : Option (List ℕ)) (front back : List ℕ) → Consumes first mid front
    → IfSome mid (λ whole. whole ≡ back) → IfSome first (λ whole. whole ≡ front ++ back)
lost_twice None mid last front back passes all = tt
lost_twice (Some xs) None last front back passes all = absurd passes
lost_twice (Some xs) (Some ys) last front back passes all = passes ∙ ap (λ t. front ++ t) all

module _ {first mid last : Option (List ℕ)} {moved count moved' passed most : ℕ} (front : List ℕ)
    (passes : Consumes first mid front) (size : length front ≡ passed)
    (counted : count ≡ min (moved + passed) (2 ^ 64 - 1)) (fits : passed ≤ most) where
  -- some bytes passed over, and the others dropped
  pub drops_after : Drops mid last count moved' (most - passed) → Drops first last moved moved' most
  drops_after d = record {
    dropped = front ++ d.dropped;
    reads = reads_join first mid last moved count moved' front d.dropped
        (reads_counted first mid moved count passed front passes counted (sym size)) d.reads;
    within = (let w = d.within in omega (arith, length-append front d.dropped));
    end = λ less. lost_twice first mid last front d.dropped passes
        (d.end (omega (arith, length-append front d.dropped)));
  }

  -- or some of them, where a read failed
  pub drops_some_after : DropsSome mid last count moved' (most - passed)
      → DropsSome first last moved moved' most
  drops_some_after d = record {
    dropped = front ++ d.dropped;
    reads = reads_join first mid last moved count moved' front d.dropped
        (reads_counted first mid moved count passed front passes counted (sym size)) d.reads;
    within = (let w = d.within in omega (arith, length-append front d.dropped));
  }

-- an input that is known and at its end had the bytes that were read
pub all_read : (first last : Option (List ℕ)) (moved moved' : ℕ) (read : List ℕ)
    → Reads first last moved moved' read → IsAtEnd last → IfSome first (λ whole. whole ≡ read)
all_read None last moved moved' read r end = tt
all_read (Some xs) None moved moved' read r end = absurd r.bytes
all_read (Some xs) (Some ys) moved moved' read r end =
    r.bytes ∙ ap (λ t. read ++ t) end ∙ append-nil read

module _ {first now : Option (List ℕ)} {moved count most left : ℕ} {faulted : Bool}
    (d : Dropping first now moved count most left faulted) where
  -- one read more
  pub dropping_more : {last : Option (List ℕ)} {moved' size : ℕ} {faulted' : Bool} (read : List ℕ)
      → Consumes now last read → moved' ≡ min (count + size) (2 ^ 64 - 1)
      → size ≡ length read → size ≤ left → faulted' ≡ false
      → Dropping first last moved moved' most (left - size) faulted'
  dropping_more {last} {moved'} {size} {faulted'} read bytes counted is fits sound = record {
    dropped = d.dropped ++ read;
    reads = reads_join first now last moved count moved' d.dropped read d.reads
        (reads_counted now last count moved' size read bytes counted is);
    size = let s = d.size in omega (arith, length-append d.dropped read);
    sound = sound;
  }
