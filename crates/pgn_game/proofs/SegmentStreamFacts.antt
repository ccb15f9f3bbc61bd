-- What the bytes that are held show of the segment in front, before all that follow are read.
use Rattle.std.proofs.Common.{◌≡◌, ◌≢◌, ℕ, zero, suc, ◌+◌, ◌<◌, ◌≤◌, Bool, true, false, cond, eqb}
use Rattle.std.proofs.Common.{ltb, List, [], ◌∷◌, ◌++◌, length, take, drop, Option, Some, None}
use Rattle.std.proofs.Common.{Result, Ok, Err, refl, sym, ap, subst, ◌∙◌, append_assoc, append-nil}
use Rattle.std.proofs.Common.{arith, inl, inr}
use Rattle.std.specs.Prelude.{IfSome}
use Rattle.std.specs.Int.{w64, from_be_bytes}
use Rattle.std.specs.Io.KnownBytes.{Consumes, IsAtEnd}
use Rattle.std.proofs.KnownBytes.{Consumes-trans}
use Rattle.std.proofs.lemmas.Bool.{le-ltb, lt-ltb}
use Rattle.std.proofs.lemmas.List.{length-append, length-take, length-drop, drop_at, take-append-le}
use Rattle.std.proofs.lemmas.List.{drop-append-le}
use Rattle.pgn_game.specs.declared.pack.error.SegmentError.{SegmentError}
use Rattle.pgn_game.specs.declared.pack.error.SegmentError.TheVariants.{CutShort, DamagedFront}
use Rattle.pgn_game.specs.declared.pack.error.SegmentError.TheVariants.{DamagedBody}
use Rattle.pgn_game.specs.Private.PackSteps.{ReadsOn}
use Rattle.pgn_game.specs.Public.Segments.{check_of, sealed, front_bytes, FitsSegment, records_in}
use Rattle.pgn_game.specs.Public.Segments.{Segment, segment_text, and_then, unsealed_at, numbers_of}
use Rattle.pgn_game.specs.Public.Segments.{front_at, segment_at}
use Rattle.pgn_game.proofs.SealFacts.{unsealed_or_told, ok_is, sealed_long}
use Rattle.pgn_game.proofs.SegmentFacts.{segment_long}

-- what is read of bytes, where more come after them
abbrev pub with_more : {A : Type 0} → List ℕ → Result (A × List ℕ) SegmentError
    → Result (A × List ℕ) SegmentError
with_more more (Ok x) = Ok (x.0, x.1 ++ more)
with_more more (Err e) = Err e

on_branch : (b : Bool) (body rest more : List ℕ) (fault : SegmentError)
    → cond b (Ok (body, rest ++ more)) (Err fault) ≡ with_more more (cond b (Ok (body, rest))
    (Err fault))
on_branch true body rest more fault = refl
on_branch false body rest more fault = refl

pub unsealed_more : (fault : SegmentError) (size : ℕ) (bytes more : List ℕ)
    → size + 8 ≤ length bytes → unsealed_at fault size (bytes ++ more) ≡ with_more more
    (unsealed_at fault size bytes)
unfolding unsealed_at
unsealed_more fault size bytes more le =
    let long : ltb (length (bytes ++ more)) (size + 8) ≡ false = le-ltb _ _ (omega
    (arith, le, length-append bytes more)) in
    let own : ltb (length bytes) (size + 8) ≡ false = le-ltb _ _ le in
    let front : take size (bytes ++ more) ≡ take size bytes = take-append-le size bytes more (omega
    (arith, le)) in
    let rest : drop size (bytes ++ more) ≡ drop size bytes ++ more = drop-append-le size bytes more
    (omega (arith, le)) in
    let eight : 8 ≤ length (drop size bytes) = omega (arith, le, length-drop size bytes) in
    let check : take 8 (drop size bytes ++ more) ≡ take 8 (drop size bytes) = take-append-le 8
    (drop size bytes) more eight in
    let after : drop 8 (drop size bytes ++ more) ≡ drop 8
    (drop size bytes) ++ more = drop-append-le 8 (drop size bytes) more eight in
    rw (long, own, front, rest, check, after) (on_branch (eqb (from_be_bytes w64 (take 8
    (drop size bytes))) (check_of (take size bytes))) (take size bytes) (drop 8
    (drop size bytes)) more fault)

-- a text that is shorter than it should be
pub unsealed_short : (fault : SegmentError) (size : ℕ) (bytes : List ℕ) → length bytes < size + 8
    → unsealed_at fault size bytes ≡ Err CutShort
unfolding unsealed_at
unsealed_short fault size bytes lt =
    let short : ltb (length bytes) (size + 8) ≡ true = lt-ltb _ _ lt in rw short refl

numbers_more : (numbers : Result (ℕ × ℕ) SegmentError) (rest more : List ℕ)
    → and_then numbers (λ numbers. Ok (numbers, rest ++ more)) ≡ with_more more (and_then numbers
    (λ numbers. Ok (numbers, rest)))
numbers_more (Ok n) rest more = refl
numbers_more (Err e) rest more = refl

front_step : (front : Result (List ℕ × List ℕ) SegmentError) (more : List ℕ)
    → and_then (with_more more front) (λ front. and_then (numbers_of front.0) (λ numbers. Ok
    (numbers, front.1)))
    ≡ with_more more (and_then front (λ front. and_then (numbers_of front.0) (λ numbers. Ok
    (numbers, front.1))))
front_step (Ok x) more = numbers_more (numbers_of x.0) x.1 more
front_step (Err e) more = refl

pub front_more : (bytes more : List ℕ) → 24 ≤ length bytes
    → front_at (bytes ++ more) ≡ with_more more (front_at bytes)
unfolding front_at
front_more bytes more le = rw (unsealed_more DamagedFront 16 bytes more le) (front_step
    (unsealed_at DamagedFront 16 bytes) more)

-- ---- the whole

pub front_short : (bytes : List ℕ) → length bytes < 24 → front_at bytes ≡ Err CutShort
unfolding front_at
front_short bytes lt = rw (unsealed_short DamagedFront 16 bytes lt) refl

-- a front that is cut short, or bad, is the fault of the whole
pub front_cut : (bytes : List ℕ) → length bytes < 24 → segment_at bytes ≡ Err CutShort
unfolding segment_at front_at
front_cut bytes lt = rw (unsealed_short DamagedFront 16 bytes lt) refl

pub front_bad : (bytes more : List ℕ) (e : SegmentError) → 24 ≤ length bytes
    → front_at bytes ≡ Err e → segment_at (bytes ++ more) ≡ Err e
unfolding segment_at
front_bad bytes more e le is = rw (front_more bytes more le, is) refl

-- what is read, where the front is this one
abbrev pub body_of : ℕ → Result (List ℕ × List ℕ) SegmentError
    → Result (Segment × List ℕ) SegmentError
body_of records body = and_then body (λ body. Ok
    (record { records = records; body = body.0 }, body.1))

pub by_front : (bytes rest : List ℕ) (records size : ℕ)
    → front_at bytes ≡ Ok ((records, size), rest)
    → segment_at bytes ≡ body_of records (unsealed_at DamagedBody size rest)
unfolding segment_at
by_front bytes rest records size is = rw is refl

module _ (front : List ℕ) (records size : ℕ) (long : length front ≡ 24) (is : front_at front ≡ Ok
    ((records, size), [])) where
  after_front : (read : List ℕ) → segment_at (front ++ read) ≡ body_of records
      (unsealed_at DamagedBody size read)
  after_front read = by_front (front ++ read) read records size (front_more front read (omega
      (arith, long)) ∙ ap (with_more read) is)

  pub body_cut : (read : List ℕ) → length read < size + 8
      → segment_at (front ++ read) ≡ Err CutShort
  body_cut read lt = after_front read ∙ ap (body_of records)
      (unsealed_short DamagedBody size read lt)

  pub body_bad : (read more : List ℕ) (e : SegmentError) → length read ≡ size + 8
      → segment_at (front ++ read) ≡ Err e → segment_at ((front ++ read) ++ more) ≡ Err e
  body_bad read more e enough bad =
      ap segment_at (append_assoc front read more) ∙ after_front (read ++ more)
      ∙ ap (body_of records) (unsealed_more DamagedBody size read more (omega (arith, enough)))
      ∙ kept (unsealed_at DamagedBody size read) (sym (after_front read) ∙ bad)
    where
      kept : (r : Result (List ℕ × List ℕ) SegmentError) → body_of records r ≡ Err e
          → body_of records (with_more more r) ≡ Err e
      kept (Ok x) e = absurd cc
      kept (Err d) e = e

  pub body_ends : (read rest : List ℕ) (segment : Segment) → length read ≡ size + 8
      → segment_at (front ++ read) ≡ Ok (segment, rest) → rest ≡ []
  body_ends read rest segment enough good =
      elim (unsealed_or_told DamagedBody size read (omega (arith, enough))) as (λ w. rest ≡ []) [
        | inl told ↦ absurd (apart (sym (ap (body_of records) told) ∙ sym (after_front read)
            ∙ good))
        | inr found ↦ none_left (drop 8 (drop size read)) (omega (
          arith,
          enough,
          length-drop 8
              (drop size read),
          length-drop size read,
        ))
            (sym (ap (body_of records) found) ∙ sym (after_front read) ∙ good)
      ]
    where
      apart : body_of records (Err DamagedBody) ≡ Ok (segment, rest) → ⊥
      apart e = cc

      none_left : (left : List ℕ) → length left ≡ 0
          → body_of records (Ok (take size read, left)) ≡ Ok (segment, rest) → rest ≡ []
      none_left [] none e = ap (λ (p : Segment
          × List ℕ). p.1) (sym (ok_is (record { records = records; body = take size read }, [])
          (segment, rest) e))
      none_left (x ∷ left) none e = absurd (omega (arith, none))

-- ---- the whole, from what is held of it

-- what holds of the bytes that are read and those that are left holds of the whole
pub of_all : (left left' : Option (List ℕ)) (read : List ℕ) (Q : List ℕ → Type 0)
    → Consumes left left' read → ((rest : List ℕ) → Q (read ++ rest)) → IfSome left Q
of_all None left' read Q taken found = tt
of_all (Some whole) None read Q taken found = absurd taken
of_all (Some whole) (Some rest) read Q taken found = subst Q (sym taken) (found rest)

pub of_end : (left left' : Option (List ℕ)) (read : List ℕ) (Q : List ℕ → Type 0)
    → Consumes left left' read → IsAtEnd left' → Q read → IfSome left Q
of_end None left' read Q taken end is = tt
of_end (Some whole) None read Q taken end is = absurd taken
of_end (Some whole) (Some rest) read Q taken end is = subst Q (sym (append-nil read)
    ∙ ap (λ (r : List ℕ). read ++ r) (sym end) ∙ sym taken) is

-- bytes of some length are some
pub some : (bytes : List ℕ) → 0 < length bytes → bytes ≢ []
some bytes lt e = omega (arith, lt, ap length e)

-- nothing stands after the front that is held
pub no_more : (held rest : List ℕ) → length held ≡ 24 → rest ≡ drop 24 held → rest ≡ []
no_more held rest long is = nothing rest (omega (arith, long, ap length is, length-drop 24 held))
  where
    nothing : (rest : List ℕ) → length rest ≡ 0 → rest ≡ []
    nothing [] e = refl
    nothing (x ∷ rest) e = absurd (omega (arith, e))

abbrev IsFault : SegmentError → List ℕ → Type 0
IsFault fault whole = (whole ≢ []) × (segment_at whole ≡ Err fault)

-- ---- the faults of what was left

module _ {left left' : Option (List ℕ)} {old held : List ℕ} (empty : old ≡ [])
    (on : ReadsOn old held left left') where
  taken : Consumes left left' held
  taken = subst (Consumes left left') (sym (on.joined
      ∙ ap (λ (o : List ℕ). o ++ on.read) empty)) on.bytes

  pub none_left : length held ≡ 0 → IsAtEnd left' → Consumes left left' [] × IsAtEnd left'
  none_left none end = (subst (Consumes left left') (nothing held none) taken, end)
    where
      nothing : (held : List ℕ) → length held ≡ 0 → held ≡ []
      nothing [] e = refl
      nothing (x ∷ held) e = absurd (omega (arith, e))

  pub cut_front : length held < 24 → 0 < length held → IsAtEnd left'
      → IfSome left (IsFault CutShort)
  cut_front lt gt end = of_end left left' held (IsFault CutShort) taken end
      (some held gt, front_cut held lt)

  pub bad_front : (e : SegmentError) → length held ≡ 24 → front_at held ≡ Err e
      → IfSome left (IsFault e)
  bad_front e long is = of_all left left' held (IsFault e) taken (λ rest. (
    some (held ++ rest) (omega (arith, long, length-append held rest)),
    front_bad held rest e (omega (arith, long)) is,
  ))

  module _ {left'' : Option (List ℕ)} {whole after : List ℕ}
      (more : ReadsOn held whole left' left'') (long : length held ≡ 24) (records size : ℕ)
      (rest : drop 24 held ≡ after) (is : front_at held ≡ Ok ((records, size), after)) where
    is_front : front_at held ≡ Ok ((records, size), [])
    is_front = is ∙ ap (λ (r : List ℕ). ok_pair ((records, size), r)) (no_more held after long
        (sym rest))
      where
        ok_pair : (ℕ × ℕ) × List ℕ → Result ((ℕ × ℕ) × List ℕ) SegmentError
        ok_pair p = Ok p

    pub all_taken : Consumes left left'' whole
    all_taken = subst (Consumes left left'') (sym more.joined)
        (Consumes-trans left left' left'' held more.read taken more.bytes)

    more_long : length whole ≡ 24 + length more.read
    more_long = omega (arith, long, ap length more.joined, length-append held more.read)

    pub cut_body : length whole < 24 + size + 8 → IsAtEnd left'' → IfSome left (IsFault CutShort)
    cut_body lt end = of_end left left'' whole (IsFault CutShort) all_taken end (
      some whole (omega (arith, more_long)),
      ap segment_at more.joined ∙ body_cut held records size long is_front more.read (omega
          (arith, more_long, lt)),
    )

    pub bad_body : (e : SegmentError) → length whole ≡ 24 + size + 8 → segment_at whole ≡ Err e
        → IfSome left (IsFault e)
    bad_body e full bad = of_all left left'' whole (IsFault e) all_taken (λ rest. (
      some (whole ++ rest) (omega (arith, more_long, length-append whole rest)),
      ap (λ (w : List ℕ). segment_at (w ++ rest)) more.joined
          ∙ body_bad held records size long is_front more.read rest e (omega
          (arith, more_long, full)) (ap segment_at (sym more.joined) ∙ bad),
    ))

    pub whole_body : (segment : Segment) (after : List ℕ) → length whole ≡ 24 + size + 8
        → segment_at whole ≡ Ok (segment, after) → whole ≡ segment_text segment ++ after
        → whole ≡ segment_text segment
    whole_body segment after full good text =
        let none = body_ends held records size long is_front more.read after segment (omega
        (arith, more_long, full)) (ap segment_at (sym more.joined) ∙ good) in
        text ∙ ap (λ (r : List ℕ). segment_text segment ++ r) none
        ∙ append-nil (segment_text segment)

-- ---- the records of what is held

front_long : (segment : Segment) → length (sealed (front_bytes segment.records
    (length segment.body))) ≡ 24
unfolding front_bytes
front_long segment = sealed_long (front_bytes segment.records (length segment.body))

-- they stand after the front, and are no more than the body
pub records_held : (segment : Segment) (held : List ℕ) → FitsSegment segment
    → held ≡ segment_text segment
    → (take (length (records_in segment)) (drop 24 held) ≡ records_in segment)
    × (24 + length (records_in segment) ≤ length held)
records_held segment held fits is =
    let front = sealed (front_bytes segment.records (length segment.body)) in
    let count = length (records_in segment) in
    let size : length front ≡ 24 = front_long segment in
    let few : count ≤ length segment.body = omega
    (arith, length-take segment.records segment.body) in
    let after : drop 24 held ≡ sealed segment.body = ap (drop 24) is
    ∙ drop_at front (sealed segment.body) 24 size in
    let own : take count (sealed segment.body) ≡ take count segment.body = take-append-le count
    segment.body _ few in
    let min : take count segment.body ≡ records_in segment = take_again segment.records segment.body
    in
    (ap (take count) after ∙ own ∙ min, omega (arith, few, ap length is, segment_long segment))
  where
    take_again : (n : ℕ) (xs : List ℕ) → take (length (take n xs)) xs ≡ take n xs
    take_again zero xs = refl
    take_again (suc n) [] = refl
    take_again (suc n) (x ∷ xs) = ap (λ (t : List ℕ). x ∷ t) (take_again n xs)

pub records_are : (segment : Segment) (held : List ℕ) (count : ℕ) → FitsSegment segment
    → held ≡ segment_text segment → count ≡ length (records_in segment)
    → (take count (drop 24 held) ≡ records_in segment) × (24 + count ≤ length held)
records_are segment held count fits is of =
    subst (λ (n : ℕ). (take n (drop 24 held) ≡ records_in segment)
    × (24 + n ≤ length held)) (sym of) (records_held segment held fits is)
