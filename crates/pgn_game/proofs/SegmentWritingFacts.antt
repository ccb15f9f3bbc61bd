-- One segment more in a pack, and its records.
use Rattle.std.proofs.Common.{◌≡◌, ℕ, zero, suc, ◌+◌, ◌-◌, ◌<◌, ◌≤◌, List, [], ◌∷◌, ◌++◌, length}
use Rattle.std.proofs.Common.{take, drop, Option, Some, None, Result, Ok, Err, refl, sym, ap, subst}
use Rattle.std.proofs.Common.{◌∙◌, append_assoc, append-nil, arith, inl, inr, take-append-drop}
use Rattle.std.proofs.Common.{length-append, take_all}
use Rattle.std.specs.Prelude.{option_map, option_and_then}
use Rattle.std.specs.Io.KnownBytes.{Appends, Keeps, append_known}
use Rattle.std.proofs.lemmas.Bool.{cases_lt}
use Rattle.std.specs.List.{AllByRecursion}
use Rattle.std.proofs.KnownBytes.{append_known-moved, Keeps-refl}
use Rattle.std.proofs.lemmas.List.{length-take, length-drop, drop-drop, drop_at}
use Rattle.std.proofs.lemmas.List.Concat.{flat_map-cons}
use Rattle.pgn_game.specs.declared.pack.error.SegmentError.{SegmentError}
use Rattle.pgn_game.specs.declared.pack.error.SegmentError.TheVariants.{DamagedBody}
use Rattle.pgn_game.specs.Public.Residues.{AreBytes}
use Rattle.pgn_game.specs.Public.Segments.{Segment, FitsSegment, largest_body, and_then, front_at}
use Rattle.pgn_game.specs.Public.Segments.{pack_text, records_in, segment_at, segment_text}
use Rattle.pgn_game.specs.Public.Segments.{unsealed_at}
use Rattle.pgn_game.specs.Public.SegmentWriting.{ArePackOf, RecordsOfAPack, RecordsAreOfAPack}
use Rattle.pgn_game.specs.Public.SegmentWriting.{all_records, records_from, records_of}
use Rattle.pgn_game.specs.Public.SegmentWriting.{records_within}
use Rattle.pgn_game.proofs.SealFacts.{ok_is}
use Rattle.pgn_game.proofs.ResidueFacts.{AreBytes-drop, AreBytes-take}
use Rattle.pgn_game.proofs.SegmentFacts.{bind_ok, segment_again, segment_long, segment_takes}
use Rattle.pgn_game.proofs.SegmentStreamFacts.{with_more, unsealed_more, unsealed_short, front_more}
use Rattle.pgn_game.proofs.SegmentStreamFacts.{front_short, body_of, by_front}

abbrev some : List ℕ → Option (List ℕ)
some xs = Some xs

-- ---- what is read, where more comes after it

unsealed_on : (fault : SegmentError) (size : ℕ) (bytes more : List ℕ) (x : List ℕ × List ℕ)
    → unsealed_at fault size bytes ≡ Ok x → unsealed_at fault size (bytes ++ more) ≡ Ok
    (x.0, x.1 ++ more)
unsealed_on fault size bytes more x is =
    elim (cases_lt (length bytes) (size + 8)) as (λ w. unsealed_at fault size (bytes ++ more) ≡ Ok
    (x.0, x.1 ++ more)) [
      | inl lt ↦ absurd (apart (sym (unsealed_short fault size bytes lt) ∙ is))
      | inr le ↦ unsealed_more fault size bytes more le ∙ ap (with_more more) is
    ]
  where
    apart : {d : SegmentError} → Err d ≡ Ok x → ⊥
    apart e = cc

front_on : (bytes more : List ℕ) (x : (ℕ × ℕ) × List ℕ) → front_at bytes ≡ Ok x
    → front_at (bytes ++ more) ≡ Ok (x.0, x.1 ++ more)
front_on bytes more x is =
    elim (cases_lt (length bytes) 24) as (λ w. front_at (bytes ++ more) ≡ Ok (x.0, x.1 ++ more)) [
      | inl lt ↦ absurd (apart (sym (front_short bytes lt) ∙ is))
      | inr le ↦ front_more bytes more le ∙ ap (with_more more) is
    ]
  where
    apart : {d : SegmentError} → Err d ≡ Ok x → ⊥
    apart e = cc

front_in : (bytes : List ℕ) (x : Segment × List ℕ) → segment_at bytes ≡ Ok x
    → (front : (ℕ × ℕ) × List ℕ) × (front_at bytes ≡ Ok front)
unfolding segment_at
front_in bytes x is =
    let front = bind_ok (front_at bytes) (λ front. and_then
    (unsealed_at DamagedBody front.0.1 front.1) (λ body. Ok
    (record { records = front.0.0; body = body.0 }, body.1))) x is in
    (front.0, front.1)

segment_on : (bytes more : List ℕ) (x : Segment × List ℕ) → segment_at bytes ≡ Ok x
    → segment_at (bytes ++ more) ≡ Ok (x.0, x.1 ++ more)
segment_on bytes more x is =
    let front = front_in bytes x is in
    let body = bind_ok (unsealed_at DamagedBody front.0.0.1 front.0.1) (λ body. Ok
    (record { records = front.0.0.0; body = body.0 }, body.1)) x
    (sym (by_front bytes front.0.1 front.0.0.0 front.0.0.1 front.1) ∙ is) in
    by_front (bytes ++ more) (front.0.1 ++ more) front.0.0.0 front.0.0.1
    (front_on bytes more front.0 front.1)
    ∙ ap (body_of front.0.0.0) (unsealed_on DamagedBody front.0.0.1 front.0.1 more body.0 body.1)
    ∙ ap (λ (p : Segment × List ℕ). ok_pair (p.0, p.1 ++ more)) (ok_is
    (record { records = front.0.0.0; body = body.0.0 }, body.0.1) x body.2)
  where
    ok_pair : Segment × List ℕ → Result (Segment × List ℕ) SegmentError
    ok_pair p = Ok p

-- ---- the records in bytes

none_in : (n : ℕ) → records_within n [] ≡ Some []
unfolding records_within
none_in zero = refl
none_in (suc n) = refl

nothing_in : (b : ℕ) (bytes records : List ℕ) → records_within zero (b ∷ bytes) ≡ Some records → ⊥
unfolding records_within
nothing_in b bytes records e = cc

step_in : (n : ℕ) (bytes : List ℕ) → 0 < length bytes
    → records_within (suc n) bytes ≡ records_from (segment_at bytes) (records_within n)
unfolding records_within
step_in n [] lt = absurd (omega (arith, lt))
step_in n (b ∷ bytes) lt = refl

from_some : (r : Result (Segment × List ℕ) SegmentError) (more : List ℕ
    → Option (List ℕ)) (records : List ℕ) → records_from r more ≡ Some records
    → (x : Segment × List ℕ) × (r ≡ Ok x) × (rest : List ℕ) × (more x.1 ≡ Some rest)
    × (records ≡ records_in x.0 ++ rest)
from_some (Err e) more records is = absurd (apart is)
  where
    apart : None ≡ some records → ⊥
    apart e = cc
from_some (Ok x) more records is = let m = mapped (more x.1) is in (x, refl, m.0, m.1, m.2)
  where
    mapped : (o : Option (List ℕ)) → option_map (λ
        (rest : List ℕ). records_in x.0 ++ rest) o ≡ some records
        → (rest : List ℕ) × (o ≡ Some rest) × (records ≡ records_in x.0 ++ rest)
    mapped None e = absurd cc
    mapped (Some rest) e = (rest, refl, own (records_in x.0 ++ rest) e)
      where
        own : (xs : List ℕ) → some xs ≡ some records → records ≡ xs
        own xs e = cc

more_fuel : (n m : ℕ) (bytes records : List ℕ) → n ≤ m → records_within n bytes ≡ Some records
    → records_within m bytes ≡ Some records
more_fuel n m [] records le is = none_in m ∙ sym (none_in n) ∙ is
more_fuel zero m (b ∷ bytes) records le is = absurd (apart is)
  where
    apart : records_within zero (b ∷ bytes) ≡ Some records → ⊥
    apart e = nothing_in b bytes records e
more_fuel (suc n) zero (b ∷ bytes) records le is = absurd (omega (arith, le))
more_fuel (suc n) (suc m) (b ∷ bytes) records le is =
    let found = from_some (segment_at (b ∷ bytes)) (records_within n) records (sym (step_in n
    (b ∷ bytes) (omega arith)) ∙ is) in
    step_in m (b ∷ bytes) (omega arith) ∙ ap (λ r. records_from r (records_within m)) found.1
    ∙ ap (option_map (λ (rest : List ℕ). records_in found.0.0 ++ rest))
    (more_fuel n m found.0.1 found.2 (omega (arith, le)) found.3)
    ∙ ap some (sym found.4)

-- bytes that are a segment, or more
long_text : (segment : Segment) (rest : List ℕ) → 0 < length (segment_text segment ++ rest)
long_text segment rest = omega (
  arith,
  length-append
      (segment_text segment) rest,
  segment_long segment,
)

grown : (segment : Segment) → FitsSegment segment → (n : ℕ) (bytes records : List ℕ)
    → records_within n bytes ≡ Some records
    → records_within (suc n) (bytes ++ segment_text segment) ≡ Some (records ++ records_in segment)
grown segment fits n [] records is =
    let none : records ≡ [] = own records (sym (none_in n) ∙ is) in
    let whole = ap segment_at (sym (append-nil (segment_text segment)))
    ∙ segment_again segment [] fits in
    step_in n (segment_text segment) (subst (λ (t : List ℕ). 0 < length t) (append-nil
    (segment_text segment)) (long_text segment []))
    ∙ ap (λ r. records_from r (records_within n)) whole
    ∙ ap (option_map (λ (rest : List ℕ). records_in segment ++ rest)) (none_in n)
    ∙ ap some (append-nil (records_in segment)
    ∙ ap (λ (r : List ℕ). r ++ records_in segment) (sym none))
  where
    own : (records : List ℕ) → some [] ≡ some records → records ≡ []
    own records e = cc
grown segment fits zero (b ∷ bytes) records is = absurd (apart is)
  where
    apart : records_within zero (b ∷ bytes) ≡ Some records → ⊥
    apart e = nothing_in b bytes records e
grown segment fits (suc n) (b ∷ bytes) records is =
    let found = from_some (segment_at (b ∷ bytes)) (records_within n) records (sym (step_in n
    (b ∷ bytes) (omega arith)) ∙ is) in
    step_in (suc n) ((b ∷ bytes) ++ segment_text segment) (omega arith)
    ∙ ap (λ r. records_from r (records_within (suc n))) (segment_on (b ∷ bytes)
    (segment_text segment) found.0 found.1)
    ∙ ap (option_map (λ (rest : List ℕ). records_in found.0.0 ++ rest))
    (grown segment fits n found.0.1 found.2 found.3)
    ∙ ap some (sym (append_assoc (records_in found.0.0) found.2 (records_in segment))
    ∙ ap (λ (r : List ℕ). r ++ records_in segment) (sym found.4))

AreBytes-after : (xs ys : List ℕ) → AreBytes (xs ++ ys) → AreBytes ys
AreBytes-after xs ys fits = subst AreBytes (drop_at xs ys (length xs) refl) (AreBytes-drop
    (length xs) (xs ++ ys) fits)

-- ---- laws

complete : (segments : List Segment) (n : ℕ) → AllByRecursion FitsSegment segments
    → length segments ≤ n → records_within n (pack_text segments) ≡ Some (all_records segments)
complete [] n fits le = none_in n
complete (segment ∷ segments) zero fits le = absurd (omega (arith, le))
complete (segment ∷ segments) (suc n) fits le =
    let text = flat_map-cons segment_text segment segments in
    ap (records_within (suc n)) text
    ∙ step_in n (segment_text segment ++ pack_text segments) (long_text segment
    (pack_text segments))
    ∙ ap (λ r. records_from r (records_within n)) (segment_again segment
    (pack_text segments) fits.0)
    ∙ ap (option_map (λ (rest : List ℕ). records_in segment ++ rest)) (complete segments n fits.1
    (omega (arith, le)))
    ∙ ap some (sym (flat_map-cons records_in segment segments))

few : (segments : List Segment) → length segments ≤ length (pack_text segments)
few [] = omega arith
few (segment ∷ segments) =
    let whole = ap length (flat_map-cons segment_text segment segments)
    ∙ length-append (segment_text segment) (pack_text segments) in
    omega (arith, whole, segment_long segment, few segments)

pub records_of_pack : RecordsOfAPack
records_of_pack segments bytes are =
    ap records_of are.spelled ∙ complete segments (length (pack_text segments)) are.fit
    (few segments)

sound : (n : ℕ) (bytes records : List ℕ) → AreBytes bytes → records_within n bytes ≡ Some records
    → (segments : List Segment) × ArePackOf segments bytes × (records ≡ all_records segments)
sound n [] records fits is = (
  [],
  record { fit = tt; spelled = refl },
  own records (sym (none_in n)
      ∙ is),
)
  where
    own : (records : List ℕ) → some [] ≡ some records → records ≡ []
    own records e = cc
sound zero (b ∷ bytes) records fits is = absurd (apart is)
  where
    apart : records_within zero (b ∷ bytes) ≡ Some records → ⊥
    apart e = nothing_in b bytes records e
sound (suc n) (b ∷ bytes) records fits is =
    let found = from_some (segment_at (b ∷ bytes)) (records_within n) records (sym (step_in n
    (b ∷ bytes) (omega arith)) ∙ is) in
    let takes = segment_takes (b ∷ bytes) found.0.0 found.0.1 fits found.1 in
    let after : AreBytes found.0.1 = AreBytes-after (segment_text found.0.0) found.0.1
    (subst AreBytes takes.1 fits) in
    let rest = sound n found.0.1 found.2 after found.3 in (
      found.0.0 ∷ rest.0,
      record {
        fit = (takes.0, rest.1.fit);
        spelled = takes.1 ∙ ap (λ (t : List ℕ). segment_text found.0.0 ++ t) rest.1.spelled
            ∙ sym (flat_map-cons segment_text found.0.0 rest.0);
      },
      found.4 ∙ ap (λ (t : List ℕ). records_in found.0.0 ++ t) rest.2
          ∙ sym (flat_map-cons records_in found.0.0 rest.0),
    )

pub records_are_of_pack : RecordsAreOfAPack
records_are_of_pack bytes records fits is = sound (length bytes) bytes records fits is

-- ---- what a writer does

-- the rest of a segment is written in part
pub sent_on : (c c' : Option (List ℕ)) (segment u : List ℕ) (at n : ℕ) → at ≤ length segment
    → u ≡ take (length segment - at) (drop at segment) → Appends c c' (take n u)
    → Keeps (append_known c (drop at segment)) (append_known c' (drop (at + n) segment))
sent_on c c' segment u at n le is written =
    let whole : u ≡ drop at segment = is ∙ take_all (length segment - at) (drop at segment) (omega
    (arith, length-drop at segment)) in
    append_known-moved c c' (take n u) (drop (at + n) segment) (drop at segment) written
    (sym whole ∙ sym (take-append-drop n u) ∙ ap (λ (t : List ℕ). take n u ++ t) (ap (drop n) whole
    ∙ drop-drop n at segment))

pub records_kept : (a b : Option (List ℕ)) → Keeps a b
    → Keeps (option_and_then records_of a) (option_and_then records_of b)
records_kept None b keeps = tt
records_kept (Some xs) None keeps = absurd keeps
records_kept (Some xs) (Some ys) keeps = subst (λ (t : List ℕ). Keeps (records_of xs)
    (records_of t)) (sym keeps) (Keeps-refl (records_of xs))

pub records_added : (a c : Option (List ℕ)) (old text : List ℕ) (segment : Segment)
    → FitsSegment segment → Keeps a (append_known c old) → old ≡ [] → text ≡ segment_text segment
    → Appends (option_and_then records_of a) (option_and_then records_of (append_known c text))
    (records_in segment)
records_added None c old text segment fits keeps none is = tt
records_added (Some xs) None old text segment fits keeps none is = absurd keeps
records_added (Some xs) (Some ys) old text segment fits keeps none is =
    let same : xs ≡ ys = sym keeps ∙ ap (λ (t : List ℕ). ys ++ t) none ∙ append-nil ys in
    subst (λ (t : List ℕ). Appends (records_of xs) (records_of t) (records_in segment)) (ap (λ
    (t : List ℕ). t ++ segment_text segment) same ∙ ap (λ (t : List ℕ). ys ++ t) (sym is))
    (one_more (records_of xs) refl)
  where
    one_more : (o : Option (List ℕ)) → records_of xs ≡ o
        → Appends o (records_of (xs ++ segment_text segment)) (records_in segment)
    one_more None e = tt
    one_more (Some records) e =
        subst (λ (o : Option (List ℕ)). Appends (Some records) o (records_in segment))
        (sym (more_fuel (suc (length xs)) (length (xs ++ segment_text segment))
        (xs ++ segment_text segment) (records ++ records_in segment)
        (omega (arith, length-append xs (segment_text segment), segment_long segment))
        (grown segment fits (length xs) xs records e))) refl

-- the segment that is made of what is written
pub made : (bytes : List ℕ) (count : ℕ) → AreBytes bytes → count ≤ largest_body
    → FitsSegment (record { records = count; body = take count bytes })
made bytes count fits le = record {
  records = omega (arith, le);
  body = AreBytes-take count bytes fits;
  size = omega (arith, le, length-take count bytes);
}
