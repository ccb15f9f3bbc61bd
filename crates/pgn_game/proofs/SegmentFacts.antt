-- The laws of segments and packs.
use Rattle.std.proofs.Common.{◌≡◌, ℕ, zero, suc, ◌+◌, ◌^◌, ◌<◌, ◌≤◌, false, cond, ltb, List}
use Rattle.std.proofs.Common.{◌++◌, length, take, drop, Result, Ok, Err, refl, sym, ap, subst}
use Rattle.std.proofs.Common.{◌∙◌, append_assoc, arith}
use Rattle.std.specs.Prelude.{bytes_eq}
use Rattle.std.specs.Int.{w32, from_be_bytes, to_be_bytes}
use Rattle.std.specs.Cmp.Lexicographic.{same_text}
use Rattle.std.proofs.lemmas.Bool.{ltb-false, le-ltb}
use Rattle.std.proofs.lemmas.List.{take-append-drop, length-append, length-take, length-drop}
use Rattle.std.proofs.lemmas.List.{take_at, take-append-le, drop-append-le, drop-drop}
use Rattle.std.proofs.lemmas.List.Concat.{flat_map-append}
use Rattle.std.proofs.lemmas.Nat.{be_bytes_4, from_be_bytes-to_be_bytes_4}
use Rattle.pgn_game.specs.declared.pack.error.SegmentError.{SegmentError}
use Rattle.pgn_game.specs.declared.pack.error.SegmentError.TheVariants.{OtherLayout, DamagedFront}
use Rattle.pgn_game.specs.declared.pack.error.SegmentError.TheVariants.{TooLarge, DamagedBody}
use Rattle.pgn_game.specs.Public.Residues.{AreBytes, IsNear}
use Rattle.pgn_game.specs.Public.Segments.{sealed, Segment, magic, largest_body, front_bytes}
use Rattle.pgn_game.specs.Public.Segments.{segment_text, FitsSegment, and_then}
use Rattle.pgn_game.specs.Public.Segments.{unsealed_at, numbers_of, front_at, segment_at}
use Rattle.pgn_game.specs.Public.Segments.{SegmentIsRead, ReadIsASegment}
use Rattle.pgn_game.specs.Public.Segments.{PacksJoin, DamageIsNoticed}
use Rattle.pgn_game.proofs.ResidueFacts.{AreBytes-drop, AreBytes-take}
use Rattle.pgn_game.proofs.SealFacts.{AreBytes-append, sealed_long, sealed_apart, near_take}
use Rattle.pgn_game.proofs.SealFacts.{near_drop, unsealed_again, unsealed_takes, ok_is}
use Rattle.pgn_game.proofs.SealFacts.{tested, passed}

infixl 10 ◌>>=◌
abbrev ◌>>=◌ : {A B : Type 0} → Result A SegmentError → (A → Result B SegmentError)
    → Result B SegmentError
step >>= next = and_then step next

-- the value of a step that did not fail
pub bind_ok : {A B : Type 0} (r : Result A SegmentError) (f : A → Result B SegmentError) (y : B)
    → (r >>= f) ≡ Ok y → (x : A) × (r ≡ Ok x) × (f x ≡ Ok y)
bind_ok (Ok x) f y e = (x, refl, e)
bind_ok (Err d) f y e = absurd cc

-- ---- the numbers of a front

numbers_again : (records size : ℕ) → records < 2 ^ 32 → size ≤ largest_body
    → numbers_of (front_bytes records size) ≡ Ok (records, size)
unfolding front_bytes
numbers_again records size lt le =
    let one = from_be_bytes-to_be_bytes_4 records lt in
    let two = from_be_bytes-to_be_bytes_4 size (omega (arith, le)) in
    let small : ltb largest_body size ≡ false = le-ltb _ _ le in
    rw (one, two, small) refl

numbers_take : (front : List ℕ) (records size : ℕ) → AreBytes front → length front ≡ 16
    → numbers_of front ≡ Ok (records, size)
    → (front ≡ front_bytes records size) × (records < 2 ^ 32) × (size ≤ largest_body)
unfolding front_bytes
numbers_take front records size fits long e =
    let read = from_be_bytes w32 (drop 12 front) in
    let count = from_be_bytes w32 (take 4 (drop 8 front)) in
    let a = passed (bytes_eq (take 8 front) magic) OtherLayout (cond (ltb largest_body read)
    (Err TooLarge) (Ok (count, read))) (records, size) e in
    let b = tested (ltb largest_body read) TooLarge (Ok (count, read)) (records, size) a.1 in
    let both = ok_is (count, read) (records, size) b.1 in
    let begins : take 8 front ≡ magic = same_text _ _ (sym a.0) in
    let middle : to_be_bytes w32 count ≡ take 4 (drop 8 front) =
    be_bytes_4 (take 4 (drop 8 front)) count (omega (
      arith,
      length-take 4
          (drop 8 front),
      length-drop 8 front,
      long,
    )) (AreBytes-take 4 (drop 8 front)
    (AreBytes-drop 8 front fits)) refl in
    let ends : to_be_bytes w32 read ≡ drop 12 front =
    be_bytes_4 (drop 12 front) read (omega (arith, length-drop 12 front, long))
    (AreBytes-drop 12 front fits) refl in
    let whole : front ≡ front_bytes count read =
    sym (take-append-drop 8 front) ∙ ap (λ (t : List ℕ). take 8 front ++ t) (sym (take-append-drop 4
    (drop 8 front)))
    ∙ (λ i. begins i ++ (sym middle i ++ (drop-drop 4 8 front ∙ sym ends) i)) in
    let part = AreBytes-take 4 (drop 8 front) (AreBytes-drop 8 front fits) in
    let below : count < 2 ^ 32 = omega (arith, part 0, part 1, part 2, part 3) in
    subst (λ (p : ℕ × ℕ). (front ≡ front_bytes p.0 p.1) × (p.0 < 2 ^ 32)
    × (p.1 ≤ largest_body)) both (whole, below, ltb-false _ _ b.0)

AreBytes-four : (n : ℕ) → AreBytes (to_be_bytes w32 n)
AreBytes-four n zero = omega arith
AreBytes-four n (suc zero) = omega arith
AreBytes-four n (suc (suc zero)) = omega arith
AreBytes-four n (suc (suc (suc zero))) = omega arith
AreBytes-four n (suc (suc (suc (suc i)))) = omega arith

AreBytes-magic : AreBytes magic
AreBytes-magic zero = omega arith
AreBytes-magic (suc zero) = omega arith
AreBytes-magic (suc (suc zero)) = omega arith
AreBytes-magic (suc (suc (suc zero))) = omega arith
AreBytes-magic (suc (suc (suc (suc zero)))) = omega arith
AreBytes-magic (suc (suc (suc (suc (suc zero))))) = omega arith
AreBytes-magic (suc (suc (suc (suc (suc (suc zero)))))) = omega arith
AreBytes-magic (suc (suc (suc (suc (suc (suc (suc zero))))))) = omega arith
AreBytes-magic (suc (suc (suc (suc (suc (suc (suc (suc i)))))))) = omega arith

AreBytes-front : (records size : ℕ) → AreBytes (front_bytes records size)
unfolding front_bytes
AreBytes-front records size = AreBytes-append magic
    (to_be_bytes w32 records ++ to_be_bytes w32 size) AreBytes-magic (AreBytes-append
    (to_be_bytes w32 records) (to_be_bytes w32 size) (AreBytes-four records) (AreBytes-four size))

-- ---- one segment

front_again : (records size : ℕ) (after : List ℕ) → records < 2 ^ 32 → size ≤ largest_body
    → front_at (sealed (front_bytes records size) ++ after) ≡ Ok ((records, size), after)
unfolding front_at front_bytes
front_again records size after lt le = rw (
  unsealed_again DamagedFront
      (front_bytes records size) after,
  numbers_again records size lt le,
) refl

grouped : (segment : Segment) (rest : List ℕ) → segment_text segment ++ rest ≡ sealed
    (front_bytes segment.records (length segment.body)) ++ (sealed segment.body ++ rest)
grouped segment rest = append_assoc (sealed (front_bytes segment.records (length segment.body)))
    (sealed segment.body) rest

pub segment_again : SegmentIsRead
unfolding segment_at front_bytes
segment_again segment rest fits =
    ap segment_at (grouped segment rest)
    ∙ rw (
      front_again segment.records (length segment.body)
          (sealed segment.body ++ rest) fits.records fits.size,
      unsealed_again DamagedBody segment.body
          rest,
    ) refl

pub segment_takes : ReadIsASegment
unfolding segment_at front_at front_bytes
segment_takes bytes segment rest fits e =
    let front = bind_ok (front_at bytes) (λ front. unsealed_at DamagedBody front.0.1 front.1 >>= λ
    body. Ok (record { records = front.0.0; body = body.0 }, body.1)) (segment, rest) e in
    let raw = bind_ok (unsealed_at DamagedFront 16 bytes)
    (λ front. numbers_of front.0 >>= λ numbers. Ok (numbers, front.1)) front.0 front.1 in
    let numbers = bind_ok (numbers_of raw.0.0) (λ numbers. Ok (numbers, raw.0.1)) front.0 raw.2 in
    let body = bind_ok (unsealed_at DamagedBody front.0.0.1 front.0.1) (λ body. Ok
    (record { records = front.0.0.0; body = body.0 }, body.1)) (segment, rest) front.2 in
    let f = unsealed_takes DamagedFront 16 bytes raw.0.0 raw.0.1 fits raw.1 in
    let n = numbers_take raw.0.0 numbers.0.0 numbers.0.1 f.1 f.0 numbers.1 in
    let front_is : (numbers.0, raw.0.1) ≡ front.0 = ok_is (numbers.0, raw.0.1) front.0 numbers.2 in
    let size_is : front.0.0.1 ≡ numbers.0.1 = ap (λ (p : (ℕ × ℕ) × List ℕ). p.0.1) (sym front_is) in
    let after_is : raw.0.1 ≡ front.0.1 = ap (λ (p : (ℕ × ℕ) × List ℕ). p.1) front_is in
    let b = unsealed_takes DamagedBody front.0.0.1 front.0.1 body.0.0 body.0.1
    (subst AreBytes after_is f.2) body.1 in
    let games_is : numbers.0.0 ≡ front.0.0.0 = ap (λ (p : (ℕ × ℕ) × List ℕ). p.0.0) front_is in
    let long : numbers.0.1 ≡ length body.0.0 = sym size_is ∙ sym b.0 in
    let whole : bytes ≡ segment_text (record { records = front.0.0.0; body = body.0.0 }) ++ body.0.1
    =
    f.3 ∙ (λ i. sealed (n.0 i) ++ (after_is ∙ b.3) i)
    ∙ (λ i. sealed (front_bytes (games_is i) (long i)) ++ (sealed body.0.0 ++ body.0.1))
    ∙ sym (grouped (record { records = front.0.0.0; body = body.0.0 }) body.0.1) in
    let own : FitsSegment (record { records = front.0.0.0; body = body.0.0 }) = record {
      records =
          subst (λ (k : ℕ). k < 2 ^ 32) games_is n.1;
      body = b.1;
      size = subst (λ
          (k : ℕ). k ≤ largest_body) long n.2;
    } in
    let both = ok_is (record { records = front.0.0.0; body = body.0.0 }, body.0.1)
    (segment, rest) body.2 in
    subst (λ (p : Segment × List ℕ). FitsSegment p.0
    × (bytes ≡ segment_text p.0 ++ p.1)) both (own, whole)

-- how many bytes it takes
pub segment_long : (segment : Segment) → length (segment_text segment) ≡ 24 +
    (length segment.body + 8)
unfolding front_bytes
segment_long segment =
    let front = front_bytes segment.records (length segment.body) in
    omega (
      arith,
      length-append (sealed front)
          (sealed segment.body),
      sealed_long front,
      sealed_long segment.body,
    )

-- ---- packs

pub packs_join : PacksJoin
packs_join segments others = sym (flat_map-append segment_text segments others)

pub damage_is_noticed : DamageIsNoticed
unfolding front_bytes
damage_is_noticed segment text rest fits near differs other more fits' e =
    let front = sealed (front_bytes segment.records (length segment.body)) in
    let front' = sealed (front_bytes other.records (length other.body)) in
    let long : length text ≡ 24 + (length segment.body + 8) = omega
    (arith, near.long, sealed_long segment.body, length-append front (sealed segment.body)) in
    let apart : text ++ rest ≡ front' ++ (sealed other.body ++ more) = e ∙ grouped other more in
    let begins : take 24 text ≡ front' = sym (take-append-le 24 text rest (omega (arith, long)))
    ∙ ap (take 24) apart in
    let goes_on : drop 24 text ++ rest ≡ sealed other.body ++ more = sym
    (drop-append-le 24 text rest (omega (arith, long))) ∙ ap (drop 24) apart in
    let near_front : IsNear front front' = subst (λ (t : List ℕ). IsNear front t) begins
    (near_take 24 (segment_text segment) text near) in
    let same_front : front ≡ front' =
    sealed_apart (front_bytes segment.records (length segment.body)) (front_bytes other.records
    (length other.body)) (AreBytes-front segment.records (length segment.body))
    (AreBytes-front other.records (length other.body)) near_front in
    let numbers = ok_is (segment.records, length segment.body) (other.records, length other.body)
    (sym (numbers_again segment.records (length segment.body) fits.records fits.size)
    ∙ ap (λ (t : List ℕ). numbers_of (take 16 t)) same_front
    ∙ numbers_again other.records (length other.body) fits'.records fits'.size) in
    let same_size : length segment.body ≡ length other.body = ap (λ (p : ℕ × ℕ). p.1) numbers in
    let rest_long : length (drop 24 text) ≡ length (sealed other.body) = omega
    (arith, length-drop 24 text, long, same_size, sealed_long other.body) in
    let rest_is : drop 24 text ≡ sealed other.body =
    sym (take_at (drop 24 text) rest (length (sealed other.body)) rest_long)
    ∙ ap (take (length (sealed other.body))) goes_on
    ∙ take_at (sealed other.body) more (length (sealed other.body)) refl in
    let near_body : IsNear (sealed segment.body) (sealed other.body) = subst (λ (t : List ℕ). IsNear
    (sealed segment.body) t) rest_is (near_drop 24 (segment_text segment) text near) in
    let same_body : sealed segment.body ≡ sealed other.body = sealed_apart segment.body other.body
    fits.body fits'.body near_body in
    differs ((λ i. same_front i ++ same_body i) ∙ (λ i. sym begins i ++ sym rest_is i)
    ∙ take-append-drop 24 text)
