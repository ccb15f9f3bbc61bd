-- What is sealed leaves nothing, is unsealed again, and is not what a change of seven bytes makes
-- of it.
use Rattle.std.proofs.Common.{◌≡◌, ℕ, zero, suc, ◌+◌, ◌-◌, ◌*◌, ◌^◌, ◌<◌, ◌≤◌, Bool, true}
use Rattle.std.proofs.Common.{false, cond, eqb, ltb, List, [], ◌∷◌, ◌++◌, length, get_or, take}
use Rattle.std.proofs.Common.{drop, Result, Ok, Err, refl, sym, ap, subst, ◌∙◌, ◌⊎◌, append_assoc}
use Rattle.std.proofs.Common.{arith, inl, inr}
use Rattle.std.specs.Int.{w64, from_be_bytes, to_be_bytes}
use Rattle.std.proofs.lemmas.Int.Digits.{number_after_append}
use Rattle.std.proofs.lemmas.Bool.{cases_lt, ltb-false, le-ltb, eqb-true, eq-eqb}
use Rattle.std.proofs.lemmas.List.{take-append-drop, length-append, length-take, length-drop}
use Rattle.std.proofs.lemmas.List.{take_at, drop_at, get_or-drop, get_or-take, get_or_past}
use Rattle.std.proofs.lemmas.Nat.{be_bytes_8, from_be_bytes-to_be_bytes_8}
use Rattle.pgn_game.specs.declared.pack.error.SegmentError.{SegmentError}
use Rattle.pgn_game.specs.declared.pack.error.SegmentError.TheVariants.{CutShort}
use Rattle.pgn_game.specs.Public.Residues.{number_of, residue, AreBytes, IsNear}
use Rattle.pgn_game.specs.Public.Segments.{check_of, sealed, unsealed_at}
use Rattle.pgn_game.proofs.ResidueFacts.{AreBytes-drop, AreBytes-take, change_noticed}
use Rattle.pgn_game.proofs.ResidueReading.{word_step}

pub check_fits : (bytes : List ℕ) → check_of bytes < 2 ^ 64
check_fits bytes = omega arith

pub sealed_long : (bytes : List ℕ) → length (sealed bytes) ≡ length bytes + 8
sealed_long bytes = length-append bytes (to_be_bytes w64 (check_of bytes))

-- what is sealed leaves nothing
pub nothing_left : (bytes : List ℕ) → residue (sealed bytes) ≡ 0
nothing_left bytes =
    let check = to_be_bytes w64 (check_of bytes) in
    let again : from_be_bytes w64 check ≡ check_of bytes = from_be_bytes-to_be_bytes_8
    (check_of bytes) (check_fits bytes) in
    let whole : number_of (sealed bytes) ≡ number_of bytes * 2 ^ 64 + from_be_bytes w64 check =
    number_after_append 256 0 bytes check ∙ word_step (number_of bytes) check (omega arith) in
    let sum : number_of (sealed bytes) ≡ number_of bytes * 2 ^ 64 + check_of bytes = whole
    ∙ ap (λ (k : ℕ). number_of bytes * 2 ^ 64 + k) again in
    omega (arith, sum)

pub AreBytes-word : (n : ℕ) → AreBytes (to_be_bytes w64 n)
AreBytes-word n zero = omega arith
AreBytes-word n (suc zero) = omega arith
AreBytes-word n (suc (suc zero)) = omega arith
AreBytes-word n (suc (suc (suc zero))) = omega arith
AreBytes-word n (suc (suc (suc (suc zero)))) = omega arith
AreBytes-word n (suc (suc (suc (suc (suc zero))))) = omega arith
AreBytes-word n (suc (suc (suc (suc (suc (suc zero)))))) = omega arith
AreBytes-word n (suc (suc (suc (suc (suc (suc (suc zero))))))) = omega arith
AreBytes-word n (suc (suc (suc (suc (suc (suc (suc (suc i)))))))) = omega arith

pub AreBytes-append : (xs ys : List ℕ) → AreBytes xs → AreBytes ys → AreBytes (xs ++ ys)
AreBytes-append [] ys h g i = g i
AreBytes-append (x ∷ xs) ys h g zero = h 0
AreBytes-append (x ∷ xs) ys h g (suc i) = AreBytes-append xs ys (λ j. h (suc j)) g i

pub sealed_bytes : (bytes : List ℕ) → AreBytes bytes → AreBytes (sealed bytes)
sealed_bytes bytes h = AreBytes-append bytes (to_be_bytes w64 (check_of bytes)) h (AreBytes-word
    (check_of bytes))

-- two sealed texts that are near each other are one
pub sealed_apart : (bytes other : List ℕ) → AreBytes bytes → AreBytes other
    → IsNear (sealed bytes) (sealed other) → sealed bytes ≡ sealed other
sealed_apart bytes other own others near =
    change_noticed (sealed bytes) (sealed other) (sealed_bytes bytes own)
    (sealed_bytes other others) near (nothing_left bytes ∙ sym (nothing_left other))

-- ---- texts that are near each other, cut

pub near_take : (n : ℕ) (text other : List ℕ) → IsNear text other
    → IsNear (take n text) (take n other)
near_take n text other near =
    let same = λ (i : ℕ) (e : get_or text i 0 ≡ get_or other i 0).
    elim (cases_lt i n) as (λ (w : (i < n) ⊎ (n ≤ i)). get_or (take n text) i 0 ≡ get_or
    (take n other) i 0) [
      | inl lt ↦ get_or-take n text i 0 lt ∙ e ∙ sym (get_or-take n other i 0 lt)
      | inr le ↦ get_or_past (take n text) i 0 (omega (arith, length-take n text))
          ∙ sym (get_or_past (take n other) i 0 (omega (arith, length-take n other)))
    ] in
    record {
      long = omega (arith, length-take n text, length-take n other, near.long);
      at = near.at;
      before = λ i lt. same i (near.before i lt);
      after = λ i le. same i (near.after i le);
    }

pub near_drop : (n : ℕ) (text other : List ℕ) → IsNear text other
    → IsNear (drop n text) (drop n other)
near_drop n text other near = record {
  long = omega (arith, length-drop n text, length-drop n other, near.long);
  at = near.at - n;
  before = λ i lt. get_or-drop n text i 0 ∙ near.before (n + i) (omega (arith, lt))
      ∙ sym (get_or-drop n other i 0);
  after = λ i le. get_or-drop n text i 0 ∙ near.after (n + i) (omega (arith, le))
      ∙ sym (get_or-drop n other i 0);
}

-- ---- unsealing

pub unsealed_again : (fault : SegmentError) (bytes rest : List ℕ)
    → unsealed_at fault (length bytes) (sealed bytes ++ rest) ≡ Ok (bytes, rest)
unfolding unsealed_at
unsealed_again fault bytes rest =
    let check = to_be_bytes w64 (check_of bytes) in
    let grouped : sealed bytes ++ rest ≡ bytes ++ (check ++ rest) = append_assoc bytes check rest in
    let long : ltb (length (bytes ++ (check ++ rest))) (length bytes + 8) ≡ false = le-ltb _ _
    (omega (arith, length-append bytes (check ++ rest), length-append check rest)) in
    let front : take (length bytes) (bytes ++ (check ++ rest)) ≡ bytes = take_at bytes
    (check ++ rest) (length bytes) refl in
    let back : drop (length bytes) (bytes ++ (check ++ rest)) ≡ check ++ rest = drop_at bytes
    (check ++ rest) (length bytes) refl in
    let again : from_be_bytes w64 check ≡ check_of bytes = from_be_bytes-to_be_bytes_8
    (check_of bytes) (check_fits bytes) in
    let same : eqb (from_be_bytes w64 check) (check_of bytes) ≡ true = eq-eqb _ _ again in
    ap (unsealed_at fault (length bytes)) grouped ∙ rw (long, front, back, same) refl

-- a test that did not fail
pub tested : {A : Type 0} (b : Bool) (d : SegmentError) (r : Result A SegmentError) (y : A)
    → cond b (Err d) r ≡ Ok y → (b ≡ false) × (r ≡ Ok y)
tested true d r y e = absurd cc
tested false d r y e = (refl, e)

pub passed : {A : Type 0} (b : Bool) (d : SegmentError) (r : Result A SegmentError) (y : A)
    → cond b r (Err d) ≡ Ok y → (b ≡ true) × (r ≡ Ok y)
passed true d r y e = (refl, e)
passed false d r y e = absurd cc

abbrev done : {A : Type 0} → A → Result A SegmentError
done x = Ok x

pub ok_is : {A : Type 0} (x y : A) → done x ≡ done y → x ≡ y
ok_is x y e = cc

pub unsealed_takes : (fault : SegmentError) (size : ℕ) (bytes body rest : List ℕ) → AreBytes bytes
    → unsealed_at fault size bytes ≡ Ok (body, rest)
    → (length body ≡ size) × AreBytes body × AreBytes rest × (bytes ≡ sealed body ++ rest)
unfolding unsealed_at
unsealed_takes fault size bytes body rest fits e =
    let check = take 8 (drop size bytes) in
    let a = tested (ltb (length bytes) (size + 8)) CutShort (cond (eqb (from_be_bytes w64 check)
    (check_of (take size bytes))) (Ok (take size bytes, drop 8 (drop size bytes))) (Err fault))
    (body, rest) e in
    let b = passed (eqb (from_be_bytes w64 check) (check_of (take size bytes))) fault (Ok
    (take size bytes, drop 8 (drop size bytes))) (body, rest) a.1 in
    let long : size + 8 ≤ length bytes = ltb-false _ _ a.0 in
    let same : from_be_bytes w64 check ≡ check_of (take size bytes) = eqb-true _ _ b.0 in
    let both = ok_is (take size bytes, drop 8 (drop size bytes)) (body, rest) b.1 in
    let size_is : length (take size bytes) ≡ size = omega (arith, length-take size bytes) in
    let check_is : to_be_bytes w64 (check_of (take size bytes)) ≡ check =
    be_bytes_8 check (check_of (take size bytes)) (omega (
      arith,
      length-take 8
          (drop size bytes),
      length-drop size bytes,
    )) (AreBytes-take 8 (drop size bytes)
    (AreBytes-drop size bytes fits)) (sym same) in
    let whole : bytes ≡ sealed (take size bytes) ++ drop 8 (drop size bytes) =
    sym (take-append-drop size bytes) ∙ ap (λ (t : List ℕ). take size bytes ++ t) (sym
    (take-append-drop 8 (drop size bytes)))
    ∙ ap (λ (t : List ℕ). take size bytes ++ (t ++ drop 8 (drop size bytes))) (sym check_is)
    ∙ sym (append_assoc (take size bytes) (to_be_bytes w64 (check_of (take size bytes))) (drop 8
    (drop size bytes))) in
    subst (λ (p : List ℕ × List ℕ). (length p.0 ≡ size) × AreBytes p.0 × AreBytes p.1
    × (bytes ≡ sealed p.0 ++ p.1)) both (
      size_is,
      AreBytes-take size bytes fits,
      AreBytes-drop 8 (drop size bytes)
          (AreBytes-drop size bytes fits),
      whole,
    )

-- what is long enough is unsealed, or the seal is broken
either : {A : Type 0} (b : Bool) (d : SegmentError) (y : A)
    → (cond b (Ok y) (Err d) ≡ Err d) ⊎ (cond b (Ok y) (Err d) ≡ Ok y)
either true d y = inr refl
either false d y = inl refl

pub unsealed_or_told : (fault : SegmentError) (size : ℕ) (bytes : List ℕ) → size + 8 ≤ length bytes
    → (unsealed_at fault size bytes ≡ Err fault) ⊎ (unsealed_at fault size bytes ≡ Ok
    (take size bytes, drop 8 (drop size bytes)))
unfolding unsealed_at
unsealed_or_told fault size bytes le =
    let long : ltb (length bytes) (size + 8) ≡ false = le-ltb _ _ le in
    rw long (either (eqb (from_be_bytes w64 (take 8 (drop size bytes))) (check_of
    (take size bytes))) fault (take size bytes, drop 8 (drop size bytes)))
