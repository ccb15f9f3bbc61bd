-- A change in seven bytes in a row changes the residue.
use Rattle.std.proofs.Common.{◌≡◌, ℕ, suc, ◌+◌, ◌*◌, ◌%◌, ◌^◌, ◌<◌, ◌≤◌, List, [], ◌∷◌, ◌++◌}
use Rattle.std.proofs.Common.{length, take, drop, refl, sym, ap, ◌∙◌, arith, inl, inr}
use Rattle.std.specs.Int.Digits.{number_from_digits_after, AllBelowBase}
use Rattle.std.proofs.lemmas.Int.Digits.{number_lt, number_after_append}
use Rattle.std.proofs.lemmas.Bool.{cases_lt}
use Rattle.std.proofs.Math.Nat.{pow-suc, pow-le-pow_right}
use Rattle.std.proofs.lemmas.List.{ext_get_or, take-append-drop, length-take, length-drop}
use Rattle.std.proofs.lemmas.List.{get_or-drop, get_or-take, get_or_past}
use Rattle.pgn_game.specs.Public.Residues.{modulus, number_of, residue, AreBytes, ChangeIsNoticed}

pub AreBytes-drop : (n : ℕ) (bytes : List ℕ) → AreBytes bytes → AreBytes (drop n bytes)
AreBytes-drop n bytes h i = rw get_or-drop (h (n + i))

pub AreBytes-take : (n : ℕ) (bytes : List ℕ) → AreBytes bytes → AreBytes (take n bytes)
AreBytes-take n bytes h i =
    elim (cases_lt i n) [
      | inl lt ↦ rw (get_or-take n bytes i 0 lt) (h i)
      | inr le ↦ rw (get_or_past (take n bytes) i 0 (omega (arith, length-take n bytes)))
          (omega arith)
    ]

below_base : (bytes : List ℕ) → AreBytes bytes → AllBelowBase 256 bytes
below_base [] h = tt
below_base (b ∷ bytes) h = (h 0, below_base bytes (λ i. h (suc i)))

-- ---- numbers with the same residue

-- 256 has an inverse: its seventh power and 32 make 2 ^ 61, which leaves 1
scaled : (a b : ℕ) → (a * 256) % modulus ≡ (b * 256) % modulus → a % modulus ≡ b % modulus
scaled a b e = omega (arith, e)

shifted : (a b c : ℕ) → (a + c) % modulus ≡ (b + c) % modulus → a % modulus ≡ b % modulus
shifted a b c e = omega (arith, e)

shifted_left : (a b c : ℕ) → (c + a) % modulus ≡ (c + b) % modulus → a % modulus ≡ b % modulus
shifted_left a b c e = omega (arith, e)

-- what follows may be left out
cut_back : (back : List ℕ) (a b : ℕ) → number_from_digits_after 256 a back % modulus ≡
    number_from_digits_after 256 b back % modulus → a % modulus ≡ b % modulus
cut_back [] a b e = e
cut_back (d ∷ back) a b e = scaled a b (shifted (a * 256) (b * 256) d (cut_back back (a * 256 + d)
    (b * 256 + d) e))

spread : (n d p : ℕ) → (n * 256 + d) * p ≡ n * (p * 256) + d * p
spread n d p = omega arith

-- a number put in front of others
after_is : (n : ℕ) (bytes : List ℕ) → number_from_digits_after 256 n bytes ≡ n * 256 ^ length bytes
    + number_of bytes
after_is n [] = omega arith
after_is n (d ∷ bytes) =
    let more : 256 ^ length (d ∷ bytes) ≡ 256 ^ length bytes * 256 = pow-suc 256 (length bytes) in
    let own = after_is (n * 256 + d) bytes in
    let first : number_of (d ∷ bytes) ≡ d * 256 ^ length bytes + number_of bytes =
    let plain : 0 * 256 + d ≡ d = omega arith in ap (λ
    (k : ℕ). number_from_digits_after 256 k bytes) plain ∙ after_is d bytes in
    own ∙ omega (arith, ap (λ (k : ℕ). n * k) more, first, spread n d (256 ^ length bytes))

-- digits below the base and what stands in front of them are known by their number
digits_same : (n m : ℕ) (xs ys : List ℕ) → length xs ≡ length ys → AreBytes xs → AreBytes ys
    → number_from_digits_after 256 n xs ≡ number_from_digits_after 256 m ys → (n ≡ m) × (xs ≡ ys)
digits_same n m [] [] long own other e = (e, refl)
digits_same n m [] (y ∷ ys) long own other e = absurd (omega (arith, long))
digits_same n m (x ∷ xs) [] long own other e = absurd (omega (arith, long))
digits_same n m (x ∷ xs) (y ∷ ys) long own other e =
    let rest = digits_same (n * 256 + x) (m * 256 + y) xs ys (omega (arith, long)) (λ i. own
    (suc i)) (λ i. other (suc i)) e in
    let first : x ≡ y = omega (arith, rest.0, own 0, other 0) in
    (omega (arith, rest.0, own 0, other 0), λ i. first i ∷ rest.1 i)

-- at most seven bytes are known by what they leave
few_same : (xs ys : List ℕ) → length xs ≡ length ys → length xs ≤ 7 → AreBytes xs → AreBytes ys
    → number_of xs % modulus ≡ number_of ys % modulus → xs ≡ ys
few_same xs ys long few own other e =
    let low : number_of xs < 256 ^ length xs = number_lt 256 xs (below_base xs own) in
    let low' : number_of ys < 256 ^ length ys = number_lt 256 ys (below_base ys other) in
    let room : 256 ^ length xs ≤ 256 ^ 7 = pow-le-pow_right (omega arith) {j = 7} few in
    let room' : 256 ^ length ys ≤ 256 ^ 7 = pow-le-pow_right (omega arith) {j = 7} (omega
    (arith, long, few)) in
    let same : number_of xs ≡ number_of ys = omega (arith, low, low', room, room', e) in
    (digits_same 0 0 xs ys long own other same).1

-- the same bytes before and after may be left out
cut : (front mid mid' back : List ℕ) → length mid ≡ length mid'
    → residue (front ++ (mid ++ back)) ≡ residue (front ++ (mid' ++ back))
    → number_of mid % modulus ≡ number_of mid' % modulus
cut front mid mid' back long e =
    let split = λ (m : List ℕ). number_after_append 256 0 front (m ++ back)
    ∙ number_after_append 256 (number_of front) m back in
    let inner : number_from_digits_after 256 (number_from_digits_after 256
    (number_of front) mid) back % modulus
    ≡ number_from_digits_after 256 (number_from_digits_after 256
    (number_of front) mid') back % modulus
    = ap (λ n. n % modulus) (sym (split mid)) ∙ e ∙ ap (λ n. n % modulus) (split mid') in
    let both = cut_back back (number_from_digits_after 256 (number_of front) mid)
    (number_from_digits_after 256 (number_of front) mid') inner in
    let same_size : number_of front * 256 ^ length mid ≡ number_of front * 256 ^ length mid' = ap (λ
    (k : ℕ). number_of front * 256 ^ k) long in
    let level : (number_of front * 256 ^ length mid + number_of mid) % modulus ≡
    (number_of front * 256 ^ length mid + number_of mid') % modulus
    = ap (λ n. n % modulus) (sym (after_is (number_of front) mid)) ∙ both
    ∙ ap (λ n. n % modulus) (after_is (number_of front) mid')
    ∙ ap (λ (k : ℕ). (k + number_of mid') % modulus) (sym same_size) in
    shifted_left (number_of mid) (number_of mid') (number_of front * 256 ^ length mid) level

-- ---- texts that are near each other

parts : (at : ℕ) (text : List ℕ) → take at text ++ (take 7 (drop at text) ++ drop 7
    (drop at text)) ≡ text
parts at text = ap (λ (t : List ℕ). take at text ++ t) (take-append-drop 7 (drop at text))
    ∙ take-append-drop at text

pub change_noticed : ChangeIsNoticed
change_noticed text other own others near e =
    let at = near.at in
    let long = near.long in
    let front : take at text ≡ take at other =
    ext_get_or 0 (take at text) (take at other) (omega
    (arith, length-take at text, length-take at other, long))
    (λ i lt. let below : i < at = omega (arith, lt, length-take at text) in
    get_or-take at text i 0 below ∙ near.before i below ∙ sym (get_or-take at other i 0 below)) in
    let read = λ (t : List ℕ) (i : ℕ). get_or-drop 7 (drop at t) i 0 ∙ get_or-drop at t (7 + i) 0 in
    let back : drop 7 (drop at text) ≡ drop 7 (drop at other) =
    ext_get_or 0 (drop 7 (drop at text)) (drop 7 (drop at other))
    (omega (
      arith,
      length-drop 7 (drop at text),
      length-drop 7
          (drop at other),
      length-drop at text,
      length-drop at other,
      long,
    ))
    (λ i lt. read text i ∙ near.after (at + (7 + i)) (omega arith) ∙ sym (read other i)) in
    let mid = take 7 (drop at text) in
    let mid' = take 7 (drop at other) in
    let same_long : length mid ≡ length mid' = omega (
      arith,
      length-take 7
          (drop at text),
      length-take 7 (drop at other),
      length-drop at text,
      length-drop at other,
      long,
    )
    in
    let left : residue (take at text ++ (mid ++ drop 7 (drop at text))) ≡ residue (take at text ++
    (mid' ++ drop 7 (drop at text))) =
    ap residue (parts at text) ∙ e ∙ ap residue (sym (parts at other))
    ∙ ap residue (λ i. sym front i ++ (mid' ++ sym back i)) in
    let same : mid ≡ mid' =
    few_same mid mid' same_long (omega (arith, length-take 7 (drop at text)))
    (AreBytes-take 7 (drop at text) (AreBytes-drop at text own)) (AreBytes-take 7 (drop at other)
    (AreBytes-drop at other others))
    (cut (take at text) mid mid' (drop 7 (drop at text)) same_long left) in
    sym (parts at text) ∙ (λ i. front i ++ (same i ++ back i)) ∙ parts at other
