-- A mask that is computed lane by lane is held to a test at each of the 256 bytes.
use Rattle.std.proofs.Common.{◌≡◌, ℕ, ◌+◌, ◌-◌, ◌%◌, ◌^◌, ◌<◌, ◌≤◌, ltb, Bool, false, cond, eqb, T}
use Rattle.std.proofs.Common.{List, map, length, get_or, replicate, ap, ◌∙◌, arith, w8, Fits}
use Rattle.std.proofs.lemmas.Simd.{zip2_of_maps, splat_is_map, map-map, Each1-get_or}
use Rattle.std.proofs.lemmas.List.{get_or-map}
use lib.Bits.{bit_or}
use lib.Lanes.{zip2, mask_l, top, Each1}
use Rattle.pgn_text.specs.Shared.Lanes.{AreLanes}
use Rattle.pgn_text.proofs.Bits.{bit-mod, bit-mask_l, upto, upto_sound, same, same_is}

-- what `simd_eq`, `simd_lt` and `-` do at a lane
abbrev pub hit : ℕ → ℕ → ℕ
hit a b = cond (eqb a b) 255 0

abbrev pub below : ℕ → ℕ → ℕ
below a b = cond (ltb a b) 255 0

abbrev pub less : ℕ → ℕ → ℕ
less a b = (a + (256 - b)) % 256

-- an operator with a splat, after others
pub then_splat : (h : ℕ → ℕ → ℕ) (f : ℕ → ℕ) (y : ℕ) (v : List ℕ) {n : ℕ} {a : List ℕ}
    → length v ≡ n → a ≡ map f v → zip2 h a (replicate n y) ≡ map (λ x. h (f x) y) v
then_splat h f y v {n} long p = zip2_of_maps h f (λ _. y) v p (splat_is_map v n y long)

-- one of two masks
pub either : (f g : ℕ → ℕ) (v : List ℕ) {a b : List ℕ} → a ≡ map f v → b ≡ map g v
    → zip2 bit_or a b ≡ map (λ x. bit_or (f x) (g x)) v
either f g v p q = zip2_of_maps bit_or f g v p q

pub classified : (n : ℕ) → n ≤ 64 → (f : ℕ → ℕ) (p : ℕ → Bool) (v z : List ℕ)
    → (length v ≡ n) × Each1 (Fits w8) v → z ≡ map f v
    → T (upto (λ x. same (top 7 (f x)) (p x)) 256)
    → AreLanes n p v (mask_l (map (top 7) z) % 2 ^ 64)
classified n short f p v z fits e all i h =
    let within : i < length v = omega (arith, fits.0) in
    bit-mod _ i (omega arith) ∙ bit-mask_l (map (top 7) z) i
    ∙ ap (λ l. get_or l i false) (ap (map (top 7)) e ∙ map-map (top 7) f v)
    ∙ get_or-map (λ x. top 7 (f x)) v i 0 false within
    ∙ same_is _ _
    (upto_sound (λ x. same (top 7 (f x)) (p x)) 256 all (get_or v i 0)
    (Each1-get_or (Fits w8) v i 0 within fits.1).fits)
