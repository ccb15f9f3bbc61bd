-- One read after another.
use Rattle.std.proofs.Common.{◌≡◌, ℕ, ◌+◌, ◌-◌, ◌^◌, min, List, [], ◌++◌, length, Option, Some}
use Rattle.std.proofs.Common.{None, refl, sym, ap, ◌∙◌, arith, length-append, append_assoc}
use Rattle.std.specs.Io.KnownBytes.{Consumes}
use Rattle.pgn_text.specs.Public.Tallies.{Reads}

-- known bytes that lose some, and then others, lose both
consumes_join : (first then last : Option (List ℕ)) (front back : List ℕ)
    → Consumes first then front → Consumes then last back → Consumes first last (front ++ back)
consumes_join None then last front back a b = tt
consumes_join (Some xs) None last front back a b = absurd a
consumes_join (Some xs) (Some ys) None front back a b = absurd b
consumes_join (Some xs) (Some ys) (Some zs) front back a b =
    a ∙ ap (λ t. front ++ t) b ∙ sym (append_assoc front back zs)

-- reads, and then more reads
pub reads_join : (first then last : Option (List ℕ)) (a b c : ℕ) (front back : List ℕ)
    → Reads first then a b front → Reads then last b c back → Reads first last a c (front ++ back)
reads_join first then last a b c front back x y = record {
  bytes = consumes_join first then last front back x.bytes y.bytes;
  count = λ fits.
      let size : length (front ++ back) ≡ length front + length back = length-append front back in
      let here : b ≡ a + length front = x.count (omega arith) in
      let there : c ≡ b + length back = y.count (omega arith) in
      omega arith;
}

-- no read
pub reads_none : (left : Option (List ℕ)) (moved : ℕ) → Reads left left moved moved []
reads_none None moved = record { bytes = tt; count = λ _. omega arith }
reads_none (Some xs) moved = record { bytes = refl; count = λ _. omega arith }

-- one read, by the count that a tally keeps
pub reads_counted : (left left' : Option (List ℕ)) (moved moved' count : ℕ) (read : List ℕ)
    → Consumes left left' read
    → moved' ≡ min (moved + count) (2 ^ 64 - 1) → count ≡ length read
    → Reads left left' moved moved' read
reads_counted left left' moved moved' count read bytes kept size =
    record { bytes = bytes; count = λ fits. omega arith }
