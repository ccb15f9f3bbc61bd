-- The table of classes against their tests, at each of the 256 bytes, by computing.
use Rattle.std.proofs.Common.{◌≡◌, ℕ, zero, suc, ◌<◌, Bool, true, false, ◌&&◌, not, nat_eq, bit_and}
use Rattle.std.proofs.Common.{get_or, List, refl, arith, inl, inr}
use Rattle.std.specs.Bool.{beq}
use Rattle.std.proofs.lemmas.Bool.{cases_eq}
use Rattle.pgn_text.specs.Private.Tokens.{test_of, flag_of}
use Rattle.pgn_text.specs.declared.lex.class.ByteClass.{ByteClass}
use Rattle.pgn_text.specs.declared.lex.class.ByteClass.TheVariants.{White}
use Rattle.pgn_text.specs.declared.lex.class.TheConstants.{CLASSES}

-- the two tests agree below n
unfoldable agree_below : (ℕ → Bool) → (ℕ → Bool) → ℕ → Bool
agree_below f g zero = true
agree_below f g (suc n) = beq (f n) (g n) && agree_below f g n

both_of : (x y rest : Bool) → (beq x y && rest) ≡ true → (x ≡ y) × (rest ≡ true)
both_of true true rest h = (refl, h)
both_of true false rest h = cc
both_of false true rest h = cc
both_of false false rest h = (refl, h)

agree_at : (f g : ℕ → Bool) (n : ℕ) → agree_below f g n ≡ true → (b : ℕ) → b < n → f b ≡ g b
unfolding agree_below
agree_at f g zero h b lt = absurd (omega arith)
agree_at f g (suc n) h b lt =
    let both = both_of (f n) (g n) (agree_below f g n) h in
    elim (cases_eq b n)
    [ inl same ↦ rw same both.0 | inr other ↦ agree_at f g n both.1 b (omega arith) ]

-- the byte has the flag in the table
abbrev pub has_flag : List ℕ → ℕ → ℕ → Bool
has_flag table flag b = not (nat_eq (bit_and (get_or table b 0) flag) 0)

-- at each byte the table says what the class's test says
agree : (class : ByteClass) → agree_below (has_flag CLASSES (flag_of class)) (test_of class) 256
    ≡ true
unfolding agree_below
agree White = refl
agree _ = refl

pub by_table : (class : ByteClass) (b : ℕ) → b < 256
    → has_flag CLASSES (flag_of class) b ≡ test_of class b
by_table class b below =
    agree_at (has_flag CLASSES (flag_of class)) (test_of class) 256 (agree class) b below
