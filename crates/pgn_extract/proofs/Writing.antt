-- Bytes written one piece after another.
use Rattle.std.proofs.Common.{◌≡◌, ℕ, ◌+◌, ◌-◌, ◌≤◌, Bool, false, List, [], ◌++◌, length, take}
use Rattle.std.proofs.Common.{drop, Option, Some, None, sym, ap, ◌∙◌, subst, append_assoc}
use Rattle.std.specs.Io.KnownBytes.{Appends, Keeps}
use Rattle.std.specs.Prelude.{◌||◌, ◌&&◌}
use Rattle.std.proofs.lemmas.Bool.{or_from, and_left}
use Rattle.std.proofs.lemmas.List.{append-nil, take_rest}
use Rattle.std.proofs.Math.Seq.{take-add}

-- nothing is added
pub appends_none : (old : Option (List ℕ)) → Appends old old []
appends_none None = tt
appends_none (Some xs) = sym (append-nil xs)

-- some bytes, and then others
pub appends_join : (old mid new : Option (List ℕ)) (front back : List ℕ) → Appends old mid front
    → Appends mid new back → Appends old new (front ++ back)
appends_join None mid new front back a b = tt
appends_join (Some xs) None new front back a b = absurd a
appends_join (Some xs) (Some ys) None front back a b = absurd b
appends_join (Some xs) (Some ys) (Some zs) front back a b =
    b ∙ ap (λ t. t ++ back) a ∙ append_assoc xs front back

-- four pieces, of which the second and the third are a title
pub appends_titled : (a b c d e : Option (List ℕ)) (front title name gap back : List ℕ)
    → title ≡ name ++ gap
    → Appends a b front → Appends b c name → Appends c d gap → Appends d e back
    → Appends a e (front ++ (title ++ back))
appends_titled a b c d e front title name gap back parted first second third last =
    appends_join a b e front (title ++ back) first
    (appends_join b d e title back
    (subst (Appends b d) (sym parted) (appends_join b c d name gap second third)) last)

-- what stays adds nothing
pub appends_kept : (old mid new : Option (List ℕ)) (front : List ℕ) → Appends old mid front
    → Keeps mid new → Appends old new front
appends_kept None mid new front a k = tt
appends_kept (Some xs) None new front a k = absurd a
appends_kept (Some xs) (Some ys) None front a k = absurd k
appends_kept (Some xs) (Some ys) (Some zs) front a k = k ∙ a

-- the first bytes are written
pub record Writing (bytes : List ℕ) (at : ℕ) (old now : Option (List ℕ)) (faulted : Bool) : Type 0
  where
    pub within : at ≤ length bytes
    pub sound : faulted ≡ false
    pub written : Appends old now (take at bytes)

-- and some more of them
pub writing_more : {bytes : List ℕ} {at : ℕ} {old now : Option (List ℕ)} {faulted : Bool}
    → Writing bytes at old now faulted → (new : Option (List ℕ)) (count : ℕ)
    → Appends now new (take count (take (length bytes - at) (drop at bytes)))
    → Appends old new (take (at + count) bytes)
writing_more {bytes} {at} {old} {now} w new count more =
    subst (Appends old new) (ap (λ t. take at bytes ++ take count t) (take_rest bytes at)
    ∙ sym (take-add at count bytes))
    (appends_join old now new (take at bytes)
    (take count (take (length bytes - at) (drop at bytes))) w.written more)

-- a sound writer that took some bytes is sound
pub still_sound : (was none some : Bool) → was ≡ false → none ≡ false
    → (was || (none && some)) ≡ false
still_sound was none some a b = or_from was (none && some) a (and_left none some b)
