-- Each text has a list of blocks, and only one.
use Rattle.std.specs.Prelude.{◌≢◌, ◌⊎◌, IsTrue}
use Rattle.std.proofs.lemmas.List.{append-nil}
use Rattle.pgn_text.proofs.Common.{◌≡◌, ℕ, suc, ◌-◌, true, false, List, [], ◌∷◌, ◌++◌, length}
use Rattle.pgn_text.proofs.Common.{get_or, refl, sym, ap, ◌∙◌, arith, inl, inr, ◌&&◌, ◌==◌, nat_eq}
use Rattle.pgn_text.proofs.Common.{starts_with, cases_Bool, both_ways, false≢true, and_right}
use Rattle.pgn_text.proofs.Common.{event_line, is_event_line, IsFirstBlock, AreBlocks}
use Rattle.pgn_text.proofs.OneList.{no_bytes}

-- two cuts of one text: one of the fronts begins the other
cuts : (a b rest rest' : List ℕ) → a ++ rest ≡ b ++ rest'
    → ((y : List ℕ) × (b ≡ a ++ y) × (rest ≡ y ++ rest'))
    ⊎ ((y : List ℕ) × (a ≡ b ++ y) × (rest' ≡ y ++ rest))
cuts [] b rest rest' e = inl (b, refl, e)
cuts (x ∷ a) [] rest rest' e = inr (x ∷ a, refl, sym e)
cuts (x ∷ a) (z ∷ b) rest rest' e =
    let first : x ≡ z = cc in
    let others : a ++ rest ≡ b ++ rest' = cc in
    elim (cuts a b rest rest' others) [
      | inl h ↦ inl (h.0, (let f = h.1 in cc), h.2)
      | inr h ↦ inr (h.0, (let f = h.1 in cc), h.2)
    ]

-- after a byte an event line does not depend on the bytes before it
event_line_after : (x y : ℕ) (ys after : List ℕ)
    → is_event_line (x ∷ y ∷ ys) after ≡ is_event_line (y ∷ ys) after
event_line_after x y ys after =
    let place : length (x ∷ y ∷ ys) - 1 ≡ suc (length (y ∷ ys) - 1) = omega arith in
    ap (λ k. (get_or (x ∷ y ∷ ys) k 0 == 10) && starts_with nat_eq after event_line) place

-- a first block is empty only where nothing follows
pub empty_first : (rest : List ℕ) → IsFirstBlock [] rest → rest ≡ []
empty_first [] first = refl
empty_first (x ∷ rest) first = absurd (false≢true (first.ends (λ e. cc)))

-- of two first blocks one goes no further than the other
no_further : (a y rest : List ℕ) → IsFirstBlock a (y ++ rest) → IsFirstBlock (a ++ y) rest → y ≡ []
no_further a [] rest short long = refl
no_further [] (b ∷ y) rest short long = absurd (let k = empty_first (b ∷ y ++ rest) short in cc)
no_further (x ∷ a) (b ∷ y) rest short long =
    absurd (long.whole (x ∷ a) (b ∷ y) refl (λ e. cc) (λ e. cc) (short.ends (λ e. cc)))

-- a text has one first block
pub one_first_block : (a b rest rest' : List ℕ) → a ++ rest ≡ b ++ rest' → IsFirstBlock a rest
    → IsFirstBlock b rest' → (a ≡ b) × (rest ≡ rest')
one_first_block a b rest rest' e first other =
    elim (cuts a b rest rest' e) [
      | inl h ↦
          let none = no_further a h.0 rest' (rw h.2 at first) (rw h.1 at other) in (
            sym (append-nil a) ∙ ap (λ t. a ++ t) (sym none) ∙ sym h.1,
            h.2 ∙ ap (λ t. t ++ rest') none,
          )
      | inr h ↦
          let none = no_further b h.0 rest (rw h.2 at other) (rw h.1 at first) in
          (h.1 ∙ ap (λ t. b ++ t) none ∙ append-nil b, sym (h.2 ∙ ap (λ t. t ++ rest) none))
    ]

-- a text has one list of blocks
pub one_blocks : (xs ys : List (List ℕ)) (text : List ℕ) → AreBlocks xs text → AreBlocks ys text
    → xs ≡ ys
one_blocks [] ys text h k = absurd h
one_blocks (a ∷ []) [] text h k = absurd k
one_blocks (a ∷ []) (b ∷ []) text h k = ap (λ t. t ∷ []) (sym h.0 ∙ k.0)
one_blocks (a ∷ []) (b ∷ c ∷ ys) text h k =
    absurd (k.2 (sym (one_first_block a b [] k.0 (append-nil a ∙ sym h.0 ∙ k.1) h.1 k.3).1))
one_blocks (a ∷ d ∷ xs) [] text h k = absurd k
one_blocks (a ∷ d ∷ xs) (b ∷ []) text h k =
    absurd (h.2 (one_first_block a b h.0 [] (sym h.1 ∙ k.0 ∙ sym (append-nil b)) h.3 k.1).1)
one_blocks (a ∷ d ∷ xs) (b ∷ c ∷ ys) text h k =
    let same = one_first_block a b h.0 k.0 (sym h.1 ∙ k.1) h.3 k.3 in
    let others = one_blocks (d ∷ xs) (c ∷ ys) k.0 (rw same.1 at h.4) k.4 in
    let first : a ≡ b = same.0 in
    let rest : d ∷ xs ≡ c ∷ ys = others in
    cc

-- a byte before a first block joins it, unless the block begins with an event line
joined : (x : ℕ) (block rest : List ℕ) → is_event_line (x ∷ []) (block ++ rest) ≡ false
    → IsFirstBlock block rest → IsFirstBlock (x ∷ block) rest
joined x block rest none first = record { ends = ends block first; whole = whole }
  where
    ends : (b : List ℕ) → IsFirstBlock b rest → rest ≢ [] → IsTrue (is_event_line (x ∷ b) rest)
    ends [] f some = absurd (some (empty_first rest f))
    ends (y ∷ ys) f some = event_line_after x y ys rest ∙ f.ends some

    whole : (p q : List ℕ) → x ∷ block ≡ p ++ q → p ≢ [] → q ≢ []
        → IsTrue (is_event_line p (q ++ rest)) → ⊥
    whole [] q e some other here = some refl
    whole (z ∷ []) q e some other here =
        let same : x ≡ z = cc in
        let after : block ≡ q = cc in
        both_ways (is_event_line (x ∷ []) (block ++ rest)) none
        (ap (λ b. is_event_line (b ∷ []) (block ++ rest)) same
        ∙ ap (λ t. is_event_line (z ∷ []) (t ++ rest)) after ∙ here)
    whole (z ∷ y ∷ p) q e some other here =
        let after : block ≡ (y ∷ p) ++ q = cc in
        first.whole (y ∷ p) q after (λ n. cc) other (sym (event_line_after z y p (q ++ rest))
        ∙ here)

-- a byte before a text joins its first block
more_blocks : (x : ℕ) (text : List ℕ) (blocks : List (List ℕ)) → is_event_line (x ∷ []) text ≡ false
    → AreBlocks blocks text
    → (all : List (List ℕ)) × AreBlocks all (x ∷ text)
more_blocks x text [] none h = absurd h
more_blocks x text (b ∷ []) none h = (
  (x ∷ b) ∷ [],
  (
    ap (λ t. x ∷ t) h.0,
    joined x b [] (ap (is_event_line (x ∷ [])) (append-nil b ∙ sym h.0) ∙ none) h.1,
  ),
)
more_blocks x text (b ∷ c ∷ more) none h = (
  (x ∷ b) ∷ c ∷ more,
  (
    h.0,
    ap (λ t. x ∷ t) h.1,
    h.2,
    joined x b h.0 (ap (is_event_line (x ∷ [])) (sym h.1) ∙ none) h.3,
    h.4,
  ),
)

-- a byte before a text that begins with an event line is a block of its own
own_block : (x : ℕ) (text : List ℕ) (blocks : List (List ℕ)) → is_event_line (x ∷ []) text ≡ true
    → AreBlocks blocks text
    → (all : List (List ℕ)) × AreBlocks all (x ∷ text)
own_block x text [] here h = absurd h
own_block x text (b ∷ more) here h = (
  (x ∷ []) ∷ b ∷ more,
  (text, refl, some text here, record { ends = λ _. here; whole = alone }, h),
)
  where
    some : (t : List ℕ) → is_event_line (x ∷ []) t ≡ true → t ≢ []
    some t seen none =
        both_ways (is_event_line (x ∷ []) [])
        (and_right (x == 10) (starts_with nat_eq [] event_line) refl)
        (ap (is_event_line (x ∷ [])) (sym none) ∙ seen)

    alone : (p q : List ℕ) → x ∷ [] ≡ p ++ q → p ≢ [] → q ≢ []
        → IsTrue (is_event_line p (q ++ text)) → ⊥
    alone [] q e p_some q_some line = p_some refl
    alone (z ∷ []) q e p_some q_some line = q_some (let k : [] ≡ q = cc in sym k)
    alone (z ∷ y ∷ p) q e p_some q_some line = cc

-- the one block of no text
pub empty_block : IsFirstBlock [] []
empty_block =
    record {
      ends = λ some. absurd (some refl);
      whole =
          λ x y e some other here. some (no_bytes x y (sym e));
    }

-- each text has a list of blocks
pub blocks_exist : (text : List ℕ) → (blocks : List (List ℕ)) × AreBlocks blocks text
blocks_exist [] = ([] ∷ [], (refl, empty_block))
blocks_exist (x ∷ text) =
    let rest = blocks_exist text in
    elim (cases_Bool (is_event_line (x ∷ []) text)) [
      | inl here ↦ own_block x text rest.0 here rest.1
      | inr none ↦ more_blocks x text rest.0 none rest.1
    ]
