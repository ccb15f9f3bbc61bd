-- The blocks of a text in memory, call by call.
use Rattle.std.proofs.Common.{Some}
use Rattle.pgn_text.proofs.Common.{◌≡◌, ◌≢◌, ℕ, ◌+◌, ◌<◌, Bool, true, false, List, [], ◌∷◌, ◌++◌}
use Rattle.pgn_text.proofs.Common.{map, length, refl, sym, ap, subst, ◌∙◌, inl, inr, arith}
use Rattle.pgn_text.proofs.Common.{append_assoc, append-nil, length-append, cases_Bool, both_ways}
use Rattle.pgn_text.proofs.Common.{map-append, IsFirstBlock, AreBlocks, Window, IsCutOff}
use Rattle.pgn_text.proofs.OneBlocks.{empty_first}
use Rattle.pgn_text.proofs.OneList.{no_bytes}

-- the blocks that are still to come: none once the last was given
abbrev pub AreLeft : Bool → List (List ℕ) → List ℕ → Type 0
AreLeft true more text = more ≡ []
AreLeft false more text = AreBlocks more text

-- these sizes are those of the blocks given so far, and the blocks of the bytes ahead and those
-- left to read complete them
pub record Sized (text : List ℕ) (now : Window) (left : List ℕ) (sizes : List ℕ) : Type 0 where
  pub blocks : List (List ℕ)
  pub sized : sizes ≡ map length blocks
  pub leads : (more : List (List ℕ)) → AreLeft now.ended more (now.ahead ++ left)
      → AreBlocks (blocks ++ more) text

-- one call for each block, and one for the end
abbrev pub turns : Bool → ℕ
turns true = 0
turns false = 1

-- the bytes of a block and what follows it are those that were ahead or left
pub cut_text : (now next : Window) (left left' read block : List ℕ)
    → IsCutOff now next (Some left') read block → left ≡ read ++ left'
    → now.ahead ++ left ≡ block ++ (next.ahead ++ left')
cut_text now next left left' read block cut reads =
    ap (λ t. now.ahead ++ t) reads ∙ sym (append_assoc now.ahead read left')
    ∙ ap (λ t. t ++ left') cut.parted
    ∙ append_assoc block next.ahead left'

-- a block before more bytes has some
pub some_bytes : (ahead block : List ℕ) → ahead ≢ [] → IsFirstBlock block (ahead ++ [])
    → 0 < length block
some_bytes ahead [] more first =
    absurd (more (sym (append-nil ahead) ∙ empty_first (ahead ++ []) first))
some_bytes ahead (x ∷ block) more first = omega arith

-- less is left after each block
pub fewer_left : (now next : Window) (left left' read block : List ℕ)
    → IsCutOff now next (Some left') read block → left ≡ read ++ left'
    → length next.ahead + length left' + turns next.ended
    < length now.ahead + length left + turns now.ended
fewer_left now next left left' read block cut reads =
    let before : turns now.ended ≡ 1 = ap turns cut.going in
    let size = ap length (cut_text now next left left' read block cut reads) in
    let total : length now.ahead + length left ≡ length block + (length next.ahead + length left') =
    omega (
      arith,
      size,
      length-append now.ahead left,
      length-append block (next.ahead ++ left'),
      length-append next.ahead left',
    ) in
    elim (cases_Bool next.ended) [
      | inl ended ↦ let after : turns next.ended ≡ 0 = ap turns ended in omega arith
      | inr going ↦
          let after : turns next.ended ≡ 1 = ap turns going in
          let some : 0 < length block =
          some_bytes next.ahead block (cut.more going) (cut.first [] (λ _. refl)) in
          omega arith
    ]

-- one block more
pub one_sized : (text : List ℕ) (now next : Window) (left left' read block sizes : List ℕ)
    (size : ℕ) → Sized text now left sizes
    → IsCutOff now next (Some left') read block → left ≡ read ++ left' → size ≡ length block
    → Sized text next left' (sizes ++ size ∷ [])
one_sized text now next left left' read block sizes size s cut reads is = record {
  blocks = s.blocks ++ block ∷ [];
  sized = ap (λ l. l ++ size ∷ []) s.sized ∙ ap (λ n. map length s.blocks ++ n ∷ []) is
      ∙ sym (simp map-append);
  leads = λ more are.
      rw (append_assoc s.blocks (block ∷ []) more) (s.leads (block ∷ more) (rw cut.going (subst
      (AreBlocks (block ∷ more)) (sym (cut_text now next left left' read block cut reads)) (lead
      next.ended refl more are))));
}
  where
    lead : (ended : Bool) → next.ended ≡ ended → (more : List (List ℕ))
        → AreLeft ended more (next.ahead ++ left')
        → AreBlocks (block ∷ more) (block ++ (next.ahead ++ left'))
    lead true ended [] none =
        let nothing : next.ahead ++ left' ≡ [] =
        ap (λ t. t ++ left') (cut.last ended).0 ∙ (cut.last ended).1 in (
          ap (λ t. block ++ t) nothing ∙ append-nil block,
          subst (IsFirstBlock block) nothing (cut.first left' (λ _. (cut.last ended).1)),
        )
    lead true ended (x ∷ more) none = cc
    lead false going [] are = absurd are
    lead false going (x ∷ more) are = (
      next.ahead ++ left',
      refl,
      (λ none. cut.more going (no_bytes next.ahead left' none)),
      cut.first left' (λ ended. absurd (both_ways next.ended going ended)),
      are,
    )

-- after the last block all are given
pub all_sized : (text left sizes : List ℕ) (now : Window) → Sized text now left sizes
    → now.ended ≡ true
    → (blocks : List (List ℕ)) × AreBlocks blocks text × (sizes ≡ map length blocks)
all_sized text left sizes now s ended = (
  s.blocks,
  subst (λ l. AreBlocks l text) (append-nil s.blocks)
      (s.leads [] (subst (λ e. AreLeft e [] (now.ahead ++ left)) (sym ended) refl)),
  s.sized,
)
