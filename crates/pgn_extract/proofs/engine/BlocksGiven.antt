-- The blocks that were given so far, and those that the bytes ahead and the bytes still to be read
-- will give.
use Rattle.std.specs.Prelude.{◌≢◌}
use Rattle.std.proofs.lemmas.List.{append-nil}
use Rattle.pgn_extract.proofs.Common.{◌≡◌, false, length, Option, subst, arith, append_assoc}
use Rattle.pgn_extract.proofs.Common.{length-append, ℕ, ◌+◌, Bool, true, List, [], ◌∷◌, ◌++◌, refl}
use Rattle.pgn_extract.proofs.Common.{sym, ap, ◌∙◌, inl, inr, cases_Bool, both_ways}
use Rattle.pgn_extract.proofs.Common.{AreCompletePieces, MarkedPiece, AreOfBlock, AreOfBlocks}
use Rattle.pgn_extract.proofs.Common.{AreMarkedPieces, Window, IsCutOff, no_bytes}
use Rattle.pgn_text.specs.Public.Blocks.{IsFirstBlock, AreBlocks}
use Rattle.pgn_text.proofs.MarkedPieces.{of_blocks_exist}
use Rattle.pgn_text.proofs.OneBlocks.{blocks_exist}

-- the blocks that are still to come: none once the last was given
abbrev pub AreLeft : Bool → List (List ℕ) → List ℕ → Type 0
AreLeft true more text = (more ≡ []) × (text ≡ [])
AreLeft false more text = AreBlocks more text

-- some blocks with the bytes `bytes` were given, and have the pieces; those still to come complete
-- them
pub record Given (limit max_depth offset : ℕ) (now : Window) (bytes : List ℕ)
    (pieces : List MarkedPiece) : Type 0 where
  pub blocks : List (List ℕ)
  pub place : now.place ≡ offset + length bytes
  pub leads : (rest : List ℕ) (more : List (List ℕ)) → (now.ended ≡ true → rest ≡ [])
      → AreLeft now.ended more (now.ahead ++ rest)
      → AreBlocks (blocks ++ more) (bytes ++ (now.ahead ++ rest))
  pub each : (more : List (List ℕ)) (others : List MarkedPiece)
      → AreOfBlocks limit max_depth (offset + length bytes) more others
      → AreOfBlocks limit max_depth offset (blocks ++ more) (pieces ++ others)

-- at the start none is given
pub none_given : {limit max_depth offset : ℕ} {now : Window} → now.place ≡ offset
    → now.ended ≡ false → Given limit max_depth offset now [] []
none_given {limit} {max_depth} {offset} {now} place going = record {
  blocks = [];
  place = place ∙ omega arith;
  leads = λ rest more end left. subst (λ e. AreLeft e more (now.ahead ++ rest)) going left;
  each = λ more others of. subst (λ o. AreOfBlocks limit max_depth o more others) (omega arith) of;
}

-- a block before those that are left
lead : (ended : Bool) (block : List ℕ) (more : List (List ℕ)) (rest : List ℕ)
    → IsFirstBlock block rest → (ended ≡ false → rest ≢ []) → AreLeft ended more rest
    → AreBlocks (block ∷ more) (block ++ rest)
lead true block more rest first some left = ended more rest left.0 left.1 first
  where
    ended : (m : List (List ℕ)) (r : List ℕ) → m ≡ [] → r ≡ [] → IsFirstBlock block r
        → AreBlocks (block ∷ m) (block ++ r)
    ended [] r none end f =
        (ap (λ t. block ++ t) end ∙ append-nil block, subst (IsFirstBlock block) end f)
    ended (x ∷ m) r none end f = cc
lead false block [] rest first some left = absurd left
lead false block (next ∷ more) rest first some left = (rest, refl, some refl, first, left)

module _ {limit max_depth offset : ℕ} {now : Window} {bytes : List ℕ} {pieces : List MarkedPiece}
    (given : Given limit max_depth offset now bytes pieces) where
  -- one more block
  pub one_given : {next : Window} {left' : Option (List ℕ)} {read block : List ℕ}
      {own : List MarkedPiece} {from : ℕ} → IsCutOff now next left' read block
      → from + length block ≡ next.place → AreOfBlock limit max_depth from block own
      → Given limit max_depth offset next (bytes ++ block) (pieces ++ own)
  one_given {next} {left'} {read} {block} {own} {from} cut from_is of = record {
    blocks = given.blocks ++ block ∷ [];
    place = let p = cut.place in let q = given.place in omega (arith, length-append bytes block);
    leads = λ rest more end left.
        let text : now.ahead ++ (read ++ rest) ≡ block ++ (next.ahead ++ rest) =
        sym (append_assoc now.ahead read rest) ∙ ap (λ t. t ++ rest) cut.parted
        ∙ append_assoc block next.ahead rest in
        let some : next.ended ≡ false → next.ahead ++ rest ≢ [] =
        λ going none. cut.more going (no_bytes next.ahead rest none) in
        let all : AreBlocks (block ∷ more) (now.ahead ++ (read ++ rest)) =
        subst (AreBlocks (block ∷ more)) (sym text)
        (lead next.ended block more (next.ahead ++ rest) (cut.first rest end) some left) in
        let before = given.leads (read ++ rest) (block ∷ more) (λ ended.
        absurd (both_ways now.ended cut.going ended))
        (subst (λ e. AreLeft e (block ∷ more) (now.ahead ++ (read ++ rest))) (sym cut.going) all) in
        subst (AreBlocks ((given.blocks ++ block ∷ []) ++ more)) (ap (λ t. bytes ++ t) text
        ∙ sym (append_assoc bytes block (next.ahead ++ rest)))
        (subst (λ b. AreBlocks b (bytes ++ (now.ahead ++ (read ++ rest))))
        (sym (append_assoc given.blocks (block ∷ []) more)) before);
    each = λ more others others_of.
        let here : from ≡ offset + length bytes =
        (let p = cut.place in let q = given.place in omega arith) in
        let there : offset + length (bytes ++ block) ≡ offset + length bytes + length block =
        omega (arith, length-append bytes block) in
        let both : AreOfBlocks limit max_depth (offset + length bytes) (block ∷ more) (own
        ++ others) = (
          own,
          others,
          refl,
          subst (λ o. AreOfBlock limit max_depth o block own) here of,
          subst (λ o. AreOfBlocks limit max_depth o more others) there others_of,
        ) in
        subst (λ b. AreOfBlocks limit max_depth offset b ((pieces ++ own) ++ others))
        (sym (append_assoc given.blocks (block ∷ []) more))
        (subst (AreOfBlocks limit max_depth offset (given.blocks ++ block ∷ more))
        (sym (append_assoc pieces own others))
        (given.each (block ∷ more) (own ++ others) both));
  }

  -- the pieces of the blocks given
  pieces_given : AreOfBlocks limit max_depth offset given.blocks pieces
  pieces_given =
      subst (λ b. AreOfBlocks limit max_depth offset b pieces) (append-nil given.blocks)
      (subst (AreOfBlocks limit max_depth offset (given.blocks ++ [])) (append-nil pieces)
      (given.each [] [] refl))

  -- all are given at the end
  pub all_given : now.ended ≡ true → now.ahead ≡ []
      → AreMarkedPieces limit max_depth offset bytes pieces
  all_given ended none = record {
    blocks = given.blocks;
    parted =
        let end : now.ahead ++ [] ≡ [] = append-nil now.ahead ∙ none in
        let whole : bytes ++ (now.ahead ++ []) ≡ bytes =
        ap (λ t. bytes ++ t) end ∙ append-nil bytes in
        subst (AreBlocks given.blocks) whole
        (subst (λ b. AreBlocks b (bytes ++ (now.ahead ++ []))) (append-nil given.blocks)
        (given.leads [] [] (λ _.
        refl) (subst (λ e. AreLeft e [] (now.ahead ++ [])) (sym ended) (refl, end))));
    each = pieces_given;
  }

  -- all but the last, which is broken off
  pub all_but_last : (read : List ℕ) → now.ended ≡ false → IsFirstBlock (now.ahead ++ read) []
      → AreCompletePieces limit max_depth offset (bytes ++ (now.ahead ++ read)) pieces
  all_but_last read going first = record {
    blocks = given.blocks;
    complete = record {
      last = now.ahead ++ read;
      parted = given.leads read ((now.ahead ++ read) ∷ []) (λ ended.
          absurd (both_ways now.ended going ended))
          (subst (λ e. AreLeft e ((now.ahead ++ read) ∷ []) (now.ahead ++ read)) (sym going)
          (refl, first));
    };
    each = pieces_given;
  }

  -- whatever is still to be read, there are pieces that begin with those given
  pub goes_on : (rest : List ℕ) → (now.ended ≡ true → (now.ahead ≡ []) × (rest ≡ []))
      → (others : List MarkedPiece)
      × AreMarkedPieces limit max_depth offset (bytes ++ (now.ahead ++ rest)) (pieces ++ others)
  goes_on rest end = elim (cases_Bool now.ended) [
    | inl ended ↦
        let none : now.ahead ++ rest ≡ [] = ap (λ t. t ++ rest) (end ended).0 ∙ (end ended).1 in
        with_left [] (λ _. (end ended).1)
        (subst (λ e. AreLeft e [] (now.ahead ++ rest)) (sym ended) (refl, none))
    | inr going ↦
        let blocks = blocks_exist (now.ahead ++ rest) in
        with_left blocks.0 (λ ended. absurd (both_ways now.ended going ended))
        (subst (λ e. AreLeft e blocks.0 (now.ahead ++ rest)) (sym going) blocks.1)
  ]
    where
      with_left : (more : List (List ℕ)) → (now.ended ≡ true → rest ≡ [])
          → AreLeft now.ended more (now.ahead ++ rest) → (others : List MarkedPiece)
          × AreMarkedPieces limit max_depth offset (bytes ++ (now.ahead ++ rest)) (pieces
          ++ others)
      with_left more none left =
          let others = of_blocks_exist limit max_depth (offset + length bytes) more in (
            others.0,
            record {
              blocks = given.blocks ++ more;
              parted = given.leads rest more none left;
              each = given.each more others.0 others.1;
            },
          )
