-- What a writer in lines adds is laid.
use Rattle.std.proofs.Common.{◌≡◌, ◌⊎◌, ℕ, ◌+◌, ◌<◌, Bool, true, false, List, [], ◌∷◌, ◌++◌, length}
use Rattle.std.proofs.Common.{nat_le, refl, sym, ap, ◌∙◌, subst, inl, inr, append_assoc, append-nil}
use Rattle.std.proofs.Common.{length-append, arith}
use Rattle.std.proofs.lemmas.Bool.Decides.{nat_tests}
use Rattle.pgn_game.specs.Public.TextLines.{joined, tokens_of, text_of, IsLine, IsFull, AreLines}
use Rattle.pgn_game.specs.Public.TextLines.{TokensHaveAText}
use Rattle.pgn_game.specs.Private.LineWrappers.{added, parted, column_after, AddedIsLaid}

-- a line and one token more
joined_more : (first : List ℕ) (line : List (List ℕ)) (token : List ℕ)
    → joined ((first ∷ line) ++ token ∷ []) ≡ joined (first ∷ line) ++ 32 ∷ token
joined_more first [] token = refl
joined_more first (next ∷ line) token =
    ap (λ bytes. first ++ 32 ∷ bytes) (joined_more next line token)
    ∙ sym (append_assoc first (32 ∷ joined (next ∷ line)) (32 ∷ token))

longer : (first : List ℕ) (line : List (List ℕ)) (token : List ℕ)
    → length (joined ((first ∷ line) ++ token ∷ []))
    ≡ length (joined (first ∷ line)) + 1 + length token
longer first line token =
    let a : length (joined ((first ∷ line) ++ token ∷ []))
    ≡ length (joined (first ∷ line)) + length (32 ∷ token) =
    ap length (joined_more first line token) ∙ length-append (joined (first ∷ line)) (32 ∷ token) in
    let b : length (32 ∷ token) ≡ 1 + length token = omega arith in
    omega arith

fits_or_not : (a b : ℕ) → (nat_le a b ≡ true) ⊎ (nat_le a b ≡ false)
fits_or_not a b = by (nat_le a b) refl
  where
    by : (x : Bool) → nat_le a b ≡ x → (nat_le a b ≡ true) ⊎ (nat_le a b ≡ false)
    by true e = inl e
    by false e = inr e

-- lines after a first line that stands already
pub record LaidOn (width : ℕ) (first : List ℕ) (line : List (List ℕ)) (tokens : List (List ℕ))
    (text : List ℕ) : Type 0 where
  pub own : List (List ℕ)
  pub lines : List (List (List ℕ))
  pub all : own ++ tokens_of lines ≡ tokens
  pub is_line : IsLine width (first ∷ (line ++ own))
  pub is_full : IsFull width (first ∷ (line ++ own)) lines
  pub are_lines : AreLines width lines
  pub spells : joined (first ∷ line) ++ text ≡ joined (first ∷ (line ++ own)) ++ 10 ∷ text_of lines

still_line : (width : ℕ) (first : List ℕ) (line : List (List ℕ)) (token : List ℕ)
    → nat_le (length (joined (first ∷ line)) + 1 + length token) width ≡ true
    → IsLine width (first ∷ (line ++ token ∷ []))
still_line width first [] token fits = let e = longer first [] token in grind (arith, nat_tests)
still_line width first (next ∷ line) token fits = let e = longer first (next ∷ line) token in
    grind (arith, nat_tests)

pub laid_on : (tokens : List (List ℕ)) (width : ℕ) (first : List ℕ) (line : List (List ℕ))
    → IsLine width (first ∷ line)
    → LaidOn width first line tokens (added width (length (joined (first ∷ line))) tokens)
laid_on [] width first line is_line = record {
  own = [];
  lines = [];
  all = refl;
  is_line = subst (λ l. IsLine width (first ∷ l)) (sym (append-nil line)) is_line;
  is_full = record {};
  are_lines = record {};
  spells = ap (λ l. joined (first ∷ l) ++ 10 ∷ []) (sym (append-nil line));
}
laid_on (token ∷ tokens) width first line is_line =
    by (fits_or_not (column + 1 + length token) width)
    (λ fits. laid_on tokens width first (line ++ token
    ∷ []) (still_line width first line token fits)) (laid_on tokens width token [] (record {}))
  where
    column : ℕ
    column = length (joined (first ∷ line))

    written : Bool → List ℕ
    written b = parted b token ++ added width (column_after b column (length token)) tokens

    by : (nat_le (column + 1 + length token) width ≡ true)
        ⊎ (nat_le (column + 1 + length token) width ≡ false)
        → (nat_le (column + 1 + length token) width ≡ true
        → LaidOn width first (line ++ token
        ∷ []) tokens (added width (length (joined (first ∷ (line ++ token ∷ [])))) tokens))
        → LaidOn width token [] tokens (added width (length token) tokens)
        → LaidOn width first line (token
        ∷ tokens) (written (nat_le (column + 1 + length token) width))
    by (inl fits) on new = let r = on fits in
        let assoc : (line ++ token ∷ []) ++ r.own ≡ line ++ token ∷ r.own =
        append_assoc line (token ∷ []) r.own in
        let long : length (joined (first ∷ (line ++ token ∷ []))) ≡ column + 1 + length token =
        longer first line token in
        record {
          own = token ∷ r.own;
          lines = r.lines;
          all = ap (λ ts. token ∷ ts) r.all;
          is_line = subst (λ l. IsLine width (first ∷ l)) assoc r.is_line;
          is_full = subst (λ l. IsFull width (first ∷ l) r.lines) assoc r.is_full;
          are_lines = r.are_lines;
          spells = ap (λ b. joined (first ∷ line) ++ written b) fits
              ∙ sym (append_assoc (joined (first ∷ line)) (32
              ∷ token) (added width (column + 1 + length token) tokens))
              ∙ ap (λ bytes. bytes ++ added width (column + 1 + length token) tokens)
              (sym (joined_more first line token))
              ∙ ap (λ n. joined (first ∷ (line ++ token ∷ [])) ++ added width n tokens) (sym long)
              ∙ r.spells ∙ ap (λ l. joined (first ∷ l) ++ 10 ∷ text_of r.lines) assoc;
        }
    by (inr past) on new =
        record {
          own = [];
          lines = (token ∷ new.own) ∷ new.lines;
          all = ap (λ ts. token ∷ ts) new.all;
          is_line = subst (λ l. IsLine width (first ∷ l)) (sym (append-nil line)) is_line;
          is_full =
              subst (λ l. width < length (joined (first ∷ (l ++ token ∷ []))))
              (sym (append-nil line))
              (let e = longer first line token in grind (arith, nat_tests));
          are_lines = (new.is_line, new.is_full, new.are_lines);
          spells = ap (λ b. joined (first ∷ line) ++ written b) past
              ∙ ap (λ bytes. joined (first ∷ line) ++ 10 ∷ bytes) (new.spells
              ∙ sym (append_assoc (joined (token ∷ new.own)) (10 ∷ []) (text_of new.lines)))
              ∙ ap (λ l. joined (first ∷ l) ++ 10
              ∷ text_of ((token ∷ new.own) ∷ new.lines)) (sym (append-nil line));
        }

pub added_is_laid : AddedIsLaid
added_is_laid width first rest =
    let r = laid_on rest width first [] (record {}) in
    record {
      lines = (first ∷ r.own) ∷ r.lines;
      all = ap (λ ts. first ∷ ts) r.all;
      are_lines = (r.is_line, r.is_full, r.are_lines);
      spells = r.spells ∙ sym (append_assoc (joined (first ∷ r.own)) (10 ∷ []) (text_of r.lines));
    }

pub some_text : TokensHaveAText
some_text width [] = ([], record { lines = []; all = refl; are_lines = record {}; spells = refl })
some_text width (first ∷ rest) =
    (first ++ added width (length first) rest, added_is_laid width first rest)
