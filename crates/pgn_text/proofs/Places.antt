-- Parts at places of a block.
use Rattle.std.specs.Prelude.{Option, Some, None, option_map, option_and_then, ◌==◌, nat_eq}
use Rattle.std.proofs.lemmas.List.{take_at, drop_at}
use Rattle.pgn_text.proofs.Common.{◌≡◌, ℕ, ◌+◌, ◌-◌, ◌≤◌, Bool, true, false, List, [], ◌∷◌, ◌++◌}
use Rattle.pgn_text.proofs.Common.{length, take, drop, refl, sym, ap, ◌∙◌, subst, append_assoc}
use Rattle.pgn_text.proofs.Common.{arith, length-append, length-drop, starts_with, option_or}
use Rattle.pgn_text.proofs.Common.{cond_both, take-append-drop, length-take-le, nil_from_length}
use Rattle.pgn_text.proofs.Common.{is_white, is_word_byte, is_mark, is_digit, is_name_byte}
use Rattle.pgn_text.proofs.Common.{is_not_brace, is_empty, run_of, after_run, Part, Tag, Brace}
use Rattle.pgn_text.proofs.Common.{Standing, Stands, spelled_part, standing_of, is_gap_part, Kept}
use Rattle.pgn_text.proofs.Common.{kept, gap_front, tag_front, tag_string, tag_end, kept_found}
use Rattle.pgn_text.proofs.Common.{part_front, game_front, rest_after, is_glyph, contents_front}
use Rattle.pgn_text.proofs.Common.{PartAt, KeptAt, NothingAt, GapPartAt, NoGapPartAt}
use Rattle.pgn_text.proofs.laws.PartLemmas.{part_has_byte, stands-read}
use Rattle.pgn_text.proofs.FoundLemmas.{IsFound, gap-found, read-stands}

-- a part that stands in a block ends at a place of the block
pub part_placed : (f : Bool) (block : List ℕ) (at : ℕ) (part : Part) (rest : List ℕ)
    → at ≤ length block
    → drop at block ≡ spelled_part part ++ rest → Stands (standing_of f (take at block)) part rest
    → PartAt f block at part (length block - length rest)
part_placed f block at part rest below parted stands =
    let front : length (take at block) ≡ at = length-take-le at block below in
    let whole : block ≡ (take at block ++ spelled_part part) ++ rest =
    sym (take-append-drop at block) ∙ ap (λ xs. take at block ++ xs) parted
    ∙ sym (append_assoc (take at block) (spelled_part part) rest) in
    let lengths : length block ≡ (at + length (spelled_part part)) + length rest =
    ap length whole ∙ length-append (take at block ++ spelled_part part) rest
    ∙ ap (λ n. n + length rest) (length-append (take at block) (spelled_part part)
    ∙ ap (λ n. n + length (spelled_part part)) front) in
    let end : length (take at block ++ spelled_part part) ≡ length block - length rest =
    length-append (take at block) (spelled_part part) ∙ (omega arith) in
    let after : drop (length block - length rest) block ≡ rest =
    ap (drop (length block - length rest)) whole
    ∙ drop_at (take at block ++ spelled_part part) rest (length block - length rest) end in
    let before : take (length block - length rest) block ≡ take at block ++ spelled_part part =
    ap (take (length block - length rest)) whole
    ∙ take_at (take at block ++ spelled_part part) rest (length block - length rest) end in
    let has_byte : length (spelled_part part) ≡ 0 → ⊥ =
    λ none. part_has_byte (standing_of f (take at block)) part rest stands
    (nil_from_length (spelled_part part) none) in
    record {
      parted = parted ∙ ap (λ xs. spelled_part part ++ xs) (sym after);
      stands = subst (Stands (standing_of f (take at block)) part) (sym after) stands;
      passed = before;
      forward = omega arith;
      within = omega arith;
    }

-- what was found is a part with what the token keeps
kept_back : (o : Option (Part × List ℕ)) (token : Kept) (rest : List ℕ)
    → Some (token, rest) ≡ option_map kept_found o
    → (part : Part) × (o ≡ Some (part, rest)) × (kept part ≡ token)
kept_back None token rest is = absurd (cc)
kept_back (Some found) token rest is =
    let of : Option (Kept × List ℕ) → Kept × List ℕ =
    λ o. elim o [ None ↦ (token, rest) | Some f ↦ f ] in
    let same : found.1 ≡ rest = sym (ap (λ o. (of o).1) is) in
    (found.0, ap (λ xs. Some (found.0, xs)) same, sym (ap (λ o. (of o).0) is))

none_back : (o : Option (Part × List ℕ)) → None ≡ option_map kept_found o → o ≡ None
none_back None is = refl
none_back (Some found) is = absurd (cc)

pub nothing_at : (f : Bool) (block : List ℕ) (at : ℕ) (place : Standing) (text : List ℕ)
    → place ≡ standing_of f (take at block) → text ≡ drop at block
    → None ≡ option_map kept_found (part_front place text) → NothingAt f block at
nothing_at f block at place text place_is text_is none part rest parted stands =
    let read : part_front place text ≡ Some (part, rest) =
    rw (place_is, text_is, parted) (stands-read (standing_of f (take at block)) part rest stands) in
    let empty : part_front place text ≡ None = none_back (part_front place text) none in
    cc

pub kept_at : (f : Bool) (block : List ℕ) (at : ℕ) (place : Standing) (text : List ℕ)
    → place ≡ standing_of f (take at block) → text ≡ drop at block → at ≤ length block
    → (token : Kept) (rest : List ℕ) → Some (token, rest)
    ≡ option_map kept_found (part_front place text)
    → KeptAt f block at token (length block - length rest)
kept_at f block at place text place_is text_is below token rest is =
    let back : (part : Part) × (part_front place text ≡ Some (part, rest)) × (kept part ≡ token) =
    kept_back (part_front place text) token rest is in
    let stands : (text ≡ spelled_part back.0 ++ rest) × Stands place back.0 rest =
    read-stands place text back.0 rest back.1 in
    record {
      part = back.0;
      found = part_placed f block at back.0 rest below (sym text_is
          ∙ stands.0) (subst (λ p. Stands p back.0 rest) place_is stands.1);
      keeps = back.2;
    }

-- what is left after a part is no longer than the block
pub rest_within : (f : Bool) (block : List ℕ) (at : ℕ) (place : Standing) (text : List ℕ)
    → text ≡ drop at block
    → (o : Option (Part × List ℕ)) → IsFound place text o → (token : Kept) (rest : List ℕ)
    → Some (token, rest) ≡ option_map kept_found o → length rest ≤ length block
rest_within f block at place text text_is o found token rest is =
    let back : (part : Part) × (o ≡ Some (part, rest)) × (kept part ≡ token) =
    kept_back o token rest is in
    let stands : IsFound place text (Some (back.0, rest)) =
    subst (IsFound place text) back.1 found in
    let lengths : length (drop at block) ≡ length (spelled_part back.0) + length rest =
    ap length (sym text_is ∙ stands.0) ∙ length-append (spelled_part back.0) rest in
    omega (arith, length-drop at block)

-- ---- which parts are those of a gap

-- what is found, if anything is, is a part of a gap, or is none
abbrev pub IsKind : Bool → Option (Part × List ℕ) → Type 0
IsKind v None = Unit {0}
IsKind v (Some found) = is_gap_part found.0 ≡ v

kind_map : (v : Bool) (o : Option (List ℕ)) (g : List ℕ → Part × List ℕ)
    → ((rest : List ℕ) → is_gap_part (g rest).0 ≡ v) → IsKind v (option_map g o)
kind_map v None g all = tt
kind_map v (Some rest) g all = all rest

kind_then : (v : Bool) (o : Option (List ℕ)) (g : List ℕ → Option (Part × List ℕ))
    → ((rest : List ℕ) → IsKind v (g rest)) → IsKind v (option_and_then g o)
kind_then v None g all = tt
kind_then v (Some rest) g all = all rest

kind_then_both : (v : Bool) (o : Option (List ℕ × List ℕ)) (g : List ℕ × List ℕ
    → Option (Part × List ℕ)) → ((found : List ℕ × List ℕ) → IsKind v (g found))
    → IsKind v (option_and_then g o)
kind_then_both v None g all = tt
kind_then_both v (Some found) g all = all found

pub gap_kind : (place : Standing) (text : List ℕ) → IsKind true (gap_front place text)
gap_kind place [] = tt
gap_kind place (b ∷ rest) =
    cond_both (is_white b) _ _ (IsKind true) (λ _. refl) (λ _.
    cond_both (b == 123) _ _ (IsKind true) (λ _.
    kind_map true (rest_after 125 (after_run is_not_brace rest)) (λ after.
    (Brace (run_of is_not_brace rest), after)) (λ _. refl)) (λ _.
    cond_both (b == 59) _ _ (IsKind true) (λ _. refl) (λ _.
    cond_both (b == 37) _ _ (IsKind true) (λ _.
    cond_both place.column_one _ _ (IsKind true) (λ _. refl) (λ _. tt)) (λ _.
    cond_both (b == 239) _ _ (IsKind true) (λ _.
    cond_both place.file_start _ _ (IsKind true) (λ _.
    cond_both (starts_with nat_eq rest (187 ∷ 191 ∷ [])) _ _ (IsKind true) (λ _. refl) (λ _.
    tt)) (λ _. tt)) (λ _.
    tt)))))

tag_end-kind : (first name second contents text : List ℕ)
    → IsKind false (tag_end first name second contents text)
tag_end-kind first name second contents text =
    kind_map false (rest_after 93 (after_run is_white text)) (λ rest.
    (Tag first name second contents (run_of is_white text), rest)) (λ _. refl)

tag_string-kind : (first name second text : List ℕ)
    → IsKind false (tag_string first name second text)
tag_string-kind first name second text =
    kind_then false (rest_after 34 text)
    (λ after.
    option_and_then (λ found.
    option_and_then (λ rest. tag_end first name second found.0 rest) (rest_after 34 found.1))
    (contents_front false after))
    (λ after. kind_then_both false (contents_front false after)
    (λ found.
    option_and_then (λ rest. tag_end first name second found.0 rest) (rest_after 34 found.1))
    (λ found. kind_then false (rest_after 34 found.1) (λ rest.
    tag_end first name second found.0 rest)
    (λ rest. tag_end-kind first name second found.0 rest)))

tag_kind : (text : List ℕ) → IsKind false (tag_front text)
tag_kind text =
    cond_both (is_empty (run_of is_name_byte (after_run is_white text))) _ _ (IsKind false) (λ _.
    tt) (λ _.
    tag_string-kind (run_of is_white text) (run_of is_name_byte (after_run is_white text))
    (run_of is_white (after_run is_name_byte (after_run is_white text)))
    (after_run is_white (after_run is_name_byte (after_run is_white text))))

pub game_kind : (text : List ℕ) → IsKind false (game_front text)
game_kind [] = tt
game_kind (b ∷ rest) =
    cond_both (is_word_byte b) _ _ (IsKind false) (λ _. refl) (λ _.
    cond_both (b == 46) _ _ (IsKind false) (λ _. refl) (λ _.
    cond_both (b == 36) _ _ (IsKind false) (λ _.
    cond_both (is_glyph (run_of is_digit rest)) _ _ (IsKind false) (λ _. refl) (λ _. tt)) (λ _.
    cond_both (is_mark b) _ _ (IsKind false) (λ _. refl) (λ _.
    cond_both (b == 40) _ _ (IsKind false) (λ _. refl) (λ _.
    cond_both (b == 41) _ _ (IsKind false) (λ _. refl) (λ _.
    cond_both (b == 42) _ _ (IsKind false) (λ _. refl) (λ _.
    cond_both (b == 91) _ _ (IsKind false) (λ _. tag_kind rest) (λ _.
    tt))))))))

-- where no gap part is read, what is read is none
gap_none : (place : Standing) (text : List ℕ) (o : Option (Part × List ℕ))
    → gap_front place text ≡ o → o ≡ None → (part : Part) (rest : List ℕ)
    → part_front place text ≡ Some (part, rest) → is_gap_part part ≡ false
gap_none place text o is none part rest read =
    let game : game_front text ≡ Some (part, rest) =
    ap (λ g. option_or g (game_front text)) (sym (is ∙ none)) ∙ read in
    subst (IsKind false) game (game_kind text)

pub no_gap_at : (f : Bool) (block : List ℕ) (at : ℕ) (place : Standing) (text : List ℕ)
    → place ≡ standing_of f (take at block) → text ≡ drop at block
    → None ≡ option_map kept_found (gap_front place text) → NoGapPartAt f block at
no_gap_at f block at place text place_is text_is none part rest parted stands =
    let read : part_front place text ≡ Some (part, rest) =
    rw (place_is, text_is, parted) (stands-read (standing_of f (take at block)) part rest stands) in
    gap_none place text (gap_front place text) refl (none_back (gap_front place text) none) part
    rest read

pub gap_part_is : (f : Bool) (block : List ℕ) (at : ℕ) (place : Standing) (text : List ℕ)
    → place ≡ standing_of f (take at block) → text ≡ drop at block → at ≤ length block
    → (token : Kept) (rest : List ℕ) → Some (token, rest)
    ≡ option_map kept_found (gap_front place text)
    → GapPartAt f block at (length block - length rest)
gap_part_is f block at place text place_is text_is below token rest is =
    let back : (part : Part) × (gap_front place text ≡ Some (part, rest)) × (kept part ≡ token) =
    kept_back (gap_front place text) token rest is in
    let stands : (text ≡ spelled_part back.0 ++ rest) × Stands place back.0 rest =
    subst (IsFound place text) back.1 (gap-found place text) in
    record {
      part = back.0;
      found = part_placed f block at back.0 rest below (sym text_is
          ∙ stands.0) (subst (λ p. Stands p back.0 rest) place_is stands.1);
      is_gap = subst (IsKind true) back.1 (gap_kind place text);
    }
