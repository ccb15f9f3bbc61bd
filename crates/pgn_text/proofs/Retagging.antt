-- A game that has other contents under a name, or no tag of that name, is one as readers know it.
use Rattle.std.specs.Prelude.{Option, Some, None, IfSome, IsTrue, bytes_eq, if◌then◌else◌}
use Rattle.std.specs.List.Sorted.{IsStrictlySortedBy}
use Rattle.std.proofs.lemmas.Option.{same_Some}
use Rattle.pgn_text.proofs.Common.{◌≡◌, ℕ, Bool, true, false, List, refl, sym, subst, ◌∙◌}
use Rattle.pgn_text.proofs.Common.{list_all, is_name_byte, GameText, IsGameText, tag_in, tag_names}
use Rattle.pgn_text.proofs.Common.{IsContents, slice_cmp, nat_cmp, IsPaired, IsResult}
use Rattle.pgn_text.specs.Public.GameTexts.{IsRetagged}
use Rattle.pgn_text.proofs.TagLemmas.{bytes_eq-same}

-- what stands under a name is what was given, or stood there before
stood : (game other : GameText) (name : List ℕ) (contents : Option (List ℕ))
    → IsRetagged name contents game other → (Fact : List ℕ → List ℕ → Type 0)
    → ((own : List ℕ) → contents ≡ Some own → Fact name own)
    → ((wanted own : List ℕ) → tag_in wanted game.tags ≡ Some own → Fact wanted own)
    → (wanted own : List ℕ) → tag_in wanted other.tags ≡ Some own → Fact wanted own
stood game other name contents is Fact given before wanted own here =
    by (bytes_eq name wanted) refl (sym (is.tags wanted) ∙ here)
  where
    by : (same : Bool) → bytes_eq name wanted ≡ same
        → (if same then contents else tag_in wanted game.tags) ≡ Some own → Fact wanted own
    by true same there =
        subst (λ n. Fact n own) (bytes_eq-same name wanted same) (given own there)
    by false same there = before wanted own there

some_of : (contents : Option (List ℕ)) → IfSome contents IsContents → (own : List ℕ)
    → contents ≡ Some own → IsContents own
some_of None good own is = absurd (cc)
some_of (Some text) good own is = subst IsContents (same_Some text own is) good

pub good_retagged : (game other : GameText) (name : List ℕ) (contents : Option (List ℕ))
    → IsGameText game → IsTrue (list_all is_name_byte name) → IfSome contents IsContents
    → IsRetagged name contents game other
    → IsStrictlySortedBy (slice_cmp nat_cmp) (tag_names other.tags) → IsGameText other
good_retagged game other name contents good named given is ordered = record {
  ordered = ordered;
  strings = λ wanted own here. stood game other name contents is (λ _ text. IsContents text)
      (some_of contents given) good.strings wanted own here;
  names = λ wanted own here.
      stood game other name contents is (λ n _. IsTrue (list_all is_name_byte n))
      (λ _ _. named) good.names wanted own here;
  paired = subst (IsPaired 0) (sym is.elements) good.paired;
  ends = subst IsResult (sym is.result) good.ends;
}
