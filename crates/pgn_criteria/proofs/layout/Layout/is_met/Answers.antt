use Rattle.pgn_criteria.proofs.Common.{◌≡◌, true, false, None, Some, refl, sym, ap, ◌∙◌, subst}
use Rattle.pgn_criteria.proofs.Common.{man_at, is_in, is_in-empty, AllStand}
use Rattle.chess.proofs.PlaceFacts.{some_not_none}
use Rattle.pgn_criteria.specs.Private.Layouts.{KindWithin}
use Rattle.pgn_criteria.proofs.layout.Layout.is_met.Goals as goal

pub returns-then-is_empty : goal.returns-then-is_empty
returns-then-is_empty g c = (
  λ t. (
    subst (AllStand (g.S.Seen.men c.args.position.now)) c.deref.ensures.value
        (c.all_stand.ensures.0 c.if-not-all_stand.false),
    subst (AllStand (g.S.Seen.men c.args.position.now)) c.deref-else-not-all_stand.ensures.value
        (c.all_stand-else-not-all_stand.ensures.0 c.if-not-all_stand-2.false),
    λ s here. let clash : true ≡ false = sym here ∙ ap (λ set. is_in set s) (c.is_empty.ensures.0 t)
        ∙ is_in-empty s in cc,
  ),
  λ laid. c.if-is_empty.true,
)

pub returns-else-is_empty : goal.returns-else-is_empty
unfolding KindWithin
returns-else-is_empty g c =
    let men = (g.S.Seen.men c.args.position.now) in (
      λ t. (
        subst (AllStand (g.S.Seen.men c.args.position.now)) c.deref.ensures.value
            (c.all_stand.ensures.0 c.if-not-all_stand.false),
        subst (AllStand (g.S.Seen.men c.args.position.now)) c.deref-else-not-all_stand.ensures.value
            (c.all_stand-else-not-all_stand.ensures.0 c.if-not-all_stand-2.false),
        λ s here.
            elim (man_at men s) as (λ o. man_at men s ≡ o → man_at men s ≡ None) [
              | None ↦ λ is. is
              | Some man ↦ λ is. absurd
                  ((c.requires s (c.invariant.ensures s man is)).0
                  (c.are_within.ensures.0 t man.side man.kind s is) here)
            ] refl,
      ),
      λ laid. c.are_within.ensures.1 (λ side kind s is.
          (c.requires s (c.invariant.ensures s (record { side = side; kind = kind }) is)).1 (λ here.
          some_not_none (man_at men s) (record { side = side; kind = kind }) (laid.2 s here)
          is)),
    )
