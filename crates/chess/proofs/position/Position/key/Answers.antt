use Rattle.chess.proofs.Common.{refl, ap, ◌∙◌, State}
use Rattle.chess.specs.Public.Keys.{number_of_rest}
use Rattle.chess.proofs.KeyFacts.{each_man, no_numbers, more_numbers}
use Rattle.chess.proofs.position.Position.key.Goals as goal

pub returns : goal.returns
returns g c =
    let fits = more_numbers c.bitboard_of.ensures.fit (more_numbers c.bitboard_of-2.ensures.fit
    (more_numbers c.bitboard_of-3.ensures.fit (more_numbers c.bitboard_of-4.ensures.fit
    (more_numbers c.bitboard_of-5.ensures.fit (more_numbers c.bitboard_of-6.ensures.fit
    (more_numbers c.bitboard_of-7.ensures.fit (more_numbers c.bitboard_of-8.ensures.fit
    (more_numbers c.bitboard_of-9.ensures.fit (more_numbers c.bitboard_of-10.ensures.fit
    (more_numbers c.bitboard_of-11.ensures.fit (more_numbers c.bitboard_of-12.ensures.fit
    (more_numbers c.number_of_rest.type_inv no_numbers)))))))))))) in record {
      size = refl;
      men = λ man. each_man _ _ _ _ _ _ _ _ _ _ _ _ _ _ (
        c.bitboard_of.ensures.men,
        c.bitboard_of-2.ensures.men,
        c.bitboard_of-3.ensures.men,
        c.bitboard_of-4.ensures.men,
        c.bitboard_of-5.ensures.men,
        c.bitboard_of-6.ensures.men,
      ) (
        c.bitboard_of-7.ensures.men,
        c.bitboard_of-8.ensures.men,
        c.bitboard_of-9.ensures.men,
        c.bitboard_of-10.ensures.men,
        c.bitboard_of-11.ensures.men,
        c.bitboard_of-12.ensures.men,
      )
          man.side man.kind;
      fit = fits.each;
      rest = (
        c.used_en_passant.result,
        c.used_en_passant.ensures,
        c.number_of_rest.ensures
            ∙ ap (λ (P : State). number_of_rest P.turn P.rights c.used_en_passant.result)
            c.self.view_is,
      );
    }
