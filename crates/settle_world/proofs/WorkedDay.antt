-- The worked day is one.
use Rattle.std.proofs.Common.{inl, inr, [], ◌∷◌, refl, arith}
use Rattle.rje_settle.specs.Receipt.{no_receipt}
use Rattle.settle_world.specs.Connections.{AllInTurn, IsOneOf}
use Rattle.settle_world.specs.Day.{IsDay, first_ends}
use Rattle.settle_world.specs.Settling.{AllTrusted}
use Rattle.settle_world.specs.WorkedDay.{LostJobMakesADay, first_came, one_kept, put_out, the_day}

another : IsOneOf 1 (0 ∷ []) → ⊥
another (inl e) = absurd (omega (arith, e))
another (inr h) = absurd h

day : IsDay the_day
day = (
  record {
    found = record { known = no_receipt; is_known = refl; is_said = refl };
    sending = refl;
    given = refl;
    settled = refl;
    kept = refl;
    receiving = refl;
  },
  (
    refl,
    (
      refl,
      (
        record { all = first_came; is_all = refl; sending = refl; given = refl; kept = refl; receiving = refl; settled = refl },
        (
          record { all = no_receipt; is_all = refl; sending = refl; given = refl; kept = refl; receiving = refl; settled = refl },
          (
            record { found = refl; sending = refl; given = refl; settled = refl; kept = refl; receiving = refl },
            (refl, (refl, tt)),
          ),
        ),
      ),
    ),
  ),
)

trusted : AllTrusted the_day
trusted = (
  record { was_said = record { then = one_kept; stood = inl refl; said = refl }; apart = λ e. refl },
  (tt, (tt, (tt, (tt, (record { then = first_ends; stood = inl refl; said = refl }, (tt, (tt, tt))))))),
)

in_turn : AllInTurn put_out the_day
in_turn = (
  (refl, refl),
  (tt, (refl, ((refl, refl, another), ((refl, refl, λ h. h), ((refl, refl), (tt, (tt, tt))))))),
)

pub lost_job_makes_a_day : LostJobMakesADay
lost_job_makes_a_day = record { day = day; trusted = trusted; in_turn = in_turn; settled = refl; ready = refl }
