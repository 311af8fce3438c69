-- Stations at lines in memory of which no call is named to fail: no cause of a fault is left.
use Rattle.std.proofs.Common.{◌≡◌, inl, inr, ℕ, zero, suc, ◌+◌, true, false, None, refl, sym, ◌∙◌, arith}
use Rattle.std.proofs.lemmas.Bool.{true≢false}
use Rattle.bsc_link.specs.declared.say.Say.{Say}
use Rattle.bsc_link.specs.declared.sound.Sound.{Sound}
use Rattle.bsc_link.specs.declared.wish.Wish.{Wish}
use Rattle.bsc_link.specs.declared.receiver_place.ReceiverPlace.{ReceiverPlace}
use Rattle.bsc_link.specs.Receiver.{ReceiverState, receiver_news}
use Rattle.rje_station.specs.Line.{Ages, MayNotHear}
use Rattle.rje_station.specs.Sending.{is_end}
use Rattle.line_world.specs.MemoryLine.{LineInMemory, may_fail_on}
use Rattle.line_world.proofs.ReceivingTurns.{ended_early}

hears : (l : LineInMemory) → l.until_failure ≡ 0 → MayNotHear (may_fail_on l) → ⊥
hears l calm (calls, inl named) = omega (arith, calm, named)
hears l calm (calls, inr long) = omega (arith, long)

-- a line stays so
pub stays_calm : (l m : LineInMemory) → Ages (may_fail_on l) (may_fail_on m) → l.until_failure ≡ 0 → m.until_failure ≡ 0
stays_calm l m ages calm = calm_at m.until_failure refl
  where
    none : (n : ℕ) → m.until_failure ≡ n + 1 → ⊥
    none n e = hears l calm (let aged = ages 0 n (inl e) in (aged.0 + n, aged.1))

    calm_at : (n : ℕ) → m.until_failure ≡ n → m.until_failure ≡ 0
    calm_at zero e = e
    calm_at (suc n) e = let f : m.until_failure ≡ n + 1 = omega (arith, e) in absurd (none n f)

-- what is not End ends nothing
pub not_end : (say : Say) → (say ≡ Say.End → ⊥) → is_end say ≡ false
not_end Say.End n = absurd (n refl)
not_end Say.Bid n = refl
not_end Say.Block n = refl
not_end Say.Again n = refl
not_end Say.Ask n = refl
not_end Say.Delay n = refl
not_end Say.Nothing n = refl

-- ---- A receiver that ended owes no reply.

eot_owes : (s : ReceiverState) (wish : Wish) (place : ReceiverPlace) → s.place ≡ place → (receiver_news s Sound.Eot wish).reply ≡ None
eot_owes s wish ReceiverPlace.Idle at = rw at refl
eot_owes s wish ReceiverPlace.InTransmission at = rw at refl
eot_owes s wish ReceiverPlace.Ended at = rw at refl

pub ended_owes : (s : ReceiverState) (sound : Sound) (wish : Wish) → (receiver_news s sound wish).ended ≡ true → (receiver_news s sound wish).reply ≡ None
ended_owes s Sound.Eot wish e = eot_owes s wish s.place refl
ended_owes s sound wish e = absurd (true≢false (sym e ∙ ended_early s sound wish s.place refl (λ x. cc)))
