-- Stations that both have jobs, at lines in memory of which no call is named to fail.
use Rattle.std.proofs.Common.{◌≡◌, inl, inr, Bool, true, false, None, if◌then◌else◌, refl}
use Rattle.std.proofs.lemmas.Bool.{true≢false, cases_Bool}
use Rattle.bsc_frame.specs.declared.heard.Heard.{Heard}
use Rattle.bsc_link.specs.declared.wish.Wish.{Wish}
use Rattle.rje_station.specs.Hearing.{sound_heard}
use Rattle.rje_station.specs.Receiving.{Receiving, sound_taken, after_receiving}
use Rattle.rje_station.specs.Station.{Contending, is_deaf, lets_in, after_other, after_passing}
use Rattle.line_world.proofs.ForPairs.{ended_owes}

other_at : (s : Contending) (what : Heard) (refused : Bool) (wish : Wish) (b : Bool) → lets_in s.contender (sound_heard what) ≡ b → (after_other s what refused wish).receiver ≡ (if b then after_receiving s.receiver what refused wish else after_passing s.receiver)
other_at s what refused wish true e = rw (e, after_other) refl
other_at s what refused wish false e = rw (e, after_other) refl

owes_by : (b : Bool) (s : Contending) (what : Heard) (refused : Bool) (wish : Wish) (r : Receiving) → r ≡ (if b then after_receiving s.receiver what refused wish else after_passing s.receiver) → r.over ≡ true → r.due ≡ None
owes_by true s what refused wish r e = rw e (ended_owes s.receiver.core (sound_taken what refused) wish)
owes_by false s what refused wish r e = rw e (λ o. refl)

-- one that heard the other's end owes no reply
pub other_owes : (s : Contending) (what : Heard) (refused : Bool) (wish : Wish) → (after_other s what refused wish).receiver.over ≡ true → (after_other s what refused wish).receiver.due ≡ None
other_owes s what refused wish = owes_by (lets_in s.contender (sound_heard what)) s what refused wish (after_other s what refused wish).receiver (other_at s what refused wish _ refl)

live_by : (s : Contending) (what : Heard) (refused : Bool) (wish : Wish) (b : Bool) → lets_in s.contender (sound_heard what) ≡ b → (after_other s what refused wish).failed ≡ s.failed
live_by s what refused wish true e = rw (e, after_other) refl
live_by s what refused wish false e = rw (e, after_other) refl

-- hearing is no fault
pub other_live : (s : Contending) (what : Heard) (refused : Bool) (wish : Wish) → (after_other s what refused wish).failed ≡ s.failed
other_live s what refused wish = live_by s what refused wish _ refl

pub hearing_live : (s : Contending) → is_deaf s ≡ false → s.failed ≡ false
hearing_live s e = elim (cases_Bool s.failed) [ inl f ↦ absurd (true≢false (rw f at e)) | inr f ↦ f ]
