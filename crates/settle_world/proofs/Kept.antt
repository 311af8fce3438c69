-- So all that is settled as sent was kept.
use Rattle.std.proofs.Common.{◌≡◌, ◌⊎◌, inl, inr, ℕ, ◌+◌, List, [], ◌∷◌, ◌++◌, Option, Some, None, drop, take, refl, sym, subst}
use Rattle.std.specs.Prelude.{slice_get}
use Rattle.rje_settle.specs.declared.receipt.Receipt.{Receipt}
use Rattle.rje_settle.specs.declared.verdict.Verdict.{Verdict}
use Rattle.rje_settle.specs.Digest.{JobFile}
use Rattle.rje_settle.specs.Laws.{CountFromNone, CountOneMore, TellsWhatCame}
use Rattle.rje_settle.specs.Receipt.{IsReceiptOf}
use Rattle.settle_world.specs.Day.{ComesTo, Connects, Ends, Happening, Hears, History, IsDay, Keeps, Promises, Restarts, Says, Settled, Stood, TakesBack, ends_after, settled_by}
use Rattle.settle_world.specs.Settling.{AllTrusted, IsAmong, KnowsWhatWasKept, MayBeTrusted, SettlesWhatWasKept, WereKept}
use Rattle.settle_world.proofs.Lists.{IsFront, among-one, at-behind, at-front, front-more, front-of_front, front-same}
use Rattle.settle_world.proofs.Receipts.{agrees-sound, begins-sound, disagrees-sound, kept-then}
use Rattle.settle_world.proofs.Sound.{IsSound, first-sound, keeps-sound, promises-sound, takes_last-sound, takes_up-sound}

-- at some moment both accounts were right, and what was kept then is the front of what is kept now
pub record HoldsThen (then now : Ends) : Type 0 where
  pub sound : IsSound then
  pub front : IsFront then.kept now.kept

abbrev pub HoldAllTime : History → Type 0
HoldAllTime h = (e : Ends) → Stood h e → HoldsThen e (ends_after h)

pub now-stood : (h : History) → Stood h (ends_after h)
now-stood [] = refl
now-stood (m ∷ past) = inl refl

-- ---- One happening.

-- what it leaves: right accounts, what was kept, and of what was settled just what was kept
record Leaves (before after : Ends) : Type 0 where
  sound : IsSound after
  front : IsFront before.kept after.kept
  settled : (s : Settled) → IsAmong s after.settled → IsAmong s before.settled ⊎ WereKept s before.kept

front-is : (xs ys : List JobFile) → ys ≡ xs → IsFront xs ys
front-is xs ys e = rw e (front-same xs)

no_more : (s : Settled) (xs ys : List Settled) → xs ≡ ys → IsAmong s xs → IsAmong s ys
no_more s xs ys e h = rw e at h

-- what is settled by a receipt that agrees
settled-kept : (known : Receipt) (files kept now : List JobFile) → files ≡ kept → IsFront kept now
    → WereKept (record { behind = known.kept; files = drop known.kept files }) now
settled-kept known files kept now e front k file at =
    let there = at-behind known.kept files k (known.kept + k) file refl at in
    let then : slice_get kept (known.kept + k) ≡ Some file = subst (λ (l : List JobFile). slice_get l (known.kept + k) ≡ Some file) e there in
    rw front.whole (at-front kept front.more (known.kept + k) file then)

by_receipt : (o : Option Receipt) (r : Receipt) (came : ℕ) (before : Ends) (kept : List JobFile) (s : Settled) → take r.kept before.given ≡ kept
    → IsFront kept before.kept → IsAmong s (settled_by o r (Verdict.Agrees came) before) → WereKept s before.kept
by_receipt None r came before kept s e front h = absurd h
by_receipt (Some known) r came before kept s e front (inl is) = rw is (settled-kept known (take r.kept before.given) kept before.kept e front)
by_receipt (Some known) r came before kept s e front (inr h) = absurd h

none_by : (o : Option Receipt) (r : Receipt) (verdict : Verdict) (before : Ends) (s : Settled) → settled_by o r verdict before ≡ [] → (all : List Settled)
    → all ≡ before.settled ++ settled_by o r verdict before → IsAmong s all → IsAmong s before.settled
none_by o r verdict before s none all e h =
    let whole : IsAmong s (before.settled ++ settled_by o r verdict before) = rw e at h in
    elim (among-one s before.settled (settled_by o r verdict before) whole) [
      | inl first ↦ first
      | inr last ↦ absurd (rw none at last)
    ]

-- nothing is settled where it is begun to count, nor where a receipt doesn't agree
none-begun : (o : Option Receipt) (r : Receipt) (before : Ends) → settled_by o r Verdict.BeginsToCount before ≡ []
none-begun None r before = refl
none-begun (Some known) r before = refl

none-agreed : (o : Option Receipt) (r : Receipt) (before : Ends) → settled_by o r Verdict.DoesNotAgree before ≡ []
none-agreed None r before = refl
none-agreed (Some known) r before = refl

-- nothing changes
leaves_all : (past : History) (after : Ends) → after ≡ ends_after past → IsSound (ends_after past) → Leaves (ends_after past) after
leaves_all past after e sound = record {
  sound = rw e sound;
  front = rw e (front-same (ends_after past).kept);
  settled = λ s h. inl (rw e at h);
}

-- the laws of rje_settle that it stands on
pub record AreLaws : Type 0 where
  pub none : CountFromNone
  pub more : CountOneMore
  pub tells : TellsWhatCame

leaves : AreLaws → (past : History) (what : Happening) (after : Ends) → HoldAllTime past → ComesTo past what (ends_after past) after → MayBeTrusted past what
    → Leaves (ends_after past) after
leaves laws past (Keeps file) after all t may =
    let before = ends_after past in
    let sound = (all before (now-stood past)).sound in
    record {
      sound = rw t (keeps-sound laws.more file before sound);
      front = rw t (front-more before.kept (file ∷ []));
      settled = λ s h. inl (rw t at h);
    }
leaves laws past (Promises which file place) after all t may =
    let before = ends_after past in
    let sound = (all before (now-stood past)).sound in
    record {
      sound = promises-sound file place before after t sound;
      front = front-is before.kept after.kept t.kept;
      settled = λ s h. inl (no_more s after.settled before.settled t.settled h);
    }
leaves laws past TakesBack after all t may =
    let before = ends_after past in
    let sound = (all before (now-stood past)).sound in
    record {
      sound = takes_last-sound before after t sound;
      front = front-is before.kept after.kept t.kept;
      settled = λ s h. inl (no_more s after.settled before.settled t.settled h);
    }
leaves laws past (Hears r Verdict.BeginsToCount) after all t may =
    let before = ends_after past in
    let sound = (all before (now-stood past)).sound in
    let then = all may.then may.stood in
    let is : IsReceiptOf r may.then.kept = rw may.said then.sound.counted in
    record {
      sound = begins-sound before after r may.then.kept t sound is then.front;
      front = front-is before.kept after.kept t.kept;
      settled = λ s h. inl (none_by before.sending.known r Verdict.BeginsToCount before s (none-begun before.sending.known r before) after.settled t.settled h);
    }
leaves laws past (Hears r (Verdict.Agrees came)) after all t may =
    let before = ends_after past in
    let sound = (all before (now-stood past)).sound in
    let said = may.was_said in
    let then = all said.then said.stood in
    let is : IsReceiptOf r said.then.kept = rw said.said then.sound.counted in
    let kept = kept-then laws.tells before r came said.then.kept sound t.found is may.apart in
    record {
      sound = agrees-sound laws.tells before after r came said.then.kept t sound is then.front may.apart;
      front = front-is before.kept after.kept t.kept;
      settled = λ s h.
          let whole : IsAmong s (before.settled ++ settled_by before.sending.known r (Verdict.Agrees came) before) = no_more s after.settled _ t.settled h in
          elim (among-one s before.settled (settled_by before.sending.known r (Verdict.Agrees came) before) whole) [
            | inl first ↦ inl first
            | inr last ↦ inr (by_receipt before.sending.known r came before said.then.kept s (sym kept) then.front last)
          ];
    }
leaves laws past (Hears r Verdict.DoesNotAgree) after all t may =
    let before = ends_after past in
    let sound = (all before (now-stood past)).sound in
    record {
      sound = disagrees-sound before after r t sound;
      front = front-is before.kept after.kept t.kept;
      settled = λ s h. inl (none_by before.sending.known r Verdict.DoesNotAgree before s (none-agreed before.sending.known r before) after.settled t.settled h);
    }
leaves laws past Restarts after all t may =
    let before = ends_after past in
    let sound = (all before (now-stood past)).sound in
    let then = all t.then t.stood in
    record {
      sound = takes_up-sound before after t.then sound then.sound then.front t.sending t.given t.kept t.receiving;
      front = front-is before.kept after.kept t.kept;
      settled = λ s h. inl (no_more s after.settled before.settled t.settled h);
    }
leaves laws past Connects after all t may = leaves_all past after t (all (ends_after past) (now-stood past)).sound
leaves laws past Says after all t may = leaves_all past after t (all (ends_after past) (now-stood past)).sound

-- ---- A whole day.

pub hold_all_time : AreLaws → (h : History) → IsDay h → AllTrusted h → HoldAllTime h
hold_all_time laws [] day may e stood = rw stood (record { sound = first-sound laws.none; front = front-same [] })
hold_all_time laws (m ∷ past) day may e (inl now) =
    let left = leaves laws past m.what m.after (hold_all_time laws past day.1 may.1) day.0 may.0 in
    rw now (record { sound = left.sound; front = front-same m.after.kept })
hold_all_time laws (m ∷ past) day may e (inr stood) =
    let all = hold_all_time laws past day.1 may.1 in
    let left = leaves laws past m.what m.after all day.0 may.0 in
    let then = all e stood in
    record { sound = then.sound; front = front-of_front e.kept (ends_after past).kept m.after.kept then.front left.front }

were_kept-more : (s : Settled) (xs ys : List JobFile) → IsFront xs ys → WereKept s xs → WereKept s ys
were_kept-more s xs ys front h k file at = rw front.whole (at-front xs front.more (s.behind + k) file (h k file at))

pub settles_what_was_kept : AreLaws → SettlesWhatWasKept
settles_what_was_kept laws [] s day may h = absurd h
settles_what_was_kept laws (m ∷ past) s day may h =
    let left = leaves laws past m.what m.after (hold_all_time laws past day.1 may.1) day.0 may.0 in
    let before : WereKept s (ends_after past).kept =
    elim (left.settled s h) [
      | inl earlier ↦ settles_what_was_kept laws past s day.1 may.1 earlier
      | inr now ↦ now
    ] in
    were_kept-more s (ends_after past).kept m.after.kept left.front before

pub knows_what_was_kept : AreLaws → KnowsWhatWasKept
knows_what_was_kept laws h known day may e = ((hold_all_time laws h day may (ends_after h) (now-stood h)).sound.first known e).same
