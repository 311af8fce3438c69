-- What holds of the two ends at each moment.
use Rattle.std.proofs.Common.{◌≡◌, ◌≤◌, List, [], ◌∷◌, ◌++◌, Some, length, length-append, take, refl, ap, sym, ◌∙◌, arith}
use Rattle.std.proofs.Math.Seq.{take-append_seam, take-length}
use Rattle.std.proofs.lemmas.List.{take-append-le}
use Rattle.sha2.specs.Sha256.{sha256}
use Rattle.rje_settle.specs.declared.job_place.JobPlace.{JobPlace}
use Rattle.rje_settle.specs.declared.receipt.Receipt.{Receipt}
use Rattle.rje_settle.specs.Digest.{JobFile}
use Rattle.rje_settle.specs.Receipt.{IsReceiptOf, counted_with}
use Rattle.rje_settle.specs.Sending.{IsAccountOf, Sending, promised_with}
use Rattle.rje_settle.proofs.Accounts.{account-fewer, account-known, account-promised}
use Rattle.rje_settle.specs.Laws.{CountFromNone, CountOneMore}
use Rattle.settle_world.specs.Day.{Ends, PromisesNext, TakesLast, first_ends, kept_too}
use Rattle.settle_world.proofs.Lists.{IsFront}

-- what is known to be kept are the first of what is
pub record IsFirst (known : Receipt) (given kept : List JobFile) : Type 0 where
  pub same : take known.kept given ≡ take known.kept kept
  pub few : known.kept ≤ length kept

-- both accounts are right
pub record IsSound (e : Ends) : Type 0 where
  pub counted : IsReceiptOf e.receiving e.kept
  pub account : IsAccountOf e.sending e.given
  pub first : (known : Receipt) → e.sending.known ≡ Some known → IsFirst known e.given e.kept

pub first-sound : CountFromNone → IsSound first_ends
first-sound none = record {
  counted = none;
  account = record { each = λ known r came e said. cc; all = λ known e. cc };
  first = λ known e. cc;
}

pub first-more : (known : Receipt) (given kept more : List JobFile) → IsFirst known given kept → IsFirst known given (kept ++ more)
first-more known given kept more f = record {
  same = f.same ∙ sym (take-append-le known.kept kept more f.few);
  few = omega (arith, f.few, length-append kept more);
}

pub first-front : (known : Receipt) (given kept all : List JobFile) → IsFirst known given kept → IsFront kept all → IsFirst known given all
first-front known given kept all f front = rw front.whole (first-more known given kept front.more f)

pub keeps-sound : CountOneMore → (file : JobFile) (e : Ends) → IsSound e → IsSound (kept_too file e)
keeps-sound more file e sound = record {
  counted = more e.receiving e.kept file sound.counted;
  account = sound.account;
  first = λ known is. first-more known e.given e.kept (file ∷ []) (sound.first known is);
}

pub promises-sound : (file : JobFile) (place : JobPlace) (before after : Ends) → PromisesNext file place before after → IsSound before → IsSound after
promises-sound file place before after p sound = record {
  counted = rw (p.kept, p.receiving) sound.counted;
  account = rw (p.sending, p.given) (account-promised before.sending before.given file (record { receipt = counted_with p.all (sha256 file); place = place })
      (sha256 file) p.all p.is_all sound.account refl refl);
  first = λ known is.
      let was : before.sending.known ≡ Some known = sym (ap (λ (a : Sending). a.known) p.sending) ∙ is in
      let f = sound.first known was in
      let long = sound.account.all known was in
      record {
        same = ap (λ (l : List JobFile). take known.kept l) p.given
            ∙ take-append-le known.kept before.given (file ∷ []) (omega (arith, long))
            ∙ f.same
            ∙ ap (λ (l : List JobFile). take known.kept l) (sym p.kept);
        few = rw p.kept f.few;
      };
}

pub takes_last-sound : (before after : Ends) → TakesLast before after → IsSound before → IsSound after
takes_last-sound before after t sound =
    let whole : IsAccountOf (promised_with after.sending t.promise) (after.given ++ t.file ∷ []) = rw (t.sending, t.given) at sound.account in
    let account = account-fewer after.sending after.given t.file t.promise whole in
    record {
      counted = rw (t.kept, t.receiving) sound.counted;
      account = account;
      first = λ known is.
          let was : before.sending.known ≡ Some known = ap (λ (a : Sending). a.known) t.sending ∙ is in
          let f = sound.first known was in
          let long = account.all known is in
          record {
            same = sym (take-append-le known.kept after.given (t.file ∷ []) (omega (arith, long)))
                ∙ ap (λ (l : List JobFile). take known.kept l) (sym t.given)
                ∙ f.same
                ∙ ap (λ (l : List JobFile). take known.kept l) (sym t.kept);
            few = rw t.kept f.few;
          };
    }

pub takes_up-sound : (before after then : Ends) → IsSound before → IsSound then → IsFront then.kept before.kept → after.sending ≡ then.sending
    → after.given ≡ then.given → after.kept ≡ before.kept → after.receiving ≡ before.receiving → IsSound after
takes_up-sound before after then sound sound_then front sending given kept receiving = record {
  counted = rw (kept, receiving) sound.counted;
  account = rw (sending, given) sound_then.account;
  first = λ known is.
      let was : then.sending.known ≡ Some known = sym (ap (λ (a : Sending). a.known) sending) ∙ is in
      rw (given, kept) (first-front known then.given then.kept before.kept (sound_then.first known was) front);
}

-- an account that was just taken from a receipt of what was kept
pub fresh-sound : (after : Ends) (r : Receipt) (kept : List JobFile) → IsReceiptOf after.receiving after.kept → IsReceiptOf r kept → IsFront kept after.kept
    → after.sending ≡ record { known = Some r; promises = [] } → after.given ≡ kept → IsSound after
fresh-sound after r kept counted is front sending given = record {
  counted = counted;
  account = rw (sending, given) (account-known r kept is);
  first = λ known e.
      let same_known : Some r ≡ Some known = sym (ap (λ (a : Sending). a.known) sending) ∙ e in
      let same : known ≡ r = cc in
      let long = length-append kept front.more in
      rw (same, given, front.whole) (record {
        same = rw is.many (take-length kept ∙ sym (take-append_seam kept front.more));
        few = omega (arith, is.many, long);
      });
}
