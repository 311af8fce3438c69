-- What a receipt that may be trusted comes to.
use Rattle.std.proofs.Common.{◌≡◌, ℕ, ◌+◌, List, take, ap, sym, subst, ◌∙◌, arith}
use Rattle.std.proofs.Math.Seq.{take-append_seam}
use Rattle.std.proofs.lemmas.List.{length-take}
use Rattle.rje_settle.specs.declared.receipt.Receipt.{Receipt}
use Rattle.rje_settle.specs.declared.verdict.Verdict.{Verdict}
use Rattle.rje_settle.specs.Digest.{JobFile}
use Rattle.rje_settle.specs.Laws.{AreToldApart, TellsWhatCame}
use Rattle.rje_settle.specs.Receipt.{IsReceiptOf}
use Rattle.rje_settle.specs.Sending.{CameBy, IsAccountOf, Sending}
use Rattle.rje_settle.proofs.Accounts.{said-within}
use Rattle.settle_world.specs.Day.{Ends, TakesReceipt}
use Rattle.settle_world.proofs.Lists.{IsFront}
use Rattle.settle_world.proofs.Sound.{IsSound, fresh-sound}

-- the number of a receipt by which so many came
pub number-of_came : (a : Sending) (files : List JobFile) (r : Receipt) (came : ℕ) → IsAccountOf a files → (by : CameBy a r came)
    → r.kept ≡ by.known.kept + came
number-of_came a files r came is by =
    let first = is.each by.known r came by.is_known by.is_said in
    let within = said-within by.known a.promises came r by.is_said in
    omega (arith, first.many, within, is.all by.known by.is_known, length-take (by.known.kept + came) files)

-- the jobs that were kept when it was said are the first of those that were given
pub kept-then : TellsWhatCame → (before : Ends) (r : Receipt) (came : ℕ) (kept : List JobFile) → IsSound before → CameBy before.sending r came → IsReceiptOf r kept
    → AreToldApart kept (take r.kept before.given) → kept ≡ take r.kept before.given
kept-then tells before r came kept sound by is apart =
    let number = number-of_came before.sending before.given r came sound.account by in
    let told : AreToldApart kept (take (by.known.kept + came) before.given) =
    subst (λ (n : ℕ). AreToldApart kept (take n before.given)) number apart in
    tells before.sending before.given kept r by.known came sound.account is by.is_known by told
    ∙ ap (λ (n : ℕ). take n before.given) (sym number)

-- and the first of those that are kept now
pub front-then : (r : Receipt) (kept now : List JobFile) → IsReceiptOf r kept → IsFront kept now → take r.kept now ≡ kept
front-then r kept now is front = rw (front.whole, is.many) (take-append_seam kept front.more)

pub begins-sound : (before after : Ends) (r : Receipt) (kept : List JobFile) → TakesReceipt r Verdict.BeginsToCount before after → IsSound before
    → IsReceiptOf r kept → IsFront kept before.kept → IsSound after
begins-sound before after r kept t sound is front =
    fresh-sound after r kept (rw (t.kept, t.receiving) sound.counted) is (rw t.kept front) t.sending (t.given ∙ front-then r kept before.kept is front)

pub agrees-sound : TellsWhatCame → (before after : Ends) (r : Receipt) (came : ℕ) (kept : List JobFile) → TakesReceipt r (Verdict.Agrees came) before after
    → IsSound before → IsReceiptOf r kept → IsFront kept before.kept → AreToldApart kept (take r.kept before.given) → IsSound after
agrees-sound tells before after r came kept t sound is front apart =
    fresh-sound after r kept (rw (t.kept, t.receiving) sound.counted) is (rw t.kept front) t.sending
    (t.given ∙ sym (kept-then tells before r came kept sound t.found is apart))

pub disagrees-sound : (before after : Ends) (r : Receipt) → TakesReceipt r Verdict.DoesNotAgree before after → IsSound before → IsSound after
disagrees-sound before after r t sound = record {
  counted = rw (t.kept, t.receiving) sound.counted;
  account = rw (t.sending, t.given) sound.account;
  first = λ known is. rw (t.given, t.kept) (sound.first known (sym (ap (λ (a : Sending). a.known) t.sending) ∙ is));
}
