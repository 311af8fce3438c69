-- So once a receipt agrees no job is in doubt.
use Rattle.std.proofs.Common.{◌≡◌, ℕ, Bool, true, false, List, [], ◌∷◌, ◌++◌, length, length-append, map, take, refl, ap, sym, ◌∙◌, arith}
use Rattle.std.proofs.lemmas.List.{append-nil}
use Rattle.rje_settle.specs.declared.receipt.Receipt.{Receipt}
use Rattle.rje_settle.specs.declared.verdict.Verdict.{Verdict}
use Rattle.rje_settle.specs.Digest.{JobFile}
use Rattle.rje_settle.specs.Receipt.{IsReceiptOf}
use Rattle.rje_settle.specs.Sending.{Sending}
use Rattle.settle_world.specs.Connections.{AllInTurn, IsInTurn, SettlesDoubt, begun_in, is_out, is_out_by, is_said, is_said_by, promised_in, said_by, said_last, settled_by_receipt, settled_in}
use Rattle.settle_world.specs.Day.{ComesTo, Connects, Ends, Happening, Hears, History, IsDay, Keeps, Promises, Restarts, Says, TakesBack, TakesReceipt, ends_after}
use Rattle.settle_world.specs.Settling.{AllTrusted, IsTrueReceipt}
use Rattle.settle_world.proofs.Kept.{AreLaws, hold_all_time, now-stood}
use Rattle.settle_world.proofs.Lists.{IsFront}
use Rattle.settle_world.proofs.Names.{IsNamed, came-named, names-step}
use Rattle.settle_world.proofs.Once.{all_once, ready-apart}
use Rattle.settle_world.proofs.Receipts.{kept-then}

not_both : (b : Bool) → b ≡ true → b ≡ false → ⊥
not_both b is other = cc

-- what was said last on a connection is what is kept still, where nothing was promised since
abbrev IsCurrent : Bool → Receipt → Receipt → Bool → Type 0
IsCurrent said last now out = said ≡ true → (last ≡ now) × (out ≡ false)

current-step : (put_out : ℕ → JobFile) (past : History) (what : Happening) (after : Ends)
    → IsCurrent (is_said past) (said_last past) (ends_after past).receiving (is_out past) → ComesTo past what (ends_after past) after
    → IsInTurn put_out past what after
    → IsCurrent (is_said_by what (is_said past)) (said_by what after (said_last past)) after.receiving (is_out_by what (is_out past))
current-step put_out past (Keeps file) after was t turn said = absurd (not_both (is_out past) turn (was said).1)
current-step put_out past (Promises which file place) after was t turn said = absurd (not_both false said refl)
current-step put_out past TakesBack after was t turn said = ((was said).0 ∙ sym t.receiving, (was said).1)
current-step put_out past (Hears r verdict) after was t turn said = ((was said).0 ∙ sym t.receiving, (was said).1)
current-step put_out past Restarts after was t turn said = absurd (not_both false said refl)
current-step put_out past Connects after was t turn said = absurd (not_both false said refl)
current-step put_out past Says after was t turn said = (refl, refl)

current : (put_out : ℕ → JobFile) (h : History) → IsDay h → AllInTurn put_out h → IsCurrent (is_said h) (said_last h) (ends_after h).receiving (is_out h)
current put_out [] day turn = λ said. absurd (not_both false said refl)
current put_out (m ∷ past) day turn = current-step put_out past m.what m.after (current put_out past day.1 turn.1) day.0 turn.0

named : AreLaws → (put_out : ℕ → JobFile) (h : History) → IsDay h → AllTrusted h → AllInTurn put_out h
    → IsNamed put_out (ends_after h) (begun_in h) (settled_in h) (promised_in h)
named laws put_out [] day may turn = record { many = refl; given = λ known e. cc; number = λ known e. cc; none = λ e. refl }
named laws put_out (m ∷ past) day may turn =
    let before = (hold_all_time laws past day.1 may.1 (ends_after past) (now-stood past)).sound in
    let after = (hold_all_time laws (m ∷ past) day may m.after (now-stood (m ∷ past))).sound in
    names-step put_out past m.what m.after before after (named laws put_out past day.1 may.1 turn.1) day.0 turn.0

all_of : (xs more : List JobFile) → length more ≡ 0 → xs ++ more ≡ xs
all_of xs [] h = append-nil xs
all_of xs (x ∷ more) h = absurd (omega arith)

front-all : (xs ys : List JobFile) → IsFront xs ys → length xs ≡ length ys → ys ≡ xs
front-all xs ys front same =
    let none : length front.more ≡ 0 = omega (arith, same, ap length front.whole, length-append xs front.more) in
    front.whole ∙ all_of xs front.more none

-- what a receipt that agrees leaves
agrees-settles : AreLaws → (put_out : ℕ → JobFile) (past : History) (after : Ends) (r : Receipt) (came : ℕ) → IsDay past → AllTrusted past
    → AllInTurn put_out past → TakesReceipt r (Verdict.Agrees came) (ends_after past) after → IsTrueReceipt past r
    → (is_said past ≡ true) × (r ≡ said_last past)
    → after.kept ≡ begun_in past ++ map put_out (settled_in past ++ take came (promised_in past))
agrees-settles laws put_out past after r came day may turn t true_one last =
    let before = ends_after past in
    let hold = hold_all_time laws past day may in
    let sound = (hold before (now-stood past)).sound in
    let said = true_one.was_said in
    let then = hold said.then said.stood in
    let is : IsReceiptOf r said.then.kept = rw said.said then.sound.counted in
    let now : r ≡ before.receiving = last.1 ∙ (current put_out past day turn last.0).0 in
    let same : length said.then.kept ≡ length before.kept = sym is.many ∙ ap (λ (q : Receipt). q.kept) now ∙ sound.counted.many in
    let kept = kept-then laws.tells before r came said.then.kept sound t.found is true_one.apart in
    let names = came-named put_out before (begun_in past) (settled_in past) (promised_in past) r came sound t.found
    (named laws put_out past day may turn) in
    t.kept ∙ front-all said.then.kept before.kept then.front same ∙ kept ∙ names.0

pub settles_doubt : AreLaws → SettlesDoubt
settles_doubt laws put_out m past r came day may turn what =
    let t : TakesReceipt r (Verdict.Agrees came) (ends_after past) m.after = rw what at day.0 in
    let true_one : IsTrueReceipt past r = rw what at may.0 in
    let last : (is_said past ≡ true) × (r ≡ said_last past) = rw what at turn.0 in
    let kept = agrees-settles laws put_out past m.after r came day.1 may.1 turn.1 t true_one last in
    let settled : settled_by_receipt m.what (promised_in past) (settled_in past) ≡ settled_in past ++ take came (promised_in past) = rw what refl in
    record {
      none_in_doubt = ap (λ (a : Sending). a.promises) t.sending;
      kept = kept ∙ ap (λ (l : List ℕ). begun_in past ++ map put_out l) (sym settled);
      ready = λ which ready is.
          ready-apart (settled_in past) (promised_in past) came which (all_once put_out past turn.1) (rw what at ready) (rw settled at is);
    }
