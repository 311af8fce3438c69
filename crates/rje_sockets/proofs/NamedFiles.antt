-- Which files a fault names.
use Rattle.std.proofs.Common.{◌≡◌, ◌⊎◌, inl, inr, ℕ, List, true, Result, Ok, Err, IfErr, refl, sym, ◌∙◌, subst}
use Rattle.std.specs.Prelude.{IsErrOf, IsOk}
use Rattle.std.specs.Result.{IsOkAnd, MatchResult, is_ok, result_and}
use Rattle.std.proofs.lemmas.Bool.{true≢false}
use Rattle.rje_text.specs.declared.text_fault.TextFault.{TextFault}
use Rattle.rje_station.specs.declared.station_fault.StationFault.{StationFault}
use Rattle.rje_station.specs.declared.station_fault.StationFault.TheVariants as fault
use Rattle.rje_commands.specs.declared.command_fault.CommandFault.{CommandFault}
use Rattle.rje_commands.specs.declared.command_fault.CommandFault.TheVariants as told
use Rattle.rje_commands.specs.CommandFault.{is_of_output, of_station, of_text}
use Rattle.rje_sockets.specs.declared.transfer_error.TransferError.{TransferError}
use Rattle.rje_sockets.specs.declared.receive_end.ReceiveEnd.{ReceiveEnd}
use Rattle.rje_sockets.specs.declared.socket_commands.ending.Ending.{Ending}
use Rattle.rje_requests.specs.declared.order.Destination.{Destination}
use Rattle.rje_sockets.specs.InFront.{LooksInto}
use Rattle.rje_sockets.specs.Inside.BreakingOff.{of_broken_off}
use Rattle.rje_sockets.specs.NamedFiles.{NamesOne, NamesWritten}

pub names_more : (R S V W : List ℕ → Type 0) → ((n : List ℕ) → R n → S n) → ((n : List ℕ) → V n → W n) → (f : CommandFault) → NamesOne R V f → NamesOne S W f
names_more R S V W reads writes (told.CannotRead name fault) names = reads name.now names
names_more R S V W reads writes (told.CannotWrite name cause) names = writes name.now names
names_more R S V W reads writes (told.InUse name) names = writes name.now names
names_more R S V W reads writes (told.Unsynced name) names = writes name.now names
names_more R S V W reads writes _ names = tt

-- a station's fault names none
pub station_names : (f : StationFault) (R W : List ℕ → Type 0) → NamesOne R W (of_station f)
station_names fault.OutOfMemory R W = tt
station_names (fault.BadJob n) R W = tt
station_names fault.Babble R W = tt
station_names (fault.Line f) R W = tt
station_names fault.Over R W = tt

-- nor does a text that isn't read
pub text_names : (R W : List ℕ → Type 0) (f : TextFault) → NamesOne R W (of_text f)
text_names R W TextFault.OutOfMemory = tt
text_names R W (TextFault.BadCount p) = tt
text_names R W (TextFault.RecordTooLong p) = tt
text_names R W TextFault.CardsNot80 = tt
text_names R W TextFault.MixedModes = tt

pub err_names : {X : Type 0} (r : Result X CommandFault) (R S V W : List ℕ → Type 0) → ((n : List ℕ) → R n → S n) → ((n : List ℕ) → V n → W n) → IfErr r (NamesOne R V) → IfErr r (NamesOne S W)
err_names (Ok x) R S V W reads writes names = tt
err_names (Err f) R S V W reads writes names = names_more R S V W reads writes f names

-- of the one file that is written
pub written_names : {X : Type 0} (r : Result X CommandFault) (named name : List ℕ) → named ≡ name → IfErr r (NamesWritten named) → IfErr r (NamesOne (λ n. n ≡ name) (λ n. n ≡ name))
written_names r named name is names = err_names r (λ _. ⊥) (λ n. n ≡ name) (λ n. n ≡ named) (λ n. n ≡ name) (λ n never. absurd never) (λ n e. e ∙ is) names

-- of two
pub both_names : {X : Type 0} (r : Result X CommandFault) (one other send : List ℕ) (into : Destination) → one ≡ send → other ≡ into.jobs.now → IfErr r (NamesOne (λ _. ⊥) (λ n. (n ≡ one) ⊎ (n ≡ other)))
    → IfErr r (NamesOne (λ n. (n ≡ send) ⊎ LooksInto into n) (λ n. (n ≡ send) ⊎ (n ≡ into.jobs.now)))
both_names r one other send into is also names =
    err_names r (λ _. ⊥) (λ n. (n ≡ send) ⊎ LooksInto into n) (λ n. (n ≡ one) ⊎ (n ≡ other)) (λ n. (n ≡ send) ⊎ (n ≡ into.jobs.now)) (λ n never. absurd never) (λ n. by) names where
      by : {n : List ℕ} → (n ≡ one) ⊎ (n ≡ other) → (n ≡ send) ⊎ (n ≡ into.jobs.now)
      by (inl e) = inl (e ∙ is)
      by (inr e) = inr (e ∙ also)

-- of either of two that are written
pub one_of_both : (f : CommandFault) (named one other : List ℕ) → (named ≡ one) ⊎ (named ≡ other) → NamesWritten named f → NamesOne (λ _. ⊥) (λ n. (n ≡ one) ⊎ (n ≡ other)) f
one_of_both f named one other is names =
    names_more (λ _. ⊥) (λ _. ⊥) (λ n. n ≡ named) (λ n. (n ≡ one) ⊎ (n ≡ other)) (λ n never. never) (λ n e. by e is) f names where
      by : {n : List ℕ} → n ≡ named → (named ≡ one) ⊎ (named ≡ other) → (n ≡ one) ⊎ (n ≡ other)
      by e (inl is) = inl (e ∙ is)
      by e (inr is) = inr (e ∙ is)

pub err_of_both : {X : Type 0} (r : Result X CommandFault) (named one other : List ℕ) → (named ≡ one) ⊎ (named ≡ other) → IfErr r (NamesWritten named) → IfErr r (NamesOne (λ _. ⊥) (λ n. (n ≡ one) ⊎ (n ≡ other)))
err_of_both (Ok x) named one other is names = tt
err_of_both (Err f) named one other is names = one_of_both f named one other is names

pub left_of_both : (left : Result ReceiveEnd TransferError) (one other : List ℕ) → IfErr left (λ broken. NamesWritten other (of_broken_off broken))
    → IfErr left (λ broken. NamesOne (λ _. ⊥) (λ n. (n ≡ one) ⊎ (n ≡ other)) (of_broken_off broken))
left_of_both (Ok l) one other names = tt
left_of_both (Err b) one other names = one_of_both (of_broken_off b) other one other (inr refl) names

-- a fault of the output names none
pub output_names : (f : CommandFault) (R W : List ℕ → Type 0) → is_of_output f ≡ true → NamesOne R W f
output_names (told.CannotRead name fault) R W is = absurd (true≢false (sym is))
output_names (told.CannotWrite name cause) R W is = absurd (true≢false (sym is))
output_names (told.InUse name) R W is = absurd (true≢false (sym is))
output_names (told.Unsynced name) R W is = absurd (true≢false (sym is))
output_names _ R W is = tt

pub output_of_none : (r : Result (Unit {0}) CommandFault) (R W : List ℕ → Type 0) → IfErr r (λ f. is_of_output f ≡ true) → IfErr r (NamesOne R W)
output_of_none (Ok x) R W is = tt
output_of_none (Err f) R W is = output_names f R W is

-- of three that may fail the first that does is told
module _ (r : Result Ending CommandFault) (so : Result ReceiveEnd CommandFault) (ending_by : ReceiveEnd → Ending) (P : CommandFault → Type 0) where
  no_err : is_ok so ≡ true → IfErr so P
  no_err ok = by so ok where
    by : (s : Result ReceiveEnd CommandFault) → is_ok s ≡ true → IfErr s P
    by (Ok l) ok = tt
    by (Err e) ok = absurd (true≢false (sym ok))

  first_of_three : (left : Result ReceiveEnd TransferError) (written printed : Result (Unit {0}) CommandFault) → IfErr left (λ broken. IsErrOf so (of_broken_off broken))
      → (IsOk left → IfErr written (λ f. IsErrOf so f)) → (IsOk left → IsOk written → IfErr printed (λ f. IsErrOf so f)) → (IsOk left → IsOk written → IsOk printed → IsOk so)
      → IfErr left (λ broken. P (of_broken_off broken)) → IfErr written P → IfErr printed P → IfErr so P
  first_of_three (Err b) written printed first second third none one two three = rw first one
  first_of_three (Ok l) (Err f) printed first second third none one two three = rw (second refl) two
  first_of_three (Ok l) (Ok w) (Err f) first second third none one two three = rw (third refl refl) three
  first_of_three (Ok l) (Ok w) (Ok p) first second third none one two three = no_err (none refl refl refl)

  told_of : MatchResult so (λ l. IsOkAnd r (λ ending. ending ≡ ending_by l)) (λ e. r ≡ Err e) → IfErr so P → IfErr r P
  told_of told names = by r so told names where
    by : (r : Result Ending CommandFault) (so : Result ReceiveEnd CommandFault) → MatchResult so (λ l. IsOkAnd r (λ ending. ending ≡ ending_by l)) (λ e. r ≡ Err e) → IfErr so P → IfErr r P
    by (Ok ending) so told names = tt
    by (Err e) (Ok l) told names = absurd told
    by (Err e) (Err x) told names = subst (λ (z : Result Ending CommandFault). IfErr z P) (sym told) names

  -- the one file of a receiver
  pub received_names : (left : Result ReceiveEnd TransferError) (written printed : Result (Unit {0}) CommandFault) → MatchResult so (λ l. IsOkAnd r (λ ending. ending ≡ ending_by l)) (λ e. r ≡ Err e)
      → IfErr left (λ broken. IsErrOf so (of_broken_off broken)) → (IsOk left → IfErr written (λ f. IsErrOf so f)) → (IsOk left → IsOk written → IfErr printed (λ f. IsErrOf so f))
      → (IsOk left → IsOk written → IsOk printed → IsOk so) → IfErr left (λ broken. P (of_broken_off broken)) → IfErr written P → IfErr printed P → IfErr r P
  received_names left written printed told first second third none one two three = told_of told (first_of_three left written printed first second third none one two three)

  -- the two files of an exchange
  pub told_names : (left : Result ReceiveEnd TransferError) (marked kept printed : Result (Unit {0}) CommandFault) → MatchResult so (λ l. IsOkAnd r (λ ending. ending ≡ ending_by l)) (λ e. r ≡ Err e)
      → IfErr left (λ broken. IsErrOf so (of_broken_off broken)) → (IsOk left → IfErr (result_and marked kept) (λ f. IsErrOf so f))
      → (IsOk left → IsOk (result_and marked kept) → IfErr printed (λ f. IsErrOf so f)) → (IsOk left → IsOk (result_and marked kept) → IsOk printed → IsOk so)
      → IfErr left (λ broken. P (of_broken_off broken)) → IfErr marked P → IfErr kept P → IfErr printed P → IfErr r P
  told_names left marked kept printed told first second third none one two three four =
      told_of told (first_of_three left (result_and marked kept) printed first second third none one (either marked kept two three) four) where
        either : (marked kept : Result (Unit {0}) CommandFault) → IfErr marked P → IfErr kept P → IfErr (result_and marked kept) P
        either (Ok m) kept two three = three
        either (Err m) kept two three = two
