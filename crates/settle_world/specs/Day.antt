-- A day of two ends, of which one sends jobs that the other one keeps, with the receipts of the one that keeps (own profile). What the line does
-- is no matter here: anything may be kept, and any receipt may come. Of two ends that both send, each way is such a day.
use Rattle.std.specs.Prelude.{◌≡◌, ◌⊎◌, ℕ, List, [], ◌∷◌, ◌++◌, Option, Some, None, drop, take}
use Rattle.sha2.specs.Sha256.{sha256}
use Rattle.rje_settle.specs.declared.job_place.JobPlace.{JobPlace}
use Rattle.rje_settle.specs.declared.promise.Promise.{Promise}
use Rattle.rje_settle.specs.declared.receipt.Receipt.{Receipt}
use Rattle.rje_settle.specs.declared.verdict.Verdict.{Verdict}
use Rattle.rje_settle.specs.Digest.{JobFile}
use Rattle.rje_settle.specs.Receipt.{counted_with, no_receipt}
use Rattle.rje_settle.specs.Sending.{IsFound, Sending, after_receipt, all_said_of, promised_with}

-- ---- What the ends have.

-- jobs that were settled as sent by one receipt: those behind so many others, in order, each as it was given
pub record Settled : Type 0 where
  pub behind : ℕ
  pub files : List JobFile

pub record Ends : Type 0 where
  -- the jobs that the other end has kept ever, and its account of them
  pub kept : List JobFile
  pub receiving : Receipt
  -- the account of the end that sends, and the jobs that it is of: those that the other end is known to have kept, then those promised
  pub sending : Sending
  pub given : List JobFile
  -- what was settled as sent
  pub settled : List Settled

-- nothing is kept, and nothing known
abbrev pub first_ends : Ends
first_ends = record { kept = []; receiving = no_receipt; sending = record { known = None; promises = [] }; given = []; settled = [] }

-- ---- What happens.

pub data Happening : Type 0 where
  -- the other end keeps a job, wherever that came from, and whatever was damaged, lost or said again
  Keeps : (file : JobFile) → Happening
  -- a job is promised, which of those that were put out
  Promises : (which : ℕ) (file : JobFile) (place : JobPlace) → Happening
  -- the last promise is taken back
  TakesBack : Happening
  -- a receipt comes, late, damaged or made up, and this is found by it
  Hears : (r : Receipt) (verdict : Verdict) → Happening
  -- the end that sends was killed or lost its power, and begins with the account that stands on its disk
  Restarts : Happening
  -- there is a new connection
  Connects : Happening
  -- the other end says its receipt, which may be lost
  Says : Happening

-- what happened, and what the ends have after it; the newest stands first
pub record Moment : Type 0 where
  pub what : Happening
  pub after : Ends

abbrev pub History : Type 0
History = List Moment

-- what the ends have after all of it
abbrev pub ends_after : History → Ends
ends_after [] = first_ends
ends_after (m ∷ past) = m.after

-- at some moment the ends had this
abbrev pub Stood : History → Ends → Type 0
Stood [] e = e ≡ first_ends
Stood (m ∷ past) e = (e ≡ m.after) ⊎ Stood past e

-- ---- What each happening comes to, by the accounts of rje_settle.

-- one job more is kept, and counted
abbrev pub kept_too : JobFile → Ends → Ends
kept_too file e = record e { kept = e.kept ++ file ∷ []; receiving = counted_with e.receiving (sha256 file) }

-- one more is promised, behind all that was said
pub record PromisesNext (file : JobFile) (place : JobPlace) (before after : Ends) : Type 0 where
  pub all : Receipt
  pub is_all : all_said_of before.sending ≡ Some all
  pub sending : after.sending ≡ promised_with before.sending (record { receipt = counted_with all (sha256 file); place = place })
  pub given : after.given ≡ before.given ++ file ∷ []
  pub kept : after.kept ≡ before.kept
  pub receiving : after.receiving ≡ before.receiving
  pub settled : after.settled ≡ before.settled

-- the last promise and its job are taken back
pub record TakesLast (before after : Ends) : Type 0 where
  pub promise : Promise
  pub file : JobFile
  pub sending : before.sending ≡ promised_with after.sending promise
  pub given : before.given ≡ after.given ++ file ∷ []
  pub kept : after.kept ≡ before.kept
  pub receiving : after.receiving ≡ before.receiving
  pub settled : after.settled ≡ before.settled

-- the jobs of the account after a receipt: where it begins to count they are those that the other end kept, so many as the receipt says
abbrev pub given_after : Receipt → Verdict → Ends → List JobFile
given_after r Verdict.BeginsToCount e = take r.kept e.kept
given_after r (Verdict.Agrees came) e = take r.kept e.given
given_after r Verdict.DoesNotAgree e = e.given

-- what is settled as sent by it: where so many came, just those promises
abbrev pub settled_by : (known : Option Receipt) → Receipt → Verdict → Ends → List Settled
settled_by (Some known) r (Verdict.Agrees came) e = record { behind = known.kept; files = drop known.kept (take r.kept e.given) } ∷ []
settled_by known r verdict e = []

pub record TakesReceipt (r : Receipt) (verdict : Verdict) (before after : Ends) : Type 0 where
  pub found : IsFound before.sending r verdict
  pub sending : after.sending ≡ after_receipt before.sending r verdict
  pub given : after.given ≡ given_after r verdict before
  pub settled : after.settled ≡ before.settled ++ settled_by before.sending.known r verdict before
  pub kept : after.kept ≡ before.kept
  pub receiving : after.receiving ≡ before.receiving

-- what stands on disk is an account as it was at some moment: the last one, or an earlier one where something wasn't on disk yet
pub record TakesUp (past : History) (before after : Ends) : Type 0 where
  pub then : Ends
  pub stood : Stood past then
  pub sending : after.sending ≡ then.sending
  pub given : after.given ≡ then.given
  pub kept : after.kept ≡ before.kept
  pub receiving : after.receiving ≡ before.receiving
  pub settled : after.settled ≡ before.settled

abbrev pub ComesTo : History → Happening → (before after : Ends) → Type 0
ComesTo past (Keeps file) before after = after ≡ kept_too file before
ComesTo past (Promises which file place) before after = PromisesNext file place before after
ComesTo past TakesBack before after = TakesLast before after
ComesTo past (Hears r verdict) before after = TakesReceipt r verdict before after
ComesTo past Restarts before after = TakesUp past before after
ComesTo past Connects before after = after ≡ before
ComesTo past Says before after = after ≡ before

-- each happening comes to what stands after it
abbrev pub IsDay : History → Type 0
IsDay [] = Unit {0}
IsDay (m ∷ past) = ComesTo past m.what (ends_after past) m.after × IsDay past
