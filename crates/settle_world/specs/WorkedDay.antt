-- A worked day of two ends (own profile): of two jobs that are promised the first comes, and the second is lost.
use Rattle.std.specs.Prelude.{◌≡◌, ℕ, zero, suc, true, [], ◌∷◌, Some, None}
use Rattle.sha2.specs.Sha256.{sha256}
use Rattle.rje_settle.specs.declared.job_place.JobPlace.{JobPlace}
use Rattle.rje_settle.specs.declared.promise.Promise.{Promise}
use Rattle.rje_settle.specs.declared.receipt.Receipt.{Receipt}
use Rattle.rje_settle.specs.declared.verdict.Verdict.{Verdict}
use Rattle.rje_settle.specs.Digest.{JobFile}
use Rattle.rje_settle.specs.Receipt.{counted_with, no_receipt}
use Rattle.settle_world.specs.Connections.{AllInTurn, promised_in, ready_again, settled_in}
use Rattle.settle_world.specs.Day.{Connects, Ends, Happening, Hears, History, IsDay, Keeps, Promises, Says, first_ends, kept_too}
use Rattle.settle_world.specs.Settling.{AllTrusted}

-- two files of a job each, and which of them is the first
abbrev pub first_file : JobFile
first_file = 0xC1 ∷ []

abbrev pub second_file : JobFile
second_file = 0xC2 ∷ []

abbrev pub put_out : ℕ → JobFile
put_out zero = first_file
put_out (suc n) = second_file

abbrev pub last_place : JobPlace
last_place = record { mark = None; is_last = true }

-- what the other end says once the first came, and what it would say once both had
abbrev pub first_came : Receipt
first_came = counted_with no_receipt (sha256 first_file)

abbrev pub both_came : Receipt
both_came = counted_with first_came (sha256 second_file)

abbrev pub first_promise : Promise
first_promise = record { receipt = first_came; place = last_place }

abbrev pub second_promise : Promise
second_promise = record { receipt = both_came; place = last_place }

-- what the ends have: it is begun to count, the first is promised, both are, the first is kept, and the receipt of that agreed
abbrev pub counting : Ends
counting = record first_ends { sending = record { known = Some no_receipt; promises = [] } }

abbrev pub one_promised : Ends
one_promised = record first_ends { sending = record { known = Some no_receipt; promises = first_promise ∷ [] }; given = first_file ∷ [] }

abbrev pub both_promised : Ends
both_promised = record first_ends {
  sending = record { known = Some no_receipt; promises = first_promise ∷ second_promise ∷ [] };
  given = first_file ∷ second_file ∷ [];
}

abbrev pub one_kept : Ends
one_kept = kept_too first_file both_promised

abbrev pub all_settled : Ends
all_settled = record one_kept {
  sending = record { known = Some first_came; promises = [] };
  given = first_file ∷ [];
  settled = record { behind = 0; files = first_file ∷ [] } ∷ [];
}

-- up to the receipt that settles both
abbrev pub before_it : History
before_it =
    record { what = Says; after = one_kept } ∷
    record { what = Keeps first_file; after = one_kept } ∷
    record { what = Promises 1 second_file last_place; after = both_promised } ∷
    record { what = Promises 0 first_file last_place; after = one_promised } ∷
    record { what = Hears no_receipt Verdict.BeginsToCount; after = counting } ∷
    record { what = Says; after = first_ends } ∷
    record { what = Connects; after = first_ends } ∷ []

abbrev pub the_receipt : Happening
the_receipt = Hears first_came (Verdict.Agrees 1)

abbrev pub the_day : History
the_day = record { what = the_receipt; after = all_settled } ∷ before_it

-- this is a day, in which both premises hold; the first job is settled as sent, and the second is ready again
pub record LostJobMakesADay : Type 0 where
  pub day : IsDay the_day
  pub trusted : AllTrusted the_day
  pub in_turn : AllInTurn put_out the_day
  pub settled : settled_in the_day ≡ 0 ∷ []
  pub ready : ready_again the_receipt (promised_in before_it) ≡ 1 ∷ []
