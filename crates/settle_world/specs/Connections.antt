-- The connections of such a day, and which jobs are settled, promised and ready again (own profile). The premise of the line: a receipt is a
-- transmission of its own, and once one is said, nothing that was sent before it comes any more.
use Rattle.std.specs.Prelude.{◌≡◌, ◌-◌, ◌⊎◌, ℕ, Bool, true, false, List, [], ◌∷◌, ◌++◌, drop, length, map, take}
use Rattle.rje_settle.specs.declared.receipt.Receipt.{Receipt}
use Rattle.rje_settle.specs.declared.verdict.Verdict.{Verdict}
use Rattle.rje_settle.specs.Connection.{is_good}
use Rattle.rje_settle.specs.Digest.{JobFile}
use Rattle.rje_settle.specs.Receipt.{no_receipt}
use Rattle.settle_world.specs.Day.{Connects, Ends, Happening, Hears, History, IsDay, Keeps, Moment, Promises, Restarts, Says, TakesBack, ends_after}
use Rattle.settle_world.specs.Settling.{AllTrusted}

-- ---- Looking back over a connection.

-- on this connection the other end's receipt was said, and nothing was promised since
abbrev pub is_said_by : Happening → Bool → Bool
is_said_by Says before = true
is_said_by Connects before = false
is_said_by Restarts before = false
is_said_by (Promises which file place) before = false
is_said_by _ before = before

abbrev pub is_said : History → Bool
is_said [] = false
is_said (m ∷ past) = is_said_by m.what (is_said past)

-- what it said last
abbrev pub said_by : Happening → Ends → Receipt → Receipt
said_by Says after before = after.receiving
said_by _ after before = before

abbrev pub said_last : History → Receipt
said_last [] = no_receipt
said_last (m ∷ past) = said_by m.what m.after (said_last past)

-- on this connection one was heard that agreed, or from which is counted, and none was said since
abbrev pub is_heard_by : Happening → Bool → Bool
is_heard_by Says before = false
is_heard_by Connects before = false
is_heard_by Restarts before = false
is_heard_by (Hears r verdict) before = is_good verdict
is_heard_by _ before = before

abbrev pub is_heard : History → Bool
is_heard [] = false
is_heard (m ∷ past) = is_heard_by m.what (is_heard past)

-- jobs may be on their way: something was promised since the other end said its receipt
abbrev pub is_out_by : Happening → Bool → Bool
is_out_by Says before = false
is_out_by (Promises which file place) before = true
is_out_by _ before = before

abbrev pub is_out : History → Bool
is_out [] = false
is_out (m ∷ past) = is_out_by m.what (is_out past)

-- ---- Looking back over the jobs that were put out.

-- without the last one
abbrev pub without_last : List ℕ → List ℕ
without_last names = take (length names - 1) names

-- those that are promised, in order
abbrev pub promised_by : Happening → List ℕ → List ℕ
promised_by (Promises which file place) before = before ++ which ∷ []
promised_by TakesBack before = without_last before
promised_by (Hears r Verdict.BeginsToCount) before = []
promised_by (Hears r (Verdict.Agrees came)) before = []
promised_by _ before = before

abbrev pub promised_in : History → List ℕ
promised_in [] = []
promised_in (m ∷ past) = promised_by m.what (promised_in past)

-- those that are settled as sent, in order: of those promised so many as came by a receipt
abbrev pub settled_by_receipt : Happening → (promised before : List ℕ) → List ℕ
settled_by_receipt (Hears r (Verdict.Agrees came)) promised before = before ++ take came promised
settled_by_receipt _ promised before = before

abbrev pub settled_in : History → List ℕ
settled_in [] = []
settled_in (m ∷ past) = settled_by_receipt m.what (promised_in past) (settled_in past)

-- those that are ready again by a receipt
abbrev pub ready_again : Happening → (promised : List ℕ) → List ℕ
ready_again (Hears r (Verdict.Agrees came)) promised = drop came promised
ready_again _ promised = []

-- the jobs that the other end had kept when it was begun to count
abbrev pub begun_by : Happening → Ends → List JobFile → List JobFile
begun_by (Hears r Verdict.BeginsToCount) after before = after.given
begun_by _ after before = before

abbrev pub begun_in : History → List JobFile
begun_in [] = []
begun_in (m ∷ past) = begun_by m.what m.after (begun_in past)

-- this is one of these
abbrev pub IsOneOf : ℕ → List ℕ → Type 0
IsOneOf which [] = ⊥
IsOneOf which (n ∷ names) = (which ≡ n) ⊎ IsOneOf which names

-- each stands there once
abbrev pub IsEachOnce : List ℕ → Type 0
IsEachOnce [] = Unit {0}
IsEachOnce (n ∷ names) = (IsOneOf n names → ⊥) × IsEachOnce names

-- ---- The rules.

-- a good receipt is what the other end said last on this connection
abbrev pub IsLastSaid : History → Receipt → Verdict → Type 0
IsLastSaid past r Verdict.DoesNotAgree = Unit {0}
IsLastSaid past r verdict = (is_said past ≡ true) × (r ≡ said_last past)

-- of the jobs that were put out, of which these are the files
abbrev pub IsInTurn : (ℕ → JobFile) → History → Happening → Ends → Type 0
-- a job is kept only while jobs may be on their way: something was promised, and no receipt was said since
IsInTurn put_out past (Keeps file) after = is_out past ≡ true
-- nothing is promised before a receipt came on this connection and agreed; and just what lies ready: neither promised nor settled
IsInTurn put_out past (Promises which file place) after =
    (is_heard past ≡ true) × (file ≡ put_out which) × (IsOneOf which (settled_in past ++ promised_in past) → ⊥)
IsInTurn put_out past (Hears r verdict) after = IsLastSaid past r verdict
-- an end begins anew with the account that it had
IsInTurn put_out past Restarts after = (after.sending ≡ (ends_after past).sending) × (after.given ≡ (ends_after past).given)
IsInTurn put_out past _ after = Unit {0}

abbrev pub AllInTurn : (ℕ → JobFile) → History → Type 0
AllInTurn put_out [] = Unit {0}
AllInTurn put_out (m ∷ past) = IsInTurn put_out past m.what m.after × AllInTurn put_out past

-- ---- What follows.

-- Once a receipt agrees no job is in doubt: nothing is promised any more, and the jobs that the other end has kept are just those that it had when
-- it was begun to count, and those that are settled as sent, in order.
pub record SettlesAll (put_out : ℕ → JobFile) (m : Moment) (past : History) : Type 0 where
  pub none_in_doubt : m.after.sending.promises ≡ []
  pub kept : m.after.kept ≡ begun_in past ++ map put_out (settled_in (m ∷ past))
  -- a job that was promised and isn't settled is ready again, and is none of these
  pub ready : (which : ℕ) → IsOneOf which (ready_again m.what (promised_in past)) → IsOneOf which (settled_in (m ∷ past)) → ⊥

abbrev pub SettlesDoubt : Type 0
SettlesDoubt = (put_out : ℕ → JobFile) (m : Moment) (past : History) (r : Receipt) (came : ℕ) → IsDay (m ∷ past) → AllTrusted (m ∷ past)
    → AllInTurn put_out (m ∷ past) → m.what ≡ Hears r (Verdict.Agrees came) → SettlesAll put_out m past

-- no job that was put out is settled twice
abbrev pub BringsEachOnce : Type 0
BringsEachOnce = (put_out : ℕ → JobFile) (h : History) → AllInTurn put_out h → IsEachOnce (settled_in h)

-- Once a receipt agrees, each job that the other end has kept since it was begun to count was put out, and is kept once.
abbrev pub KeepsEachOnce : Type 0
KeepsEachOnce = (put_out : ℕ → JobFile) (m : Moment) (past : History) (r : Receipt) (came : ℕ) → IsDay (m ∷ past) → AllTrusted (m ∷ past)
    → AllInTurn put_out (m ∷ past) → m.what ≡ Hears r (Verdict.Agrees came)
    → (names : List ℕ) × IsEachOnce names × (m.after.kept ≡ begun_in past ++ map put_out names)
