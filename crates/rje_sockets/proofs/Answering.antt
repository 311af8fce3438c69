-- What a line transmitted of a receiving station's replies, and what is kept by then.
use Rattle.std.proofs.Common.{◌≡◌, inl, inr, ℕ, Bool, [], ◌∷◌, refl, ap, ◌∙◌}
use Rattle.bsc_history.specs.History.{History}
use Rattle.rje_station.specs.declared.line_fault.LineFault.{LineFault}
use Rattle.rje_station.specs.declared.station_fault.StationFault.{StationFault}
use Rattle.rje_station.specs.declared.station_fault.StationFault.TheVariants as fault
use Rattle.rje_station.specs.StationFault.{IfLine, IsCause}
use Rattle.rje_station.specs.Line.{one_more}
use Rattle.rje_station.specs.Receiving.{Receiving, after_refusal, with_reply}
use Rattle.line_world.specs.AnyLines.{Turns}
use Rattle.rje_session.specs.Stations.{LineTells}
use Rattle.rje_sockets.specs.declared.transfer_error.TransferError.{TransferError}
use Rattle.rje_sockets.specs.declared.receive_end.ReceiveEnd.{ReceiveEnd}
use Rattle.rje_sockets.specs.Answering.{Answered, answers}
use Rattle.rje_sockets.specs.Inside.BreakingOff.{BreaksOffNow, KeptSoFar}
use Rattle.rje_sockets.specs.OverLine.{ReceiverTurn}
use Rattle.rje_sockets.specs.Patience.{Leaves}
use Rattle.rje_sockets.specs.Watching.{SawReceiver}
use Rattle.rje_sockets.proofs.Watched.{receiver_took}

-- ONE TURN

pub refusal_jobs : (fault : StationFault) (s : Receiving) → (after_refusal fault s).jobs ≡ s.jobs
refusal_jobs fault.Over s = refl
refusal_jobs _ s = refl

-- the line failed as the station replied
pub line_failed : (told : StationFault) (failed : LineFault → Type 0) (over : Bool) (middle after : ℕ) → (told ≡ fault.Over → ⊥) → IsCause failed ⊥ over told → IfLine told (after ≡ one_more middle) → after ≡ one_more middle
line_failed (fault.Line f) failed over middle after other cause tried = tried
line_failed fault.Over failed over middle after other cause tried = absurd (other refl)
line_failed fault.Babble failed over middle after other cause tried = absurd cause.0
line_failed _ failed over middle after other cause tried = absurd cause

-- it keeps the same file
pub breaks_same_file : (r r' : Receiving) (was is : KeptSoFar) (broken : TransferError) → BreaksOffNow r r' was is broken → is.0.file ≡ was.0.file
breaks_same_file r r' was is (TransferError.File fault) (what, refused, may, state, silent, goes) = goes.0
breaks_same_file r r' was is (TransferError.Line fault) (inl (state, silent, goes)) = goes.0
breaks_same_file r r' was is (TransferError.Line fault) (inr (what, refused, may, state, once, goes)) = goes.0

-- SOME TURNS

pub none_answered : (r : Receiving) (n : ℕ) → Answered r r n n
none_answered r n = record { history = []; took = refl; sent = refl }

-- just its replies were transmitted
just_replies : {W : Type 0} (Saw : SawReceiver W) (was is : Receiving × LineTells × W) (h : History) → Turns (λ _. ReceiverTurn Saw) was h is → is.1.1 ≡ answers h was.1.1
just_replies Saw was is [] same = ap (λ a. a.1.1) same
just_replies Saw was is (x ∷ past) (near, before, (takes, go, (heard, hears, sends, once), saw)) = once ∙ ap (with_reply x.reply) (just_replies Saw was near past before)

pub took_answered : {W : Type 0} (Saw : SawReceiver W) (was is : Receiving × LineTells × W) (h : History) → Turns (λ _. ReceiverTurn Saw) was h is → Answered was.0 is.0 was.1.1 is.1.1
took_answered Saw was is h took = record { history = h; took = receiver_took Saw was is h took; sent = just_replies Saw was is h took }

-- to the end, which leaves its jobs
pub left_answered : {W : Type 0} (most : ℕ) (Saw : SawReceiver W) (left : ReceiveEnd) (r r' : Receiving) (t u : LineTells) (w w' : W) → Leaves most Saw left (r, t, w) (r', u, w')
    → (far : Receiving) × Answered r far t.1 u.1 × (r'.jobs ≡ far.jobs)
left_answered most Saw ReceiveEnd.Ended r r' t u w w' (h, on, took, over) = (r', took_answered Saw (r, t, w) (r', u, w') h took, refl)
left_answered most Saw ReceiveEnd.Abandoned r r' t u w w' (far, (h, on, took, why), is) = (far, took_answered Saw (r, t, w) (far, u, w') h took, ap (λ (x : Receiving). x.jobs) is)
