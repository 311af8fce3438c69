-- Why a turn of two stations came to nothing.
use Rattle.std.proofs.Common.{◌≡◌, inr, ℕ, Bool, false, List, Option}
use Rattle.bsc_link.specs.declared.reply.Reply.{Reply}
use Rattle.bsc_link.specs.declared.sound.Sound.{Sound}
use Rattle.bsc_link.specs.Sender.{say_in}
use Rattle.rje_station.specs.Receiving.{Receiving}
use Rattle.rje_station.specs.Sending.{Sending, IsWrittenOf}
use Rattle.line_world.specs.declared.fate.Fate.{Fate}
use Rattle.line_world.specs.declared.turn.Turn.{Turn}
use Rattle.line_world.specs.declared.turn_fault.TurnFault.{TurnFault}
use Rattle.line_world.specs.declared.turn_fault.TurnFault.TheVariants as Fault
use Rattle.line_world.specs.Carrying.{FaultOf}
use Rattle.line_world.specs.Inside.Driving.{GoesUp, ReplyBreaks, IsReplyFault, BreaksIn, IsTurnFault}
use Rattle.bsc_history.specs.Fate.{sound_of}

-- what breaks a rule here does there
pub fault_so : (Here There : (Fate → Sound → List ℕ → Type 0) → Type 0) → ((Breaks : Fate → Sound → List ℕ → Type 0) → Here Breaks → There Breaks) → (fault : TurnFault) → FaultOf Here fault → FaultOf There fault
fault_so Here There so Fault.OutOfMemory h = tt
fault_so Here There so Fault.NotDamage h = so _ h
fault_so Here There so Fault.BadCut h = so _ h

-- the fate of the reply
pub fault_down : (turn : Turn) (s : Sending) (r middle : Receiving) (sent : List ℕ) (arrived : Sound) (refused : Bool) (answer : Option Reply) (fault : TurnFault) → s.over ≡ false → IsWrittenOf (say_in s.core.place) s.rest sent
    → GoesUp turn (sound_of (say_in s.core.place)) sent r middle arrived refused answer → IsReplyFault turn.down middle.due fault → IsTurnFault turn s r fault
fault_down turn s r middle sent arrived refused answer fault live written up h =
    fault_so (λ Breaks. ReplyBreaks Breaks turn.down middle.due) (λ Breaks. BreaksIn Breaks turn s r)
    (λ Breaks b. record { live = live; sent = sent; written = written; breaks = inr (record { arrived = arrived; refused = refused; answer = answer; middle = middle; up = up; breaks = b }) }) fault h
