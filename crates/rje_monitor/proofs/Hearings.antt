-- A transmission has some bytes.
use Rattle.std.proofs.Common.{ℕ, ◌<◌, List, [], ◌∷◌, length, ap, sym, subst, append-nil, arith, length-append, replicate}
use Rattle.bsc_codes.specs.Bytes.{SYN}
use Rattle.bsc_frame.specs.declared.frame.Frame.{Frame}
use Rattle.bsc_frame.specs.declared.heard.Heard.{Heard}
use Rattle.bsc_frame.specs.Heard.{IsHeard}
use Rattle.bsc_frame.specs.Transmission.{SyncPattern, Transmission}
use Rattle.rje_monitor.specs.Hearing.{IsHeardFirst}

sync_some : (bytes : List ℕ) → SyncPattern bytes → 0 < length bytes
sync_some bytes h =
    omega (arith, ap length h.whole, length-append h.pads (SYN ∷ SYN ∷ replicate h.more SYN))

transmission_some : (f : Frame) (bytes : List ℕ) → Transmission f bytes → 0 < length bytes
transmission_some f bytes h =
    omega (arith, ap length h.whole, length-append h.sync h.body, sync_some h.sync h.is_sync)

-- what is heard first of some bytes takes some of them
pub some_taken : (heard : Heard) (bytes front rest : List ℕ) → 0 < length bytes → IsHeardFirst heard bytes front rest → 0 < length front
some_taken (Heard.Frame f) bytes front rest some h = transmission_some f front h.0
some_taken Heard.Bad bytes front rest some h = omega (arith, ap length h.1)
some_taken Heard.Noise bytes front rest some h = omega (arith, ap length h.1)
some_taken Heard.Quiet bytes front rest some h = omega (arith, ap length h.1)

-- and is heard of what it takes
pub heard_of_front : (heard : Heard) (bytes front rest : List ℕ) → IsHeardFirst heard bytes front rest → IsHeard front heard
heard_of_front (Heard.Frame f) bytes front rest h = record { front = front; rest = []; holds = h.0; whole = sym (append-nil front) }
heard_of_front Heard.Bad bytes front rest h = subst (λ (b : List ℕ). IsHeard b Heard.Bad) (sym h.1) h.0
heard_of_front Heard.Noise bytes front rest h = subst (λ (b : List ℕ). IsHeard b Heard.Noise) (sym h.1) h.0
heard_of_front Heard.Quiet bytes front rest h = subst (λ (b : List ℕ). IsHeard b Heard.Quiet) (sym h.1) h.0
