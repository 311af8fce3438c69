-- What the plain listener hears where the line goes quiet.
use Rattle.std.proofs.Common.{◌≡◌, ℕ, List, ◌++◌, refl, ap, sym, ◌∙◌}
use Rattle.bsc_frame.specs.Transmission.{HasNoFrame}
use Rattle.bsc_frame.specs.Heard.{IsHeard}
use Rattle.bsc_frame.specs.Laws.{OneHearing, EveryHearing}
use Rattle.bsc_frame.specs.Inside.Listening.HeardSoFar.{HeardSoFar, Pads, OneSyn, Syns, Dle, Text, TextDle, AwaitsCheck, AwaitsSecondCheck, BadText, OnlyPads, OnlyNoise, heard_at}
use Rattle.bsc_frame.specs.Inside.Listening.Run.{Run, Waits, Hears, run}
use Rattle.bsc_frame.specs.declared.heard.Heard.TheVariants as heard
use Rattle.bsc_frame.proofs.Hearing.{run_transmission, one_transmission_lem}
use Rattle.bsc_frame.specs.declared.heard.Heard.{Heard}
use Rattle.bsc_frame.proofs.Found.{found}
use Rattle.bsc_frame.proofs.TextStarts.{HasText, has_text_by, opens}
use Rattle.bsc_frame.proofs.Silence.{IsSilent, is_silent, all_pads_or_syns}

-- no frame is heard of what waits
pub no_frame : (s : List ℕ) (q : HeardSoFar) → run Pads s ≡ Waits q → HasNoFrame s
no_frame s q h = λ f b.
    let hears : run Pads (b.front ++ b.rest) ≡ Hears f b.rest = run_transmission f b.front b.rest b.holds in
    let at : run Pads s ≡ run Pads (b.front ++ b.rest) = ap (run Pads) b.whole in
    cc

bad : (s : List ℕ) (q : HeardSoFar) → run Pads s ≡ Waits q → HasText q → IsHeard s heard.Bad
bad s q h o = (no_frame s q h, opens Pads s q o h)

quiet : (s : List ℕ) (q : HeardSoFar) → run Pads s ≡ Waits q → (HasText q → ⊥) → IsSilent q → IsHeard s heard.Quiet
quiet s q h o i = (no_frame s q h, (λ b. o (has_text_by s q h b)), (all_pads_or_syns Pads s q i h).1)

noise : (s : List ℕ) (q : HeardSoFar) → run Pads s ≡ Waits q → (HasText q → ⊥) → (IsSilent q → ⊥) → IsHeard s heard.Noise
noise s q h o i = (no_frame s q h, (λ b. o (has_text_by s q h b)), (λ a. i (is_silent s q h a)))

-- where the line goes quiet, this is heard
pub heard_lem : (s : List ℕ) (q : HeardSoFar) → run Pads s ≡ Waits q → IsHeard s (heard_at q)
heard_lem s Pads h = quiet s Pads h (λ x. x) tt
heard_lem s OneSyn h = quiet s OneSyn h (λ x. x) tt
heard_lem s Syns h = quiet s Syns h (λ x. x) tt
heard_lem s Dle h = noise s Dle h (λ x. x) (λ x. x)
heard_lem s (Text transparent text) h = bad s (Text transparent text) h tt
heard_lem s (TextDle text) h = bad s (TextDle text) h tt
heard_lem s (AwaitsCheck block) h = bad s (AwaitsCheck block) h tt
heard_lem s (AwaitsSecondCheck block first) h = bad s (AwaitsSecondCheck block first) h tt
heard_lem s BadText h = bad s BadText h tt
heard_lem s OnlyPads h = quiet s OnlyPads h (λ x. x) tt
heard_lem s OnlyNoise h = noise s OnlyNoise h (λ x. x) (λ x. x)

-- of any bytes one thing is heard
pub one_hearing_lem : OneHearing
one_hearing_lem s (heard.Frame f) (heard.Frame g) a b = ap heard.Frame (one_transmission_lem f g a.front b.front a.rest b.rest a.holds b.holds (sym a.whole ∙ b.whole)).0
one_hearing_lem s (heard.Frame f) heard.Bad a b = absurd (b.0 f a)
one_hearing_lem s (heard.Frame f) heard.Quiet a b = absurd (b.0 f a)
one_hearing_lem s (heard.Frame f) heard.Noise a b = absurd (b.0 f a)
one_hearing_lem s heard.Bad (heard.Frame g) a b = absurd (a.0 g b)
one_hearing_lem s heard.Quiet (heard.Frame g) a b = absurd (a.0 g b)
one_hearing_lem s heard.Noise (heard.Frame g) a b = absurd (a.0 g b)
one_hearing_lem s heard.Bad heard.Bad a b = refl
one_hearing_lem s heard.Bad heard.Quiet a b = absurd (b.1 a.1)
one_hearing_lem s heard.Bad heard.Noise a b = absurd (b.1 a.1)
one_hearing_lem s heard.Quiet heard.Bad a b = absurd (a.1 b.1)
one_hearing_lem s heard.Quiet heard.Quiet a b = refl
one_hearing_lem s heard.Quiet heard.Noise a b = absurd (b.2 a.2)
one_hearing_lem s heard.Noise heard.Bad a b = absurd (a.1 b.1)
one_hearing_lem s heard.Noise heard.Quiet a b = absurd (a.2 b.2)
one_hearing_lem s heard.Noise heard.Noise a b = refl

-- of any bytes something is heard: the first frame, or what is heard where they end
pub every_hearing_lem : EveryHearing
every_hearing_lem bytes = by_run (run Pads bytes) refl
  where
    by_run : (r : Run) → run Pads bytes ≡ r → (h : Heard) × IsHeard bytes h
    by_run (Waits q) e = (heard_at q, heard_lem bytes q e)
    by_run (Hears f rest) e =
        let it = found Pads bytes f rest e in
        (heard.Frame f, record { front = it.front; rest = rest; holds = it.completes; whole = it.whole })
