-- What is heard of what was made is what is heard of the bytes that came.
use Rattle.std.proofs.Common.{◌≡◌, ℕ, false, List, [], ◌∷◌, ◌++◌, refl, ap, sym, ◌∙◌, append_assoc, inl, inr, subst}
use Rattle.std.proofs.lemmas.List.{append-nil}
use Rattle.std.specs.Prelude.{◌↔◌}
use Rattle.std.specs.List.{AllByRecursion}
use Rattle.bsc_codes.specs.Bytes.{SYN, PAD}
use Rattle.bsc_frame.specs.Bytes.{LEADING_PAD}
use Rattle.bsc_frame.specs.declared.frame.Frame.{Frame}
use Rattle.bsc_frame.specs.declared.heard.Heard.{Heard}
use Rattle.bsc_frame.specs.declared.heard.Heard.TheVariants as heard
use Rattle.bsc_frame.specs.Body.{start_of_text}
use Rattle.bsc_frame.specs.Transmission.{Transmission, HasPrefix}
use Rattle.bsc_frame.specs.Heard.{IsPadOrSyn, IsHeard}
use Rattle.bsc_frame.specs.Heard as line
use Rattle.bsc_frame.proofs.Quiet.{one_hearing_lem, every_hearing_lem}
use Rattle.bsc_adapter.specs.Form.{check_bytes, AdapterForm}
use Rattle.bsc_adapter.specs.Heard.{IsTextStart, IsHeardFrom}
use Rattle.bsc_adapter.specs.Inside.Making.{Front, Text, is_idle, next, made}
use Rattle.bsc_adapter.specs.Made.{Makes}
use Rattle.bsc_adapter.specs.Laws.{SameIsHeard, OneHearing, EveryHearing}
use Rattle.bsc_adapter.proofs.Forwards.{started, idle_dropped, form_made, transmission_of}
use Rattle.bsc_adapter.proofs.Backwards.{begun, Begun, behind_sync, no_nothing, no_syn, cut_start, all_idle, form_there}

-- ---- Frames.

form_here : (f : Frame) (taken : List ℕ) → HasPrefix (AdapterForm f) taken → HasPrefix (Transmission f) (made Front taken)
form_here f taken h = record {
  front = SYN ∷ SYN ∷ (h.holds.body ++ check_bytes f);
  rest = made Front h.rest;
  holds = transmission_of f (h.holds.body ++ check_bytes f) h.holds.is_body;
  whole = ap (made Front) h.whole ∙ form_made f h.front h.rest h.holds;
}

-- ---- The start of a text.

start_there : (taken : List ℕ) → HasPrefix line.IsTextStart (made Front taken) → HasPrefix IsTextStart taken
start_there taken h = elim (begun taken) [ inl n ↦ absurd (no_nothing h.holds.sync start h.rest h.holds.is_sync (sym n ∙ whole)) | inr b ↦ found b ]
  where
    start : List ℕ
    start = start_of_text h.holds.transparent

    whole : made Front taken ≡ (h.holds.sync ++ start) ++ h.rest
    whole = h.whole ∙ ap (λ l. l ++ h.rest) h.holds.whole

    found : Begun taken → HasPrefix IsTextStart taken
    found b =
        let sync = h.holds.is_sync in
        let xs = made (next Front b.c) b.rest in
        let e = sym b.is_made ∙ whole ∙ append_assoc h.holds.sync start h.rest ∙ ap (λ l. l ++ (start ++ h.rest)) sync.whole in
        let cut = cut_start h.holds.transparent b.c b.rest h.rest (behind_sync sync.pads sync.more b.c xs (start ++ h.rest) sync.are_pads b.is_body e) in
        record {
          front = b.idle ++ start;
          rest = cut.0;
          holds = record { idle = b.idle; transparent = h.holds.transparent; are_idle = b.are_idle; whole = refl };
          whole = b.whole ∙ ap (λ l. b.idle ++ l) cut.1 ∙ sym (append_assoc b.idle start cut.0);
        }

start_here : (taken : List ℕ) → HasPrefix IsTextStart taken → HasPrefix line.IsTextStart (made Front taken)
start_here taken h =
    let begins = h.holds in
    let start = start_of_text begins.transparent in
    record {
      front = SYN ∷ SYN ∷ start;
      rest = made (Text begins.transparent []) h.rest;
      holds = record { sync = SYN ∷ SYN ∷ []; transparent = begins.transparent; is_sync = record { pads = []; are_pads = tt; more = 0; whole = refl }; whole = refl };
      whole =
          ap (made Front) (h.whole ∙ ap (λ l. l ++ h.rest) begins.whole ∙ append_assoc begins.idle start h.rest)
          ∙ idle_dropped begins.idle (start ++ h.rest) begins.are_idle ∙ started begins.transparent h.rest;
    }

-- ---- Silence.

busy : (c : ℕ) → IsPadOrSyn c → is_idle c ≡ false → ⊥
busy c (inl (inl e)) n = let t : is_idle PAD ≡ false = subst (λ x. is_idle x ≡ false) e n in absurd cc
busy c (inl (inr e)) n = let t : is_idle LEADING_PAD ≡ false = subst (λ x. is_idle x ≡ false) e n in absurd cc
busy c (inr e) n = no_syn c n e

silent_there : (taken : List ℕ) → AllByRecursion IsPadOrSyn (made Front taken) → AllByRecursion IsPadOrSyn taken
silent_there taken h = elim (begun taken) [ inl n ↦ all_idle taken n | inr b ↦ absurd (busy b.c (all b).1.1.0 b.is_body) ]
  where
    all : (b : Begun taken) → AllByRecursion IsPadOrSyn (SYN ∷ SYN ∷ b.c ∷ made (next Front b.c) b.rest)
    all b = subst (AllByRecursion IsPadOrSyn) b.is_made h

-- nothing is made of pads and SYN
none_made : (taken : List ℕ) → AllByRecursion IsPadOrSyn taken → made Front taken ≡ []
none_made taken h = ap (made Front) (sym (append-nil taken)) ∙ idle_dropped taken [] h

silent_here : (taken : List ℕ) → AllByRecursion IsPadOrSyn taken → AllByRecursion IsPadOrSyn (made Front taken)
silent_here taken h = subst (AllByRecursion IsPadOrSyn) (sym (none_made taken h)) tt

-- ---- So the same is heard.

alike : (taken : List ℕ) (h : Heard) → IsHeard (made Front taken) h ↔ IsHeardFrom taken h
alike taken (heard.Frame f) = (form_there f taken, form_here f taken)
alike taken heard.Bad = (
  λ h. ((λ f p. h.0 f (form_here f taken p)), start_there taken h.1),
  λ h. ((λ f p. h.0 f (form_there f taken p)), start_here taken h.1),
)
alike taken heard.Quiet = (
  λ h. ((λ f p. h.0 f (form_here f taken p)), (λ s. h.1 (start_here taken s)), silent_there taken h.2),
  λ h. ((λ f p. h.0 f (form_there f taken p)), (λ s. h.1 (start_there taken s)), silent_here taken h.2),
)
alike taken heard.Noise = (
  λ h. ((λ f p. h.0 f (form_here f taken p)), (λ s. h.1 (start_here taken s)), (λ a. h.2 (silent_here taken a))),
  λ h. ((λ f p. h.0 f (form_there f taken p)), (λ s. h.1 (start_there taken s)), (λ a. h.2 (silent_there taken a))),
)

pub same_is_heard_lem : SameIsHeard
unfolding Makes
same_is_heard_lem taken out h m = subst (λ o. IsHeard o h ↔ IsHeardFrom taken h) (sym m) (alike taken h)

pub one_hearing_from : OneHearing
one_hearing_from bytes h k a b = one_hearing_lem (made Front bytes) h k ((alike bytes h).1 a) ((alike bytes k).1 b)

pub every_hearing_from : EveryHearing
every_hearing_from bytes = let h = every_hearing_lem (made Front bytes) in (h.0, (alike bytes h.0).0 h.1)
