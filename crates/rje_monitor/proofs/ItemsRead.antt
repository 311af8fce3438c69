-- Items of a text's line, and what they make of the bytes in front.
use Rattle.std.proofs.Common.{◌≡◌, ◌≢◌, ℕ, zero, suc, ◌+◌, ◌≤◌, ◌<◌, Bool, true, false, eqb, Some, None, List, [], ◌∷◌, ◌++◌, length, drop, replicate, get_or, refl, ap, sym, ◌∙◌, arith, append_assoc, inl, inr, subst, zero-add}
use Rattle.std.specs.Bool.{OnFalse}
use Rattle.std.specs.List.{AllByRecursion, prefix_len}
use Rattle.std.proofs.lemmas.List.{append-nil, drop_at, length-append, length-replicate}
use Rattle.std.proofs.lemmas.Bool.Decides.{nat_tests}
use Rattle.bsc_codes.specs.declared.block.Block.{Block}
use Rattle.bsc_codes.specs.declared.block.Closing.{Closing}
use Rattle.bsc_codes.specs.Bytes.{DLE, ENQ, STX, ETB, ETX, SYN}
use Rattle.bsc_check.specs.Check.{check_of}
use Rattle.bsc_frame.specs.declared.frame.Frame.{Frame}
use Rattle.bsc_frame.specs.declared.frame.Frame.TheVariants as frame
use Rattle.bsc_frame.specs.declared.heard.Heard.TheVariants as heard
use Rattle.bsc_frame.specs.Body.{IsNormalText, on_line, start_of_text, dle, closing_byte, covered}
use Rattle.bsc_frame.specs.Heard.{IsHeard}
use Rattle.bsc_frame.specs.Transmission.{IsPad, SyncPattern, HasNoFrame}
use Rattle.bsc_frame.specs.Inside.Listening.HeardSoFar.{HeardSoFar, Pads, Syns, Text, TextDle, AwaitsCheck, AwaitsSecondCheck, BadText, On, Got, is_check, next, block_of, frame_of_enq}
use Rattle.bsc_frame.specs.Inside.Listening.NormalText.{is_normal_text}
use Rattle.bsc_frame.specs.Inside.Listening.Run.{Waits, Hears, run}
use Rattle.bsc_frame.proofs.NormalBytes.{means_normal}
use Rattle.bsc_frame.proofs.Found.{found}
use Rattle.bsc_frame.proofs.Feeding.{run-append}
use Rattle.bsc_frame.proofs.Hearing.{run_sync, run_got, own_check}
use Rattle.rje_monitor.specs.declared.reason.Reason.{Reason}
use Rattle.rje_monitor.specs.Reasons.{IsCut, HasWrongCheck, IsTooLong, IsReason}
use Rattle.rje_monitor.specs.Inside.Items.{IsNoData, IsLineEnd, IsAt, HasBody, is_lead}
use Rattle.rje_monitor.proofs.TextRuns.{run_data}
use Rattle.rje_monitor.proofs.Outcomes.{Ends, Breaks, outcome, outcome-append, broken, run_end, wrong_check, too_long}
use Rattle.rje_monitor.proofs.ReasonsHold.{spoiled, spoils_normal, spoils_dle, spoils_second, cut_by, cut_text, cut_dle, cut_check}

-- ---- the start of a text

lead_pads : (pads v : List ℕ) → AllByRecursion IsPad pads → prefix_len is_lead (pads ++ v) ≡ length pads + prefix_len is_lead v
lead_pads [] v h = sym (zero-add (prefix_len is_lead v))
lead_pads (c ∷ pads) v h =
    let more = lead_pads pads v h.1 in
    elim h.0 [
      | inl e ↦ rw e (omega (arith, more))
      | inr e ↦ rw e (omega (arith, more))
    ]

lead_syns : (n : ℕ) (v : List ℕ) → prefix_len is_lead (replicate n SYN ++ v) ≡ n + prefix_len is_lead v
lead_syns zero v = sym (zero-add (prefix_len is_lead v))
lead_syns (suc n) v = omega (arith, lead_syns n v)

lead_start : (transparent : Bool) (rest : List ℕ) → prefix_len is_lead (start_of_text transparent ++ rest) ≡ 0
lead_start false rest = refl
lead_start true rest = refl

lead_sync : (l rest : List ℕ) (transparent : Bool) → SyncPattern l → prefix_len is_lead (l ++ (start_of_text transparent ++ rest)) ≡ length l
lead_sync l rest t h =
    let syns = SYN ∷ SYN ∷ replicate h.more SYN in
    let v = start_of_text t ++ rest in
    let whole : l ++ v ≡ h.pads ++ (syns ++ v) = ap (λ w. w ++ v) h.whole ∙ append_assoc h.pads syns v in
    let none = lead_start t rest in
    let pads = lead_pads h.pads (syns ++ v) h.are_pads in
    let more = lead_syns (suc (suc h.more)) v in
    let size : length l ≡ length h.pads + length syns = ap length h.whole ∙ length-append h.pads syns in
    let count : length syns ≡ suc (suc h.more) = ap (λ n. suc (suc n)) (length-replicate h.more SYN) in
    ap (prefix_len is_lead) whole ∙ omega (arith, none, pads, more, size, count)

pub has_body : (bytes : List ℕ) → IsHeard bytes heard.Bad → HasBody bytes (drop (prefix_len is_lead bytes) bytes)
has_body bytes bad =
    let h = bad.1 in
    let sync = h.holds.sync in
    let t = h.holds.transparent in
    let body = start_of_text t ++ h.rest in
    let all : bytes ≡ sync ++ body = h.whole ∙ ap (λ w. w ++ h.rest) h.holds.whole ∙ append_assoc sync (start_of_text t) h.rest in
    let count : prefix_len is_lead bytes ≡ length sync = ap (prefix_len is_lead) all ∙ lead_sync sync h.rest t h.holds.is_sync in
    let there : drop (prefix_len is_lead bytes) bytes ≡ body = ap (λ n. drop n bytes) count ∙ ap (drop (length sync)) all ∙ drop_at sync body (length sync) refl in
    (sync, t, h.rest, h.holds.is_sync, all ∙ ap (λ w. sync ++ w) (sym there), there)

run_start : (transparent : Bool) → run Syns (start_of_text transparent) ≡ Waits (Text transparent [])
run_start false = refl
run_start true = refl

at_line : (bytes sync rest : List ℕ) (transparent : Bool) → SyncPattern sync → bytes ≡ sync ++ (start_of_text transparent ++ rest) → IsAt bytes (Text transparent []) rest
at_line bytes sync rest t is_sync e =
    (sync ++ start_of_text t, e ∙ sym (append_assoc sync (start_of_text t) rest), run_sync sync (start_of_text t) is_sync ∙ run_start t)

first_of : (xs ys : List ℕ) → xs ≡ ys → get_or xs 0 0 ≡ get_or ys 0 0
first_of xs ys e = ap (λ (l : List ℕ). get_or l 0 0) e

pub normal_line : (bytes body line : List ℕ) → HasBody bytes body → body ≡ STX ∷ line → IsAt bytes (Text false []) line
normal_line bytes body line (sync, false, rest, is_sync, e, d) is = at_line bytes sync line false is_sync (e ∙ ap (λ w. sync ++ w) is)
normal_line bytes body line (sync, true, rest, is_sync, e, d) is = let first : 0x10 ≡ 0x02 = first_of _ _ (sym d ∙ is) in absurd (omega (arith, first))

pub transparent_line : (bytes body : List ℕ) → HasBody bytes body → ((line : List ℕ) → body ≢ STX ∷ line) → (2 ≤ length body) × IsAt bytes (Text true []) (drop 2 body)
transparent_line bytes body (sync, false, rest, is_sync, e, d) not = absurd (not rest d)
transparent_line bytes body (sync, true, rest, is_sync, e, d) not =
    let behind : drop 2 body ≡ rest = ap (drop 2) d in
    (omega (arith, ap length d), subst (λ (l : List ℕ). IsAt bytes (Text true []) l) (sym behind) (at_line bytes sync rest true is_sync (e ∙ ap (λ w. sync ++ w) d)))

-- ---- one item more

-- more bytes have come
pub at_more : (bytes item line rest : List ℕ) (p q : HeardSoFar) → IsAt bytes p line → line ≡ item ++ rest → run p item ≡ Waits q → IsAt bytes q rest
at_more bytes item line rest p q (front, e, h) is on =
    (front ++ item, e ∙ ap (λ w. front ++ w) is ∙ sym (append_assoc front item rest), run-append Pads p front item h ∙ on)

-- all bytes have come
pub at_end : (bytes rest : List ℕ) (q : HeardSoFar) → IsAt bytes q rest → rest ≡ [] → run Pads bytes ≡ Waits q
at_end bytes rest q (front, e, h) none = ap (run Pads) (e ∙ ap (λ w. front ++ w) none ∙ append-nil front) ∙ h

pub data_more : (transparent : Bool) (text line rest bytes : List ℕ) (c : ℕ) → IsAt bytes (Text transparent text) line → OnFalse transparent (IsNormalText c)
    → line ≡ on_line transparent (Some c) ++ rest → length text < 512 → IsAt bytes (Text transparent (text ++ c ∷ [])) rest
data_more t text line rest bytes c at n is h = at_more bytes (on_line t (Some c)) line rest (Text t text) (Text t (text ++ c ∷ [])) at is (run_data t text c n h)

pub data_full : (transparent : Bool) (text line rest bytes : List ℕ) (c : ℕ) → IsAt bytes (Text transparent text) line → OnFalse transparent (IsNormalText c)
    → line ≡ on_line transparent (Some c) ++ rest → length text ≡ 512 → IsTooLong bytes
data_full t text line rest bytes c (front, e, h) n is full = too_long t text front rest bytes c h full n (e ∙ ap (λ w. front ++ w) is)

run_fill : (transparent : Bool) (text : List ℕ) → run (Text transparent text) (on_line transparent None) ≡ Waits (Text transparent text)
run_fill false text = refl
run_fill true text = refl

pub fill_more : (transparent : Bool) (text line rest bytes : List ℕ) → IsAt bytes (Text transparent text) line → line ≡ on_line transparent None ++ rest
    → IsAt bytes (Text transparent text) rest
fill_more t text line rest bytes at is = at_more bytes (on_line t None) line rest (Text t text) (Text t text) at is (run_fill t text)

pub end_more : (transparent : Bool) (text line rest bytes : List ℕ) (closing : Closing) → IsAt bytes (Text transparent text) line
    → line ≡ dle transparent ++ (closing_byte closing ∷ rest) → IsAt bytes (AwaitsCheck (block_of transparent text closing)) rest
end_more t text line rest bytes closing at is =
    at_more bytes (dle t ++ (closing_byte closing ∷ [])) line rest (Text t text) (AwaitsCheck (block_of t text closing)) at
    (is ∙ sym (append_assoc (dle t) (closing_byte closing ∷ []) rest)) (run_end t text closing)

pub line_cut : (transparent : Bool) (text line bytes : List ℕ) → IsAt bytes (Text transparent text) line → IsLineEnd transparent line → IsCut bytes
line_cut false text line bytes at none = cut_text false text bytes (at_end bytes line (Text false text) at none)
line_cut true text line bytes at (inl none) = cut_text true text bytes (at_end bytes line (Text true text) at none)
line_cut true text line bytes at (inr one) =
    cut_dle text bytes (at_end bytes [] (TextDle text) (at_more bytes (DLE ∷ []) line [] (Text true text) (TextDle text) at one refl) refl)

-- ---- other bytes

not_heard : (bytes rest : List ℕ) (f : Frame) → HasNoFrame bytes → run Pads bytes ≡ Hears f rest → ⊥
not_heard bytes rest f none h =
    let it = found Pads bytes f rest h in
    none f (record { front = it.front; rest = rest; holds = it.completes; whole = it.whole })

-- one more byte makes no frame whole
at_got : (bytes rest : List ℕ) (p : HeardSoFar) (c : ℕ) (f : Frame) → HasNoFrame bytes → IsAt bytes p (c ∷ rest) → next p c ≡ Got f → ⊥
at_got bytes rest p c f none (front, e, h) got = not_heard bytes rest f none (ap (run Pads) e ∙ run-append Pads p front (c ∷ rest) h ∙ run_got p f c rest got)

-- a byte that is no normal text byte fails the test
fails : (c : ℕ) → ¬ (IsNormalText c) → is_normal_text c ≡ false
fails c n = by_test (is_normal_text c) refl
  where
    by_test : (b : Bool) → is_normal_text c ≡ b → b ≡ false
    by_test false e = refl
    by_test true e = absurd (n (means_normal c e))

differs : (c d : ℕ) → c ≢ d → eqb c d ≡ false
differs c d n = grind (arith, nat_tests)

break_normal : (text : List ℕ) (c : ℕ) → is_normal_text c ≡ false → c ≢ SYN → c ≢ ENQ → c ≢ ETB → c ≢ ETX → next (Text false text) c ≡ On BadText
break_normal text c n s q b x = rw n (rw (differs c SYN s) (rw (differs c ENQ q) (rw (differs c ETB b) (rw (differs c ETX x) refl))))

break_dle : (text : List ℕ) (c : ℕ) → c ≢ DLE → c ≢ SYN → c ≢ ENQ → c ≢ ETB → c ≢ ETX → next (TextDle text) c ≡ On BadText
break_dle text c d s q b x = rw (differs c DLE d) (rw (differs c SYN s) (rw (differs c ENQ q) (rw (differs c ETB b) (rw (differs c ETX x) refl))))

got_normal : (text : List ℕ) (c : ℕ) → c ≡ ENQ → next (Text false text) c ≡ Got (frame_of_enq false text)
got_normal text c e = rw e refl

got_dle : (text : List ℕ) (c : ℕ) → c ≡ ENQ → next (TextDle text) c ≡ Got (frame_of_enq true text)
got_dle text c e = rw e refl

outcome_at : (bytes rest : List ℕ) (front : List ℕ) (c : ℕ) (transparent : Bool) (text : List ℕ) → bytes ≡ front ++ rest → run Pads front ≡ Waits (Text transparent text)
    → outcome Pads bytes ≡ outcome (Text transparent text) rest
outcome_at bytes rest front c t text e h = ap (outcome Pads) e ∙ outcome-append Pads (Text t text) front rest refl h

pub other_spoils : (transparent : Bool) (text line rest bytes : List ℕ) (c : ℕ) → HasNoFrame bytes → IsAt bytes (Text transparent text) line
    → line ≡ dle transparent ++ (c ∷ rest) → IsNoData transparent c → c ≢ SYN → c ≢ ETB → c ≢ ETX → IsReason bytes Reason.Spoiled
other_spoils false text line rest bytes c none (front, e, h) is n s b x =
    let there : bytes ≡ front ++ (c ∷ rest) = e ∙ ap (λ w. front ++ w) is in
    let q : c ≢ ENQ = λ enq. at_got bytes rest (Text false text) c (frame_of_enq false text) none (front, there, h) (got_normal text c enq) in
    let test = fails c n in
    spoiled bytes (Breaks (Text false text) c)
    (outcome_at bytes (c ∷ rest) front c false text there h ∙ broken (Text false text) c rest (break_normal text c test s q b x)) (spoils_normal text c test)
other_spoils true text line rest bytes c none (front, e, h) is n s b x =
    let there : bytes ≡ front ++ (DLE ∷ c ∷ rest) = e ∙ ap (λ w. front ++ w) is in
    let at : IsAt bytes (TextDle text) (c ∷ rest) = at_more bytes (DLE ∷ []) line (c ∷ rest) (Text true text) (TextDle text) (front, e, h) is refl in
    let q : c ≢ ENQ = λ enq. at_got bytes rest (TextDle text) c (frame_of_enq true text) none at (got_dle text c enq) in
    spoiled bytes (Breaks (TextDle text) c)
    (outcome_at bytes (DLE ∷ c ∷ rest) front c true text there h ∙ broken (TextDle text) c rest (break_dle text c n s q b x)) (spoils_dle text c n)

-- ---- the check

pub check_none : (block : Block) (bytes rest : List ℕ) → IsAt bytes (AwaitsCheck block) rest → length rest ≡ 0 → IsCut bytes
check_none block bytes [] at none = cut_check block bytes (at_end bytes [] (AwaitsCheck block) at refl)
check_none block bytes (c ∷ rest) at none = absurd (omega (arith, none))

pub check_two : (block : Block) (bytes rest : List ℕ) → IsAt bytes (AwaitsCheck block) rest → length rest ≢ 0 → length rest ≢ 1 → HasWrongCheck bytes
check_two block bytes [] at some more = absurd (some refl)
check_two block bytes (a ∷ []) at some more = absurd (more refl)
check_two block bytes (a ∷ b ∷ rest) (front, e, h) some more = wrong_check block bytes front rest a b h e

at_first : (block : Block) (bytes : List ℕ) (a : ℕ) → IsAt bytes (AwaitsCheck block) (a ∷ []) → run Pads bytes ≡ Waits (AwaitsSecondCheck block a)
at_first block bytes a at = at_end bytes [] (AwaitsSecondCheck block a) (at_more bytes (a ∷ []) (a ∷ []) [] (AwaitsCheck block) (AwaitsSecondCheck block a) at refl refl) refl

pub check_first : (block : Block) (bytes rest : List ℕ) → IsAt bytes (AwaitsCheck block) rest → length rest ≡ 1
    → get_or rest 0 0 ≡ get_or (check_of (covered block.text.items block.closing)) 0 0 → IsCut bytes
check_first block bytes [] at one same = absurd (omega (arith, one))
check_first block bytes (a ∷ b ∷ rest) at one same = absurd (omega (arith, one))
check_first block bytes (a ∷ []) at one same =
    let all = covered block.text.items block.closing in
    let second = get_or (check_of all) 1 0 in
    let right : is_check all a second ≡ true = rw same (own_check all) in
    cut_by bytes (AwaitsSecondCheck block a) (frame.Block block) (second ∷ []) (at_first block bytes a at) (run_got (AwaitsSecondCheck block a) (frame.Block block) second [] (rw right refl))

pub check_other : (block : Block) (bytes rest : List ℕ) → IsAt bytes (AwaitsCheck block) rest → length rest ≡ 1
    → get_or rest 0 0 ≢ get_or (check_of (covered block.text.items block.closing)) 0 0 → IsReason bytes Reason.Spoiled
check_other block bytes [] at one other = absurd (omega (arith, one))
check_other block bytes (a ∷ b ∷ rest) at one other = absurd (omega (arith, one))
check_other block bytes (a ∷ []) (front, e, h) one other =
    let wrong = differs (get_or (check_of (covered block.text.items block.closing)) 0 0) a (λ same. other (sym same)) in
    let ends : outcome Pads bytes ≡ Ends (AwaitsSecondCheck block a) = ap (outcome Pads) e ∙ outcome-append Pads (AwaitsCheck block) front (a ∷ []) refl h in
    spoiled bytes (Ends (AwaitsSecondCheck block a)) ends (spoils_second block a wrong)
