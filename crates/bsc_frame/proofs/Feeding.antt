-- Pieces of bytes, one after the other.
use Rattle.std.proofs.Common.{◌≡◌, ℕ, ◌+◌, ◌-◌, ◌<◌, List, [], ◌∷◌, ◌++◌, length, take, drop, get_or, refl, ap, sym, ◌∙◌, append_assoc, subst, arith}
use Rattle.std.proofs.lemmas.List.{append_cancel_right, take-append-drop, drop_more, drop-drop, length-drop, take_all}
use Rattle.bsc_frame.specs.declared.frame.Frame.{Frame}
use Rattle.bsc_frame.specs.Transmission.{Transmission, HasNoFrame}
use Rattle.bsc_frame.specs.Heard.{IsHeard}
use Rattle.bsc_frame.specs.Inside.Listening.HeardSoFar.{HeardSoFar, Pads, Progress, On, Got, next, heard_at}
use Rattle.bsc_frame.specs.Inside.Listening.Run.{Waits, Hears, run}
use Rattle.bsc_frame.specs.Listener.{HasTaken}
use Rattle.bsc_frame.proofs.Hearing.{run_on, run_got}
use Rattle.bsc_frame.proofs.Found.{found}
use Rattle.bsc_frame.proofs.Quiet.{no_frame, heard_lem}

append_step : (s t : List ℕ) (q : HeardSoFar) (n : Progress) → ((r : HeardSoFar) → run r s ≡ Waits q → run r (s ++ t) ≡ run q t) → elim n [ On r ↦ run r s | Got g ↦ Hears g s ] ≡ Waits q → elim n [ On r ↦ run r (s ++ t) | Got g ↦ Hears g (s ++ t) ] ≡ run q t
append_step s t q (On r) more e = more r e
append_step s t q (Got f) more e = absurd cc

-- more bytes after those by which `q` was heard so far
pub run-append : (p q : HeardSoFar) (s t : List ℕ) → run p s ≡ Waits q → run p (s ++ t) ≡ run q t
run-append p q [] t e = let same : p ≡ q = cc in ap (λ r. run r t) same
run-append p q (c ∷ s) t e = append_step s t q (next p c) (λ r. run-append r q s t) e

-- more bytes, and no frame in them
pub feed_on : (p q : HeardSoFar) (bytes piece : List ℕ) → HasTaken p bytes → run p piece ≡ Waits q → HasTaken q (bytes ++ piece)
unfolding HasTaken
feed_on p q bytes piece h e = run-append Pads p bytes piece h ∙ e

-- and no frame is in them
pub feed_none : (p q : HeardSoFar) (bytes piece : List ℕ) → HasTaken p bytes → run p piece ≡ Waits q → HasNoFrame (bytes ++ piece)
unfolding HasTaken
feed_none p q bytes piece h e = no_frame (bytes ++ piece) q (run-append Pads p bytes piece h ∙ e)

-- a frame in them
pub feed_found : (p : HeardSoFar) (f : Frame) (bytes piece : List ℕ) (n : ℕ) → HasTaken p bytes → run p piece ≡ Hears f (drop n piece) → Transmission f (bytes ++ take n piece)
unfolding HasTaken
feed_found p f bytes piece n h e =
    let it = found Pads (bytes ++ piece) f (drop n piece) (run-append Pads p bytes piece h ∙ e) in
    let cut : bytes ++ piece ≡ (bytes ++ take n piece) ++ drop n piece =
    ap (λ v. bytes ++ v) (sym (take-append-drop n piece)) ∙ sym (append_assoc bytes (take n piece) (drop n piece)) in
    subst (Transmission f) (append_cancel_right it.front (bytes ++ take n piece) (drop n piece) (sym it.whole ∙ cut)) it.completes

-- where the line goes quiet
pub feed_quiet : (p : HeardSoFar) (bytes : List ℕ) → HasTaken p bytes → IsHeard bytes (heard_at p)
unfolding HasTaken
feed_quiet p bytes h = heard_lem bytes p h

-- a new listener has taken nothing
pub taken_none : HasTaken Pads []
unfolding HasTaken
taken_none = refl

-- one byte of a piece
pub feed_more : (p q : HeardSoFar) (piece : List ℕ) (i c : ℕ) → i < length piece → get_or piece i 0 ≡ c → On q ≡ next p c → run q (drop (i + 1) piece) ≡ run p (drop i piece)
feed_more p q piece i c h e n =
    sym (ap (run p) (drop_more piece i 0 h ∙ ap (λ b. b ∷ drop (i + 1) piece) e) ∙ run_on p q c (drop (i + 1) piece) (sym n))

-- the byte with which a frame is whole
pub feed_last : (p : HeardSoFar) (f : Frame) (piece : List ℕ) (i c : ℕ) → i < length piece → get_or piece i 0 ≡ c → Got f ≡ next p c → run p (drop i piece) ≡ Hears f (drop (i + 1) piece)
feed_last p f piece i c h e n = ap (run p) (drop_more piece i 0 h ∙ ap (λ b. b ∷ drop (i + 1) piece) e) ∙ run_got p f c (drop (i + 1) piece) (sym n)

-- some bytes of a piece, kept at once
pub feed_kept : (p q : HeardSoFar) (piece : List ℕ) (used kept : ℕ)
    → run q (drop kept (take (length piece - used) (drop used piece))) ≡ run p (take (length piece - used) (drop used piece))
    → run q (drop (used + kept) piece) ≡ run p (drop used piece)
feed_kept p q piece used kept e =
    let rest : take (length piece - used) (drop used piece) ≡ drop used piece = take_all (length piece - used) (drop used piece) (omega (arith, length-drop used piece)) in
    let behind : drop kept (drop used piece) ≡ drop (used + kept) piece = drop-drop kept used piece ∙ ap (λ (n : ℕ). drop n piece) (omega arith) in
    ap (run q) (sym behind) ∙ ap (λ (l : List ℕ). run q (drop kept l)) (sym rest) ∙ e ∙ ap (run p) rest
