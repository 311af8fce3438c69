-- What was fed so far of one hearing.
use Rattle.std.proofs.Common.{◌≡◌, ◌≢◌, ℕ, zero, suc, ◌+◌, ◌-◌, ◌<◌, ◌≤◌, List, [], ◌∷◌, ◌++◌, length, take, drop, Option, Some, None, refl, ap, sym, ◌∙◌, subst, arith, append_assoc, append-nil, length-append, length-take}
use Rattle.std.proofs.lemmas.List.{take-append-drop, take-take}
use Rattle.bsc_frame.specs.declared.frame.Frame.{Frame}
use Rattle.bsc_frame.specs.declared.heard.Heard.{Heard}
use Rattle.bsc_frame.specs.declared.heard.Heard.TheVariants as heard
use Rattle.bsc_frame.specs.Inside.Listening.HeardSoFar.{HeardSoFar}
use Rattle.bsc_frame.specs.Listener.{HasTaken}
use Rattle.bsc_frame.specs.Transmission.{Transmission, HasNoFrame}
use Rattle.bsc_frame.specs.Heard.{IsHeard}
use Rattle.rje_station.specs.declared.came.Came.TheVariants.{Bytes, Quiet}
use Rattle.rje_station.specs.Line.{Talk, Passes, Hears}
use Rattle.rje_station.specs.Hearing.{Hearing, Babbling, Ends}

pub record FedSo (listener : HeardSoFar) (room : ℕ) (t u : Talk) : Type 0 where
  pub fed : List ℕ
  pub came : t.coming ≡ fed ++ u.coming
  pub taken : HasTaken listener fed
  pub counted : length fed + room ≡ 8192
  pub sent : u.sent ≡ t.sent

-- two calls, one after the other
pub passes-on : (a b c : Option Talk) (P Q R : Talk → Talk → Type 0) → ((t u v : Talk) → P t u → Q u v → R t v) → Passes a b P → Passes b c Q → Passes a c R
passes-on None b c P Q R f p q = tt
passes-on (Some t) None c P Q R f p q = absurd p
passes-on (Some t) (Some u) None P Q R f p q = absurd q
passes-on (Some t) (Some u) (Some v) P Q R f p q = f t u v p q

-- a front that passes a list
take-past : (m : ℕ) (xs ys : List ℕ) → length xs ≤ m → take m (xs ++ ys) ≡ xs ++ take (m - length xs) ys
take-past m [] ys h = let e : m ≡ m - 0 = omega arith in ap (λ k. take k ys) e
take-past zero (x ∷ xs) ys h = absurd (omega (arith, h))
take-past (suc m) (x ∷ xs) ys h =
    let e : m - length xs ≡ suc m - length (x ∷ xs) = omega arith in
    ap (λ zs. x ∷ zs) (take-past m xs ys (omega (arith, h))) ∙ ap (λ k. x ∷ (xs ++ take k ys)) e

-- a frame in the first k of n bytes that came
pub frame_heard : (p : HeardSoFar) (room n k used : ℕ) (piece cut : List ℕ) (f : Frame) (t u v : Talk) → FedSo p room t u → Hears (Bytes n) piece u v
    → cut ≡ take k piece → k ≤ n → k ≤ room
    → ((bytes : List ℕ) → HasTaken p bytes → Transmission f (bytes ++ take used cut)) → Hearing t v (heard.Frame f)
frame_heard p room n k used piece cut f t u v s h e kn kr told =
    let w = take n piece in
    let front = s.fed ++ take used cut in
    let rest = drop used cut ++ drop k w in
    let cut_is : cut ≡ take k w = e ∙ sym (take-take k n piece kn) in
    let w_is : w ≡ take used cut ++ rest =
    sym (take-append-drop k w) ∙ ap (λ x. x ++ drop k w) (sym cut_is) ∙ ap (λ x. x ++ drop k w) (sym (take-append-drop used cut)) ∙ append_assoc (take used cut) (drop used cut) (drop k w) in
    let given_is : s.fed ++ w ≡ front ++ rest = ap (λ x. s.fed ++ x) w_is ∙ sym (append_assoc s.fed (take used cut) rest) in
    let came : t.coming ≡ (s.fed ++ w) ++ v.coming = s.came ∙ ap (λ x. s.fed ++ x) h.0 ∙ sym (append_assoc s.fed w v.coming) in
    let came_front : t.coming ≡ front ++ (rest ++ v.coming) = came ∙ ap (λ x. x ++ v.coming) given_is ∙ append_assoc front rest v.coming in
    let short : length front ≤ 8192 = omega (arith, s.counted, kr, length-append s.fed (take used cut), length-take used cut, ap length e, length-take k piece) in
    record {
      given = s.fed ++ w;
      left = v.coming;
      came = came;
      heard = record { front = front; rest = rest; holds = told s.fed s.taken; whole = given_is };
      first = record { front = front; rest = take (8192 - length front) (rest ++ v.coming); holds = told s.fed s.taken; whole = ap (take 8192) came_front ∙ take-past 8192 front (rest ++ v.coming) short };
      ends = refl;
      sent = h.1 ∙ s.sent;
    }

ends-quiet : (h : Heard) (given coming : List ℕ) → ((f : Frame) → h ≢ heard.Frame f) → length given ≤ 8192 → Ends h given [] coming
ends-quiet (heard.Frame f) given coming n l = absurd (n f refl)
ends-quiet heard.Bad given coming n l = (l, refl)
ends-quiet heard.Noise given coming n l = (l, refl)
ends-quiet heard.Quiet given coming n l = (l, refl)

-- the line went quiet
pub quiet_heard : (p : HeardSoFar) (room : ℕ) (piece : List ℕ) (h : Heard) (t u v : Talk) → FedSo p room t u → Hears Quiet piece u v
    → ((bytes : List ℕ) → HasTaken p bytes → IsHeard bytes h) → ((f : Frame) → h ≢ heard.Frame f) → Hearing t v h
quiet_heard p room piece h t u v s q told never =
    let came : t.coming ≡ s.fed ++ [] = s.came ∙ ap (λ x. s.fed ++ x) q.0 in
    let all : t.coming ≡ s.fed = came ∙ append-nil s.fed in
    let short : length s.fed ≤ 8192 = omega (arith, s.counted) in
    let first : take 8192 t.coming ≡ s.fed = ap (take 8192) came ∙ take-past 8192 s.fed [] short ∙ ap (λ x. s.fed ++ x) (take-none (8192 - length s.fed)) ∙ append-nil s.fed in
    record {
      given = s.fed;
      left = [];
      came = came;
      heard = told s.fed s.taken;
      first = subst (λ bytes. IsHeard bytes h) (sym first) (told s.fed s.taken);
      ends = ends-quiet h s.fed v.coming never short;
      sent = q.1 ∙ s.sent;
    }
  where
    take-none : (n : ℕ) → take {A = ℕ} n [] ≡ []
    take-none zero = refl
    take-none (suc n) = refl

-- more came than there was room for, and no frame in the first 8,192
pub babbled : (p : HeardSoFar) (room n k : ℕ) (piece cut : List ℕ) (t u v : Talk) → FedSo p room t u → Hears (Bytes n) piece u v
    → cut ≡ take k piece → k ≡ room → room < n → n ≤ length piece
    → ((bytes : List ℕ) → HasTaken p bytes → HasNoFrame (bytes ++ cut)) → Babbling t v
babbled p room n k piece cut t u v s h e kr over within told =
    let w = take n piece in
    let cut_is : cut ≡ take k w = e ∙ sym (take-take k n piece (omega (arith, kr))) in
    let left_is : 8192 - length s.fed ≡ k = omega (arith, s.counted, kr) in
    let first : take 8192 (s.fed ++ w) ≡ s.fed ++ cut =
    take-past 8192 s.fed w (omega (arith, s.counted)) ∙ ap (λ m. s.fed ++ take m w) left_is ∙ ap (λ x. s.fed ++ x) (sym cut_is) in
    record {
      given = s.fed ++ w;
      came = s.came ∙ ap (λ x. s.fed ++ x) h.0 ∙ sym (append_assoc s.fed w v.coming);
      many = omega (arith, s.counted, over, within, length-append s.fed w, length-take n piece);
      no_frame = subst HasNoFrame (sym first) (told s.fed s.taken);
    }

-- no frame yet: more bytes were fed, and all that came
pub fed_more : (p q : HeardSoFar) (room n k : ℕ) (piece cut : List ℕ) (t u v : Talk) → FedSo p room t u → Hears (Bytes n) piece u v
    → cut ≡ take k piece → k ≡ n → n ≤ room → n ≤ length piece
    → ((bytes : List ℕ) → HasTaken p bytes → HasTaken q (bytes ++ cut)) → FedSo q (room - n) t v
fed_more p q room n k piece cut t u v s h e kn nr within on =
    record {
      fed = s.fed ++ cut;
      came = s.came ∙ ap (λ x. s.fed ++ x) (h.0 ∙ ap (λ x. x ++ v.coming) (ap (λ m. take m piece) (sym kn) ∙ sym e)) ∙ sym (append_assoc s.fed cut v.coming);
      taken = on s.fed s.taken;
      counted = omega (arith, s.counted, nr, kn, within, length-append s.fed cut, ap length e, length-take k piece);
      sent = h.1 ∙ s.sent;
    }
