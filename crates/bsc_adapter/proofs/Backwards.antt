-- Where a transmission of a frame was made, the bytes began with an adapter's form of that frame.
use Rattle.std.proofs.Common.{◌≡◌, ℕ, zero, suc, Bool, true, false, eqb, Option, Some, None, List, [], ◌∷◌, ◌++◌, replicate, refl, ap, sym, ◌∙◌, append_assoc, inl, inr, ◌⊎◌, subst}
use Rattle.std.proofs.lemmas.List.{append-nil}
use Rattle.std.proofs.lemmas.Bool.{eqb-true, or_cases}
use Rattle.std.specs.List.{flat_map, AllByRecursion}
use Rattle.std.specs.Prelude.{◌||◌}
use Rattle.bsc_codes.specs.Bytes.{STX, DLE, ENQ, SYN, EOT, NAK, PAD}
use Rattle.bsc_check.specs.Check.{check_of}
use Rattle.bsc_frame.specs.declared.frame.Frame.{Frame}
use Rattle.bsc_frame.specs.declared.frame.Frame.TheVariants as frame
use Rattle.bsc_frame.specs.Bytes.{LEADING_PAD, ACK0, ACK1, WACK, RVI}
use Rattle.bsc_frame.specs.Body.{closing_byte, on_line, start_of_text, dle, IsText, block_end, covered, EndedByEnq, Body}
use Rattle.bsc_frame.specs.Transmission.{IsPad, SyncPattern, Transmission, HasPrefix}
use Rattle.bsc_frame.specs.Heard.{IsPadOrSyn}
use Rattle.bsc_frame.proofs.Hearing.{data_of, AllNormal, on_line_byte}
use Rattle.bsc_adapter.specs.Form.{AdapterForm}
use Rattle.bsc_adapter.specs.Inside.Making.{Standing, Front, Dle, Text, TextDle, is_idle, check_behind, next, says, made}
use Rattle.bsc_adapter.specs.Made.{Makes}
use Rattle.bsc_adapter.specs.Laws.{NothingIsIdle}
use Rattle.bsc_adapter.proofs.Parts.{BodyByParts, of_parts}
use Rattle.bsc_adapter.proofs.Forwards.{one_normal, idle_dropped}

heads : (c d : ℕ) (xs ys : List ℕ) → c ∷ xs ≡ d ∷ ys → c ≡ d
heads c d xs ys e = cc

tails : (c d : ℕ) (xs ys : List ℕ) → c ∷ xs ≡ d ∷ ys → xs ≡ ys
tails c d xs ys e = cc

-- ---- The first byte of what is made behind the front is the first that was taken.

abbrev IsWithin : Standing → Type 0
IsWithin Front = ⊥
IsWithin Dle = Unit {0}
IsWithin (Text transparent text) = Unit {0}
IsWithin (TextDle text) = Unit {0}

-- what is made of a byte behind the byte itself
abbrev behind : Standing → ℕ → List ℕ
behind Front c = []
behind Dle c = []
behind (Text false text) c = check_behind text c
behind (Text true text) c = []
behind (TextDle text) c = check_behind text c

itself : (s : Standing) (c : ℕ) → IsWithin s → says s c ≡ c ∷ behind s c
itself Front c i = absurd i
itself Dle c i = refl
itself (Text false text) c i = refl
itself (Text true text) c i = refl
itself (TextDle text) c i = refl

record First (s : Standing) (bytes : List ℕ) (d : ℕ) (tail : List ℕ) : Type 0 where
  pub rest : List ℕ
  pub whole : bytes ≡ d ∷ rest
  pub left : behind s d ++ made (next s d) rest ≡ tail

first : (s : Standing) (bytes : List ℕ) (d : ℕ) (tail : List ℕ) → IsWithin s → made s bytes ≡ d ∷ tail → First s bytes d tail
first s [] d tail i e = absurd cc
first s (c ∷ bytes) d tail i e =
    let more = behind s c ++ made (next s c) bytes in
    let both : c ∷ more ≡ d ∷ tail = sym (ap (λ l. l ++ made (next s c) bytes) (itself s c i)) ∙ e in
    let same = heads c d more tail both in
    record { rest = bytes; whole = ap (λ x. x ∷ bytes) same; left = subst (λ x. behind s x ++ made (next s x) bytes ≡ tail) same (tails c d more tail both) }

-- ---- Texts.

record Cut (transparent : Bool) (items : List (Option ℕ)) (text bytes tail : List ℕ) : Type 0 where
  pub rest : List ℕ
  pub whole : bytes ≡ flat_map (on_line transparent) items ++ rest
  pub left : made (Text transparent (text ++ data_of items)) rest ≡ tail

cut_none : (transparent : Bool) (text bytes tail : List ℕ) → made (Text transparent text) bytes ≡ tail → Cut transparent [] text bytes tail
cut_none transparent text bytes tail e = record { rest = bytes; whole = refl; left = ap (λ t. made (Text transparent t) bytes) (append-nil text) ∙ e }

cut_normal : (items : List (Option ℕ)) (text bytes tail : List ℕ) → AllNormal (data_of items) → made (Text false text) bytes ≡ flat_map (on_line false) items ++ tail → Cut false items text bytes tail
cut_normal [] text bytes tail n e = cut_none false text bytes tail e
cut_normal (None ∷ items) text bytes tail n e =
    let f = first (Text false text) bytes SYN (flat_map (on_line false) items ++ tail) tt e in
    let cut = cut_normal items text f.rest tail n f.left in
    record { rest = cut.rest; whole = f.whole ∙ ap (λ l. SYN ∷ l) cut.whole; left = cut.left }
cut_normal (Some c ∷ items) text bytes tail n e =
    let more = flat_map (on_line false) items ++ tail in
    let f = first (Text false text) bytes c more tt e in
    let made_of : c ∷ made (Text false (text ++ c ∷ [])) f.rest ≡ c ∷ more = sym (one_normal text f.rest c n.0) ∙ ap (λ l. c ∷ l) f.left in
    let cut = cut_normal items (text ++ c ∷ []) f.rest tail n.1 (tails c c (made (Text false (text ++ c ∷ [])) f.rest) more made_of) in
    record { rest = cut.rest; whole = f.whole ∙ ap (λ l. c ∷ l) cut.whole; left = ap (λ t. made (Text false t) cut.rest) (sym (append_assoc text (c ∷ []) (data_of items))) ∙ cut.left }

record ByteCut (text : List ℕ) (c : ℕ) (bytes tail : List ℕ) : Type 0 where
  pub rest : List ℕ
  pub whole : bytes ≡ on_line true (Some c) ++ rest
  pub left : made (Text true (text ++ c ∷ [])) rest ≡ tail

cut_byte : (text : List ℕ) (c : ℕ) (bytes tail : List ℕ) → made (Text true text) bytes ≡ on_line true (Some c) ++ tail → ByteCut text c bytes tail
cut_byte text c bytes tail e =
    elim (on_line_byte c) [
      | inl p ↦
          let f = first (Text true text) bytes DLE (DLE ∷ tail) tt (e ∙ ap (λ l. l ++ tail) p.1) in
          let g = first (TextDle text) f.rest DLE tail tt f.left in
          record { rest = g.rest; whole = f.whole ∙ ap (λ l. DLE ∷ l) g.whole ∙ ap (λ l. l ++ g.rest) (sym p.1); left = ap (λ d. made (Text true (text ++ d ∷ [])) g.rest) p.0 ∙ g.left }
      | inr p ↦
          let f = first (Text true text) bytes c tail tt (e ∙ ap (λ l. l ++ tail) p.1) in
          record { rest = f.rest; whole = f.whole ∙ ap (λ l. l ++ f.rest) (sym p.1); left = alone f.rest p.0 f.left }
    ]
  where
    alone : (rest : List ℕ) → eqb c DLE ≡ false → made (next (Text true text) c) rest ≡ tail → made (Text true (text ++ c ∷ [])) rest ≡ tail
    alone rest n l = let s : next (Text true text) c ≡ Text true (text ++ c ∷ []) = rw n refl in ap (λ s. made s rest) (sym s) ∙ l

cut_transparent : (items : List (Option ℕ)) (text bytes tail : List ℕ) → made (Text true text) bytes ≡ flat_map (on_line true) items ++ tail → Cut true items text bytes tail
cut_transparent [] text bytes tail e = cut_none true text bytes tail e
cut_transparent (None ∷ items) text bytes tail e =
    let f = first (Text true text) bytes DLE (SYN ∷ (flat_map (on_line true) items ++ tail)) tt e in
    let g = first (TextDle text) f.rest SYN (flat_map (on_line true) items ++ tail) tt f.left in
    let cut = cut_transparent items text g.rest tail g.left in
    record { rest = cut.rest; whole = f.whole ∙ ap (λ l. DLE ∷ l) (g.whole ∙ ap (λ l. SYN ∷ l) cut.whole); left = cut.left }
cut_transparent (Some c ∷ items) text bytes tail e =
    let here = on_line true (Some c) in
    let later = flat_map (on_line true) items in
    let b = cut_byte text c bytes (later ++ tail) (e ∙ append_assoc here later tail) in
    let cut = cut_transparent items (text ++ c ∷ []) b.rest tail b.left in
    record {
      rest = cut.rest;
      whole = b.whole ∙ ap (λ l. here ++ l) cut.whole ∙ sym (append_assoc here later cut.rest);
      left = ap (λ t. made (Text true t) cut.rest) (sym (append_assoc text (c ∷ []) (data_of items))) ∙ cut.left;
    }

record TextCut (transparent : Bool) (text line bytes tail : List ℕ) : Type 0 where
  pub rest : List ℕ
  pub whole : bytes ≡ line ++ rest
  pub left : made (Text transparent text) rest ≡ tail

cut_text : (transparent : Bool) (text line bytes tail : List ℕ) → IsText transparent text line → made (Text transparent []) bytes ≡ line ++ tail → TextCut transparent text line bytes tail
cut_text false text line bytes tail h e =
    let cut = cut_normal h.items [] bytes tail (subst AllNormal h.text_is h.normal) (e ∙ ap (λ l. l ++ tail) h.line_is) in
    record { rest = cut.rest; whole = cut.whole ∙ ap (λ l. l ++ cut.rest) (sym h.line_is); left = ap (λ t. made (Text false t) cut.rest) h.text_is ∙ cut.left }
cut_text true text line bytes tail h e =
    let cut = cut_transparent h.items [] bytes tail (e ∙ ap (λ l. l ++ tail) h.line_is) in
    record { rest = cut.rest; whole = cut.whole ∙ ap (λ l. l ++ cut.rest) (sym h.line_is); left = ap (λ t. made (Text true t) cut.rest) h.text_is ∙ cut.left }

-- these bytes begin with those
abbrev BeginsWith : List ℕ → List ℕ → Type 0
BeginsWith front bytes = (rest : List ℕ) × (bytes ≡ front ++ rest)

cut_end : (transparent : Bool) (text bytes tail : List ℕ) (d : ℕ) → made (Text transparent text) bytes ≡ dle transparent ++ (d ∷ tail) → BeginsWith (dle transparent ++ d ∷ []) bytes
cut_end false text bytes tail d e = let f = first (Text false text) bytes d tail tt e in (f.rest, f.whole)
cut_end true text bytes tail d e =
    let f = first (Text true text) bytes DLE (d ∷ tail) tt e in
    let g = first (TextDle text) f.rest d tail tt f.left in
    (g.rest, f.whole ∙ ap (λ l. DLE ∷ l) g.whole)

-- ---- Bodies, from their first byte on.

at_first : (c d : ℕ) (bytes tail : List ℕ) → c ∷ made (next Front c) bytes ≡ d ∷ tail → (c ≡ d) × (made (next Front d) bytes ≡ tail)
at_first c d bytes tail e =
    let same = heads c d (made (next Front c) bytes) tail e in
    (same, subst (λ x. made (next Front x) bytes ≡ tail) same (tails c d (made (next Front c) bytes) tail e))

pub cut_start : (transparent : Bool) (c : ℕ) (bytes tail : List ℕ) → c ∷ made (next Front c) bytes ≡ start_of_text transparent ++ tail
    → (rest : List ℕ) × (c ∷ bytes ≡ start_of_text transparent ++ rest) × (made (Text transparent []) rest ≡ tail)
cut_start false c bytes tail e = let f = at_first c STX bytes tail e in (bytes, ap (λ x. x ∷ bytes) f.0, f.1)
cut_start true c bytes tail e =
    let f = at_first c DLE bytes (STX ∷ tail) e in
    let g = first Dle bytes STX tail tt f.1 in
    (g.rest, ap (λ x. x ∷ bytes) f.0 ∙ ap (λ l. DLE ∷ l) g.whole, g.left)

-- a text and what ends it
cut_ended : (transparent : Bool) (text line : List ℕ) (c : ℕ) (bytes tail : List ℕ) (d : ℕ) → IsText transparent text line
    → c ∷ made (next Front c) bytes ≡ start_of_text transparent ++ (line ++ (dle transparent ++ (d ∷ tail)))
    → BeginsWith (start_of_text transparent ++ (line ++ (dle transparent ++ d ∷ []))) (c ∷ bytes)
cut_ended transparent text line c bytes tail d h e =
    let start = start_of_text transparent in
    let end = dle transparent ++ d ∷ [] in
    let s = cut_start transparent c bytes (line ++ (dle transparent ++ (d ∷ tail))) e in
    let t = cut_text transparent text line s.0 (dle transparent ++ (d ∷ tail)) h s.2 in
    let z = cut_end transparent text t.rest tail d t.left in
    (z.0, s.1 ∙ ap (λ l. start ++ l) (t.whole ∙ ap (λ l. line ++ l) z.1 ∙ sym (append_assoc line end z.0)) ∙ sym (append_assoc start (line ++ end) z.0))

one_byte : (c d : ℕ) (bytes body rest : List ℕ) → body ≡ d ∷ [] → c ∷ made (next Front c) bytes ≡ body ++ rest → BeginsWith (d ∷ []) (c ∷ bytes)
one_byte c d bytes body rest h e = let f = at_first c d bytes rest (e ∙ ap (λ l. l ++ rest) h) in (bytes, ap (λ x. x ∷ bytes) f.0)

two_bytes : (c d : ℕ) (bytes body rest : List ℕ) → body ≡ DLE ∷ d ∷ [] → c ∷ made (next Front c) bytes ≡ body ++ rest → BeginsWith (DLE ∷ d ∷ []) (c ∷ bytes)
two_bytes c d bytes body rest h e =
    let f = at_first c DLE bytes (d ∷ rest) (e ∙ ap (λ l. l ++ rest) h) in
    let g = first Dle bytes d rest tt f.1 in
    (g.rest, ap (λ x. x ∷ bytes) f.0 ∙ ap (λ l. DLE ∷ l) g.whole)

has : (f : Frame) (front bytes : List ℕ) → BodyByParts f front → BeginsWith front bytes → HasPrefix (BodyByParts f) bytes
has f front bytes h b = record { front = front; rest = b.0; holds = h; whole = b.1 }

enq_cut : (transparent : Bool) (text body : List ℕ) (c : ℕ) (bytes rest : List ℕ) → EndedByEnq transparent text body → c ∷ made (next Front c) bytes ≡ body ++ rest → BeginsWith body (c ∷ bytes)
enq_cut transparent text body c bytes rest h e =
    let start = start_of_text transparent in
    let end = dle transparent ++ ENQ ∷ [] in
    let z = cut_ended transparent text h.line c bytes rest ENQ h.is_text
    (e ∙ ap (λ l. l ++ rest) h.whole ∙ append_assoc start (h.line ++ end) rest ∙ ap (λ l. start ++ l) (append_assoc h.line end rest ∙ ap (λ l. h.line ++ l) (append_assoc (dle transparent) (ENQ ∷ []) rest))) in
    (z.0, z.1 ∙ ap (λ l. l ++ z.0) (sym h.whole))

body_cut : (f : Frame) (body : List ℕ) (c : ℕ) (bytes rest : List ℕ) → Body f body → c ∷ made (next Front c) bytes ≡ body ++ rest → HasPrefix (BodyByParts f) (c ∷ bytes)
body_cut frame.Enq body c bytes rest h e = has frame.Enq (ENQ ∷ []) (c ∷ bytes) refl (one_byte c ENQ bytes body rest h e)
body_cut frame.Ack0 body c bytes rest h e = has frame.Ack0 (DLE ∷ ACK0 ∷ []) (c ∷ bytes) refl (two_bytes c ACK0 bytes body rest h e)
body_cut frame.Ack1 body c bytes rest h e = has frame.Ack1 (DLE ∷ ACK1 ∷ []) (c ∷ bytes) refl (two_bytes c ACK1 bytes body rest h e)
body_cut frame.Nak body c bytes rest h e = has frame.Nak (NAK ∷ []) (c ∷ bytes) refl (one_byte c NAK bytes body rest h e)
body_cut frame.Wack body c bytes rest h e = has frame.Wack (DLE ∷ WACK ∷ []) (c ∷ bytes) refl (two_bytes c WACK bytes body rest h e)
body_cut frame.Rvi body c bytes rest h e = has frame.Rvi (DLE ∷ RVI ∷ []) (c ∷ bytes) refl (two_bytes c RVI bytes body rest h e)
body_cut frame.Ttd body c bytes rest h e = has frame.Ttd body (c ∷ bytes) h (enq_cut false [] body c bytes rest h e)
body_cut frame.Abort body c bytes rest (inl h) e = has frame.Abort body (c ∷ bytes) (inl h) (enq_cut false h.0 body c bytes rest h.2 e)
body_cut frame.Abort body c bytes rest (inr h) e = has frame.Abort body (c ∷ bytes) (inr h) (enq_cut true h.0 body c bytes rest h.1 e)
body_cut frame.Eot body c bytes rest (inl h) e = has frame.Eot (EOT ∷ []) (c ∷ bytes) (inl refl) (one_byte c EOT bytes body rest h e)
body_cut frame.Eot body c bytes rest (inr h) e = has frame.Eot (DLE ∷ EOT ∷ []) (c ∷ bytes) (inr refl) (two_bytes c EOT bytes body rest h e)
body_cut (frame.Block block) body c bytes rest h e =
    let transparent = block.transparent in
    let text = block.text.items in
    let start = start_of_text transparent in
    let check = check_of (covered text block.closing) in
    let end = block_end transparent text block.closing in
    let d = closing_byte block.closing in
    has (frame.Block block) (start ++ (h.line ++ (dle transparent ++ d ∷ []))) (c ∷ bytes)
    (record { line = h.line; is_text = h.is_text; whole = refl })
    (cut_ended transparent text h.line c bytes (check ++ rest) d h.is_text
    (e ∙ ap (λ l. l ++ rest) h.whole ∙ append_assoc start (h.line ++ end) rest ∙ ap (λ l. start ++ l) (append_assoc h.line end rest ∙ ap (λ l. h.line ++ l) (append_assoc (dle transparent) (d ∷ check) rest))))

-- ---- The front.

-- what is made of bytes, if anything
pub record Begun (bytes : List ℕ) : Type 0 where
  pub idle : List ℕ
  pub c : ℕ
  pub rest : List ℕ
  pub are_idle : AllByRecursion IsPadOrSyn idle
  pub whole : bytes ≡ idle ++ c ∷ rest
  pub is_body : is_idle c ≡ false
  pub is_made : made Front bytes ≡ SYN ∷ SYN ∷ c ∷ made (next Front c) rest

pub idle_is : (c : ℕ) → is_idle c ≡ true → IsPadOrSyn c
idle_is c e =
    elim (or_cases (eqb c SYN) (eqb c PAD || eqb c LEADING_PAD) e) [
      | inl h ↦ inr (eqb-true c SYN h)
      | inr h ↦ elim (or_cases (eqb c PAD) (eqb c LEADING_PAD) h) [ inl k ↦ inl (inl (eqb-true c PAD k)) | inr k ↦ inl (inr (eqb-true c LEADING_PAD k)) ]
    ]

pub begun : (bytes : List ℕ) → (made Front bytes ≡ []) ⊎ Begun bytes
begun [] = inl refl
begun (c ∷ bytes) = by_test (is_idle c) refl (begun bytes)
  where
    by_test : (b : Bool) → is_idle c ≡ b → (made Front bytes ≡ []) ⊎ Begun bytes → (made Front (c ∷ bytes) ≡ []) ⊎ Begun (c ∷ bytes)
    by_test true e (inl n) = inl (let s : made Front (c ∷ bytes) ≡ made Front bytes = rw e refl in s ∙ n)
    by_test true e (inr b) =
        let s : made Front (c ∷ bytes) ≡ made Front bytes = rw e refl in
        inr (record { idle = c ∷ b.idle; c = b.c; rest = b.rest; are_idle = (idle_is c e, b.are_idle); whole = ap (λ l. c ∷ l) b.whole; is_body = b.is_body; is_made = s ∙ b.is_made })
    by_test false e b =
        let s : says Front c ≡ SYN ∷ SYN ∷ c ∷ [] = rw e refl in
        inr (record { idle = []; c = c; rest = bytes; are_idle = tt; whole = refl; is_body = e; is_made = ap (λ l. l ++ made (next Front c) bytes) s })

no_pad : (p : ℕ) → IsPad p → SYN ≡ p → ⊥
no_pad p (inl h) e = let t : false ≡ true = subst (λ x. eqb x PAD ≡ true) (sym (e ∙ h)) refl in absurd cc
no_pad p (inr h) e = let t : false ≡ true = subst (λ x. eqb x LEADING_PAD ≡ true) (sym (e ∙ h)) refl in absurd cc

pub no_syn : (c : ℕ) → is_idle c ≡ false → c ≡ SYN → ⊥
no_syn c n e = let t : is_idle SYN ≡ false = subst (λ x. is_idle x ≡ false) e n in absurd cc

-- the synchronization pattern of what is made is the two SYN
pub behind_sync : (pads : List ℕ) (more : ℕ) (c : ℕ) (xs body : List ℕ) → AllByRecursion IsPad pads → is_idle c ≡ false
    → SYN ∷ SYN ∷ c ∷ xs ≡ (pads ++ (SYN ∷ SYN ∷ replicate more SYN)) ++ body → c ∷ xs ≡ body
behind_sync (p ∷ pads) more c xs body h n e = absurd (no_pad p h.0 (heads SYN p (SYN ∷ c ∷ xs) ((pads ++ (SYN ∷ SYN ∷ replicate more SYN)) ++ body) e))
behind_sync [] zero c xs body h n e = tails SYN SYN (c ∷ xs) body (tails SYN SYN (SYN ∷ c ∷ xs) (SYN ∷ body) e)
behind_sync [] (suc more) c xs body h n e =
    let later = replicate more SYN ++ body in
    absurd (no_syn c n (heads c SYN xs later (tails SYN SYN (c ∷ xs) (SYN ∷ later) (tails SYN SYN (SYN ∷ c ∷ xs) (SYN ∷ SYN ∷ later) e))))

pub no_nothing : (sync body rest : List ℕ) → SyncPattern sync → [] ≡ (sync ++ body) ++ rest → ⊥
no_nothing [] body rest h e = none h.pads h.whole
  where
    none : (pads : List ℕ) → [] ≡ pads ++ (SYN ∷ SYN ∷ replicate h.more SYN) → ⊥
    none [] e = absurd cc
    none (p ∷ pads) e = absurd cc
no_nothing (c ∷ sync) body rest h e = absurd cc

-- where a transmission of a frame was made, the bytes began with an adapter's form of it
pub form_there : (f : Frame) (taken : List ℕ) → HasPrefix (Transmission f) (made Front taken) → HasPrefix (AdapterForm f) taken
form_there f taken h = elim (begun taken) [ inl n ↦ absurd (no_nothing h.holds.sync h.holds.body h.rest h.holds.is_sync (sym n ∙ whole)) | inr b ↦ formed b ]
  where
    whole : made Front taken ≡ (h.holds.sync ++ h.holds.body) ++ h.rest
    whole = h.whole ∙ ap (λ l. l ++ h.rest) h.holds.whole

    formed : Begun taken → HasPrefix (AdapterForm f) taken
    formed b =
        let t = h.holds in
        let xs = made (next Front b.c) b.rest in
        let e = sym b.is_made ∙ whole ∙ append_assoc t.sync t.body h.rest ∙ ap (λ l. l ++ (t.body ++ h.rest)) t.is_sync.whole in
        let is = behind_sync t.is_sync.pads t.is_sync.more b.c xs (t.body ++ h.rest) t.is_sync.are_pads b.is_body e in
        let cut = body_cut f t.body b.c b.rest h.rest t.is_body is in
        record {
          front = b.idle ++ cut.front;
          rest = cut.rest;
          holds = record { idle = b.idle; body = cut.front; are_idle = b.are_idle; is_body = of_parts f cut.front cut.holds; whole = refl };
          whole = b.whole ∙ ap (λ l. b.idle ++ l) cut.whole ∙ sym (append_assoc b.idle cut.front cut.rest);
        }

pub all_idle : (taken : List ℕ) → made Front taken ≡ [] → AllByRecursion IsPadOrSyn taken
all_idle [] e = tt
all_idle (c ∷ taken) e = by_test (is_idle c) refl (all_idle taken)
  where
    by_test : (b : Bool) → is_idle c ≡ b → (made Front taken ≡ [] → AllByRecursion IsPadOrSyn taken) → AllByRecursion IsPadOrSyn (c ∷ taken)
    by_test true i rest = let s : made Front (c ∷ taken) ≡ made Front taken = rw i refl in (idle_is c i, rest (sym s ∙ e))
    by_test false i rest =
        let s : says Front c ≡ SYN ∷ SYN ∷ c ∷ [] = rw i refl in
        let t : [] ≡ SYN ∷ SYN ∷ c ∷ made (next Front c) taken = sym e ∙ ap (λ l. l ++ made (next Front c) taken) s in
        absurd cc

pub nothing_is_idle_lem : NothingIsIdle
unfolding Makes
nothing_is_idle_lem taken = ((λ m. all_idle taken (sym m)), (λ h. sym (ap (made Front) (sym (append-nil taken)) ∙ idle_dropped taken [] h)))
