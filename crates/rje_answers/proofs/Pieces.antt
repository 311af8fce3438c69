-- The frames of a piece, one after another.
use Rattle.std.proofs.Common.{◌≡◌, refl, sym, ap, ◌∙◌, ℕ, ◌≢◌, ◌⊎◌, ◌+◌, ◌<◌, List, [], ◌∷◌, ◌++◌, length, take, drop, subst, append_assoc, inl, inr, arith}
use Rattle.std.proofs.lemmas.List.{append-nil, take-append-drop}
use Rattle.std.proofs.Math.Seq.{take-add, take-length}
use Rattle.bsc_frame.specs.declared.frame.Frame.{Frame}
use Rattle.bsc_frame.specs.Listener.{HasTaken}
use Rattle.bsc_frame.specs.Transmission.{HasNoFrame, Transmission}
use Rattle.bsc_frame.specs.Inside.Listening.HeardSoFar.{HeardSoFar}
use Rattle.bsc_frame.proofs.Quiet.{no_frame}
use Rattle.rje_answers.specs.declared.given.Given.{Given}
use Rattle.rje_answers.specs.declared.taken.Taken.{Taken}
use Rattle.rje_answers.specs.Hearing.{ComeIn, HeardAndKept, Hears, Takes}

-- more bytes are left
come_on : (bytes : List ℕ) (frames : List Frame) (left more : List ℕ) → ComeIn bytes frames left → ComeIn (bytes ++ more) frames (left ++ more)
come_on bytes [] left more come = ap (λ l. l ++ more) come
come_on bytes (f ∷ past) left more come =
    (come.0, subst (λ l. ComeIn (bytes ++ more) past l) (append_assoc come.0 left more) (come_on bytes past (come.0 ++ left) more come.1), come.2)

-- a listener that has taken some bytes has heard no frame in them
pub taken_none : (l : HeardSoFar) (bytes : List ℕ) → HasTaken l bytes → HasNoFrame bytes
unfolding HasTaken
taken_none l bytes taken = no_frame bytes l taken

-- the bytes in front of a place, and a part after it
take_on : (before piece : List ℕ) (place count : ℕ) → (before ++ take place piece) ++ take count (drop place piece) ≡ before ++ take (place + count) piece
take_on before piece place count = append_assoc before (take place piece) (take count (drop place piece)) ∙ ap (λ l. before ++ l) (sym (take-add place count piece))

take_all : (before piece : List ℕ) (place : ℕ) → (before ++ take place piece) ++ drop place piece ≡ before ++ piece
take_all before piece place = append_assoc before (take place piece) (drop place piece) ∙ ap (λ l. before ++ l) (take-append-drop place piece)

-- the invariant after a part from which nothing is given
pub hears_on : (a mid : HeardAndKept) (piece : List ℕ) (place : ℕ) (taken : Taken) (b : HeardAndKept) → Hears a (take place piece) Given.Nothing mid
    → Takes mid (drop place piece) taken b → taken.given ≡ Given.Nothing → Hears a (take (place + taken.used) piece) Given.Nothing b
hears_on a mid piece place taken b hears takes none = λ before has.
    let heeds = hears before has in
    elim (takes heeds.left (heeds.listens refl)) [
      | inl frame ↦ record {
        frames = frame.what ∷ heeds.frames;
        left = [];
        come = (
          heeds.left ++ take taken.used (drop place piece),
          subst (λ l. ComeIn (before ++ take (place + taken.used) piece) heeds.frames l) (sym (append-nil (heeds.left ++ take taken.used (drop place piece))))
              (subst (λ l. ComeIn l heeds.frames (heeds.left ++ take taken.used (drop place piece))) (take_on before piece place taken.used)
              (come_on (before ++ take place piece) heeds.frames heeds.left (take taken.used (drop place piece)) heeds.come)),
          frame.ends,
        );
        happened = (mid.kept, heeds.happened, frame.kept, sym none ∙ frame.given);
        listens = λ _. frame.listens;
      }
      | inr all ↦
          let same : take taken.used (drop place piece) ≡ drop place piece = rw all.all (take-length (drop place piece)) in
          record {
            frames = heeds.frames;
            left = heeds.left ++ drop place piece;
            come = subst (λ l. ComeIn (before ++ take (place + taken.used) piece) heeds.frames (heeds.left ++ l)) same
                (subst (λ l. ComeIn l heeds.frames (heeds.left ++ take taken.used (drop place piece))) (take_on before piece place taken.used)
                (come_on (before ++ take place piece) heeds.frames heeds.left (take taken.used (drop place piece)) heeds.come));
            happened = rw all.kept heeds.happened;
            listens = λ _. all.listens;
          }
    ]

-- a listener that has taken these bytes hears no frame at their end
no_empty_part : (mid : HeardAndKept) (left part : List ℕ) (f : Frame) (n : ℕ) → HasTaken mid.listener left → n ≡ 0 → Transmission f (left ++ take n part) → ⊥
no_empty_part mid left part f n has zero ends =
    let whole : left ++ take n part ≡ left = rw zero (append-nil left) in
    taken_none mid.listener left has f (record { front = left; rest = []; holds = subst (Transmission f) whole ends; whole = sym (append-nil left) })

-- and where something is given
pub hears_out : (a mid : HeardAndKept) (piece : List ℕ) (place : ℕ) (taken : Taken) (b : HeardAndKept) → Hears a (take place piece) Given.Nothing mid
    → Takes mid (drop place piece) taken b → 0 < length (drop place piece) → (taken.given ≢ Given.Nothing) ⊎ (taken.used ≡ 0) → Hears a piece taken.given b
hears_out a mid piece place taken b hears takes some why = λ before has.
    let heeds = hears before has in
    elim (takes heeds.left (heeds.listens refl)) [
      | inl frame ↦ record {
        frames = frame.what ∷ heeds.frames;
        left = drop taken.used (drop place piece);
        come = (
          heeds.left ++ take taken.used (drop place piece),
          subst (λ l. ComeIn (before ++ piece) heeds.frames l)
              (sym (append_assoc heeds.left (take taken.used (drop place piece)) (drop taken.used (drop place piece)) ∙ ap (λ l. heeds.left ++ l) (take-append-drop taken.used (drop place piece))))
              (subst (λ l. ComeIn l heeds.frames (heeds.left ++ drop place piece)) (take_all before piece place)
              (come_on (before ++ take place piece) heeds.frames heeds.left (drop place piece) heeds.come)),
          frame.ends,
        );
        happened = (mid.kept, heeds.happened, frame.kept, frame.given);
        listens = λ none. elim why [
          | inl given ↦ absurd (given none)
          | inr zero ↦ absurd (no_empty_part mid heeds.left (drop place piece) frame.what taken.used (heeds.listens refl) zero frame.ends)
        ];
      }
      | inr all ↦ elim why [
        | inl given ↦ absurd (given all.given)
        | inr zero ↦ absurd (omega (arith, zero, all.all, some))
      ]
    ]
