-- Schedules that tell schedules of sounds.
use Rattle.std.proofs.Common.{◌≡◌, ℕ, zero, suc, List, [], ◌∷◌, ◌++◌, length, take, drop, slice_get, Some, false, refl, ap, sym, ◌∙◌, subst}
use Rattle.std.proofs.lemmas.List.{take-append-drop}
use Rattle.std.proofs.lemmas.Option.{same_Some}
use Rattle.bsc_frame.specs.Laws.{EveryHearing}
use Rattle.bsc_history.specs.declared.sound_turn.SoundTurn.{SoundTurn}
use Rattle.line_world.specs.declared.turn.Turn.{Turn}
use Rattle.bsc_history.specs.History.{Plan, History}
use Rattle.bsc_history.specs.Conversation.{AreAt, IsSpokenOver}
use Rattle.line_world.specs.Run.{TellsTurn, TurnByTurn}
use Rattle.line_world.proofs.Comings.{tell}

-- any turn tells one of sounds
abbrev pub told_turn : EveryHearing → (turn : Turn) → (place : SoundTurn) × TellsTurn turn place
told_turn every x =
    let up = tell every x.up in
    let down = tell every x.down in
    (record { up = up.0; down = down.0; refused = false; wish = x.wish; pause = x.pause }, record { up = up.1; down = down.1; wish = refl; pause = refl })

-- ---- Turn by turn.

pub told_length : {X Y : Type 0} (Tells : X → Y → Type 0) (turns : List X) (places : List Y) → TurnByTurn Tells turns places → length turns ≡ length places
told_length Tells [] [] t = refl
told_length Tells [] (p ∷ ps) t = absurd t
told_length Tells (x ∷ xs) [] t = absurd t
told_length Tells (x ∷ xs) (p ∷ ps) t = ap suc (told_length Tells xs ps t.1)

told_append : {X Y : Type 0} (Tells : X → Y → Type 0) (turns more : List X) (places others : List Y) → TurnByTurn Tells turns places → TurnByTurn Tells more others → TurnByTurn Tells (turns ++ more) (places ++ others)
told_append Tells [] more [] others t u = u
told_append Tells [] more (p ∷ ps) others t u = absurd t
told_append Tells (x ∷ xs) more [] others t u = absurd t
told_append Tells (x ∷ xs) more (p ∷ ps) others t u = (t.0, told_append Tells xs more ps others t.1 u)

-- where any turn tells one, any schedule does
pub told_any : {X Y : Type 0} (Tells : X → Y → Type 0) → ((x : X) → (y : Y) × Tells x y) → (turns : List X) → (places : List Y) × TurnByTurn Tells turns places
told_any Tells any [] = ([], tt)
told_any Tells any (x ∷ xs) =
    let one = any x in
    let rest = told_any Tells any xs in
    (one.0 ∷ rest.0, (one.1, rest.1))

-- the turn that tells a place
pub told_at : {X Y : Type 0} (Tells : X → Y → Type 0) (turns : List X) (places : List Y) (k : ℕ) (place : Y) → TurnByTurn Tells turns places → slice_get places k ≡ Some place → (turn : X) × (slice_get turns k ≡ Some turn) × Tells turn place
told_at Tells [] [] zero place t e = absurd cc
told_at Tells [] [] (suc k) place t e = absurd cc
told_at Tells [] (p ∷ ps) k place t e = absurd t
told_at Tells (x ∷ xs) [] k place t e = absurd t
told_at Tells (x ∷ xs) (p ∷ ps) zero place t e = let same : p ≡ place = cc in (x, refl, subst (Tells x) same t.0)
told_at Tells (x ∷ xs) (p ∷ ps) (suc k) place t e = told_at Tells xs ps k place t.1 e

pub telling : {X Y : Type 0} (Tells : X → Y → Type 0) (turns : List X) (places : List Y) (k : ℕ) (turn : X) (place : Y) → TurnByTurn Tells turns places → slice_get turns k ≡ Some turn → slice_get places k ≡ Some place → Tells turn place
telling Tells turns places k turn place t here there = let at = told_at Tells turns places k place t there in subst (λ x. Tells x place) (same_Some _ _ (sym at.1 ∙ here)) at.2

pub take_one : {X : Type 0} (n : ℕ) (xs : List X) (x : X) → slice_get xs n ≡ Some x → take (suc n) xs ≡ take n xs ++ x ∷ []
take_one zero [] x e = absurd cc
take_one (suc n) [] x e = absurd cc
take_one zero (y ∷ xs) x e = let same : y ≡ x = cc in ap (λ z. z ∷ []) same
take_one (suc n) (y ∷ xs) x e = ap (λ zs. y ∷ zs) (take_one n xs x e)

pub drop_one : {X : Type 0} (n : ℕ) (xs : List X) (x : X) → slice_get xs n ≡ Some x → drop n xs ≡ x ∷ drop (suc n) xs
drop_one zero [] x e = absurd cc
drop_one (suc n) [] x e = absurd cc
drop_one zero (y ∷ xs) x e = let same : y ≡ x = cc in ap (λ z. z ∷ xs) same
drop_one (suc n) (y ∷ xs) x e = drop_one n xs x e

module _ {X Y : Type 0} (Tells : X → Y → Type 0) (turns : List X) (n : ℕ) (before : List Y) (told : TurnByTurn Tells (take n turns) before) where
  -- one more turn at its place
  pub told_on : (turn : X) (place : Y) → slice_get turns n ≡ Some turn → Tells turn place → TurnByTurn Tells (take (suc n) turns) (before ++ place ∷ [])
  told_on turn place here tells = subst (λ xs. TurnByTurn Tells xs (before ++ place ∷ [])) (sym (take_one n turns turn here)) (told_append Tells (take n turns) (turn ∷ []) before (place ∷ []) told (tells, tt))

  -- and all that follow
  pub told_whole : (rest : List Y) → TurnByTurn Tells (drop n turns) rest → TurnByTurn Tells turns (before ++ rest)
  told_whole rest more = subst (λ xs. TurnByTurn Tells xs (before ++ rest)) (take-append-drop n turns) (told_append Tells (take n turns) (drop n turns) before rest told more)

  pub told_with : (turn : X) (place : Y) (rest : List Y) → slice_get turns n ≡ Some turn → Tells turn place → TurnByTurn Tells (drop (suc n) turns) rest → TurnByTurn Tells turns (before ++ place ∷ rest)
  told_with turn place rest here tells more = told_whole (place ∷ rest) (subst (λ xs. TurnByTurn Tells xs (place ∷ rest)) (sym (drop_one n turns turn here)) (tells, more))

-- ---- Places.

pub get_append : {X : Type 0} (xs ys : List X) (k : ℕ) (x : X) → slice_get xs k ≡ Some x → slice_get (xs ++ ys) k ≡ Some x
get_append [] ys zero x e = absurd cc
get_append [] ys (suc k) x e = absurd cc
get_append (z ∷ xs) ys zero x e = e
get_append (z ∷ xs) ys (suc k) x e = get_append xs ys k x e

pub get_seam : {X : Type 0} (xs : List X) (y : X) (ys : List X) → slice_get (xs ++ y ∷ ys) (length xs) ≡ Some y
get_seam [] y ys = refl
get_seam (x ∷ xs) y ys = get_seam xs y ys

-- what is at its place stays there in a longer schedule
at_more : (places more : List SoundTurn) (h : History) → AreAt places h → AreAt (places ++ more) h
at_more places more [] a = tt
at_more places more (t ∷ past) a = ((a.0.0, get_append places more (length past) a.0.0 a.0.1, a.0.2), at_more places more past a.1)

pub spoken_longer : (plan : Plan) (places more : List SoundTurn) (h : History) → IsSpokenOver plan places h → IsSpokenOver plan (places ++ more) h
spoken_longer plan places more h s = record { conversation = s.conversation; placed = at_more places more h s.placed }
