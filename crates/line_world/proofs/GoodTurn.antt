-- What a good turn of a schedule makes of the turn of its conversation.
use Rattle.std.proofs.Common.{◌≡◌, ℕ, zero, suc, false, List, [], ◌∷◌, ◌++◌, slice_get, Some, ap, sym, ◌∙◌, subst}
use Rattle.std.specs.List.{AllByRecursion}
use Rattle.std.proofs.lemmas.Option.{same_Some}
use Rattle.bsc_link.specs.declared.sound.Sound.{Sound}
use Rattle.line_world.specs.declared.fate.Fate.{Fate}
use Rattle.bsc_history.specs.declared.sound_fate.SoundFate.{SoundFate}
use Rattle.bsc_history.specs.declared.sound_turn.SoundTurn.{SoundTurn}
use Rattle.line_world.specs.declared.spoken.Spoken.{Spoken}
use Rattle.bsc_history.specs.declared.spoken_turn.SpokenTurn.{SpokenTurn}
use Rattle.line_world.specs.declared.turn.Turn.{Turn}
use Rattle.bsc_history.specs.History.{History}
use Rattle.bsc_history.specs.Conversation.{IsAt}
use Rattle.line_world.specs.Damage.{Tells}
use Rattle.bsc_history.specs.Fate.{sound_of, sound_of_reply, after_fate}
use Rattle.line_world.specs.GoodTurn.{AllArrives, IsGood}
use Rattle.line_world.specs.Run.{TellsTurn, spoken_of, spoken_turns}
use Rattle.bsc_history.proofs.ForRuns.{IsClean}
use Rattle.line_world.proofs.Comings.{after_arrives}
use Rattle.line_world.proofs.SoFar.{one_more}

-- ---- A good turn is clean.

told_arrives : (fate : Fate) (told : SoundFate) → AllArrives fate → Tells fate told → told ≡ SoundFate.Arrives
told_arrives (Fate.Arrives cuts) told a t = t
told_arrives Fate.Lost told a t = absurd a
told_arrives (Fate.Damaged bytes) told a t = absurd a

heard_all : (told : SoundFate) (said heard : Sound) → told ≡ SoundFate.Arrives → after_fate told said ≡ Some heard → heard ≡ said
heard_all told said heard e after = same_Some _ _ (sym after ∙ ap (λ f. after_fate f said) e ∙ after_arrives said)

pub clean_turn : (turn : Turn) (place : SoundTurn) (t : SpokenTurn) → IsGood turn → TellsTurn turn place → IsAt place t → t.refused ≡ false → IsClean t
clean_turn turn place t good told at unrefused = record {
  up = heard_all place.up (sound_of t.said) t.arrived (told_arrives turn.up place.up good.up told.up) at.up;
  down = heard_all place.down (sound_of_reply t.reply) t.heard (told_arrives turn.down place.down good.down told.down) at.down;
  unrefused = unrefused;
  goes = at.wish ∙ told.wish ∙ good.wish;
  unpaused = at.pause ∙ told.pause ∙ good.pause;
}

-- ---- The turn of the schedule that tells a place.

pub all_at : (P : Turn → Type 0) (turns : List Turn) (k : ℕ) (turn : Turn) → AllByRecursion P turns → slice_get turns k ≡ Some turn → P turn
all_at P [] zero turn a e = absurd cc
all_at P [] (suc k) turn a e = absurd cc
all_at P (x ∷ xs) zero turn a e = let same : x ≡ turn = cc in subst P same a.0
all_at P (x ∷ xs) (suc k) turn a e = all_at P xs k turn a.1 e

-- ---- No turn is refused.

abbrev pub AreUnrefused : History → Type 0
AreUnrefused [] = Unit {0}
AreUnrefused (t ∷ past) = (t.refused ≡ false) × AreUnrefused past

all_front : (xs ys : List Spoken) → AllByRecursion (λ t. t.refused ≡ false) (xs ++ ys) → AllByRecursion (λ t. t.refused ≡ false) xs
all_front [] ys a = tt
all_front (x ∷ xs) ys a = (a.0, all_front xs ys a.1)

all_back : (xs ys : List Spoken) → AllByRecursion (λ t. t.refused ≡ false) (xs ++ ys) → AllByRecursion (λ t. t.refused ≡ false) ys
all_back [] ys a = a
all_back (x ∷ xs) ys a = all_back xs ys a.1

pub unrefused : (h : History) → AllByRecursion (λ t. t.refused ≡ false) (spoken_turns h) → AreUnrefused h
unrefused [] a = tt
unrefused (t ∷ past) a =
    let turned : spoken_turns (t ∷ past) ≡ spoken_turns past ++ spoken_of t ∷ [] = one_more spoken_of t past in
    let all : AllByRecursion (λ u. u.refused ≡ false) (spoken_turns past ++ spoken_of t ∷ []) = subst (AllByRecursion (λ u. u.refused ≡ false)) turned a in
    let last = all_back (spoken_turns past) (spoken_of t ∷ []) all in
    (last.0, unrefused past (all_front (spoken_turns past) (spoken_of t ∷ []) all))
