-- Over each schedule there is a conversation, or a fate that breaks its rule.
use Rattle.std.proofs.Common.{◌≡◌, ◌⊎◌, inl, inr, ℕ, zero, suc, ◌+◌, ◌<◌, ◌≤◌, Bool, false, ◌&&◌, List, [], ◌∷◌, length, slice_get, get_or, Option, Some, None, refl, arith, add-one}
use Rattle.std.proofs.lemmas.Bool.{cases_Bool}
use Rattle.std.proofs.lemmas.Option.{slice_get-get_or}
use Rattle.bsc_link.specs.declared.sound.Sound.{Sound}
use Rattle.bsc_link.specs.declared.wish.Wish.{Wish}
use Rattle.bsc_history.specs.declared.spoken_turn.SpokenTurn.{SpokenTurn}
use Rattle.bsc_history.specs.declared.sound_fate.SoundFate.{SoundFate}
use Rattle.bsc_history.specs.declared.sound_turn.SoundTurn.{SoundTurn}
use Rattle.bsc_history.specs.History.{History, Plan, is_over}
use Rattle.bsc_history.specs.Known.{gives_up_now}
use Rattle.bsc_history.specs.ReplyRule.{replying}
use Rattle.bsc_history.specs.SayingRule.{saying}
use Rattle.bsc_history.specs.Fate.{sound_of, sound_of_reply, after_fate}
use Rattle.bsc_history.specs.Conversation.{Follows, IsAt, IsSpokenOver, is_block, IsSettled, EverySchedule}
use Rattle.bsc_history.specs.Pair.{sound_counted, as_counted}
use Rattle.bsc_history.specs.PairSchedule.{BreaksPart}
use Rattle.bsc_history.proofs.Phases.{turn}
use Rattle.bsc_history.proofs.Schedule.{follows-at}

-- it goes on, and k turns were spoken
record GoesOn (plan : Plan) (places : List SoundTurn) (k : ℕ) : Type 0 where
  h : History
  long : length h ≡ k
  spoken : IsSpokenOver plan places h
  goes : is_over h ≡ false

cases-sound : (o : Option Sound) → (o ≡ None) ⊎ ((x : Sound) × (o ≡ Some x))
cases-sound None = inl refl
cases-sound (Some x) = inr (x, refl)

pub any-place : SoundTurn
any-place = record { up = SoundFate.Arrives; down = SoundFate.Arrives; refused = false; wish = Wish.Go; pause = false }

-- where it goes on, a fate breaks its rule, or there is a turn at the place; whether a bid is out or not
pub alone-turn : (bid_out : Bool) (plan : Plan) (gives_up : Bool) (past : History) (place : SoundTurn) → is_over past ≡ false → BreaksPart (sound_counted bid_out) plan gives_up past place ⊎ ((t : SpokenTurn) × Follows plan gives_up past (as_counted bid_out t) × IsAt place t)
alone-turn bid_out plan gives_up past place goes =
    let said = saying plan gives_up past in
    elim (cases-sound (after_fate place.up (sound_of said))) [
      | inl none ↦ inl (inl none)
      | inr (arrived, up) ↦
          let refused = place.refused && is_block arrived in
          let reply = replying past (sound_counted bid_out arrived) refused place.wish in
          elim (cases-sound (after_fate place.down (sound_of_reply reply))) [
            | inl none ↦ inl (inr (arrived, up, none))
            | inr (heard, down) ↦
                let t : SpokenTurn = turn said arrived refused reply heard place.wish place.pause in
                let at : IsAt place t = record { up = up; refused = refl; down = down; wish = refl; pause = refl } in
                inr (t, follows-at bid_out plan gives_up past place t goes at refl refl, at)
          ]
    ]

after-turn : (plan : Plan) (places : List SoundTurn) (k : ℕ) (h : History) (t : SpokenTurn) → (plan ≡ [] → ⊥) → length h ≡ k → IsSpokenOver plan places (t ∷ h) → IsSettled plan places ⊎ GoesOn plan places (k + 1)
after-turn plan places k h t blocks long spoken = elim (cases_Bool (is_over (t ∷ h))) [
  | inl over ↦ inl (inl (t ∷ h, record { empty = λ none. absurd (blocks none); spoken = spoken; whole = inr (inr over) }))
  | inr goes ↦ inr (record { h = t ∷ h; long = omega (arith, long); spoken = spoken; goes = goes })
]

one-more : (plan : Plan) (places : List SoundTurn) (k : ℕ) → (plan ≡ [] → ⊥) → k < length places → GoesOn plan places k → IsSettled plan places ⊎ GoesOn plan places (k + 1)
one-more plan places k blocks less g =
    let place : SoundTurn = get_or places (length g.h) any-place in
    let here : slice_get places (length g.h) ≡ Some place = slice_get-get_or places (length g.h) any-place (rw g.long less) in
    elim (alone-turn false plan (gives_up_now g.h) g.h place g.goes) [
      | inl broken ↦ inl (inr (length g.h + 1, record { past = g.h; before = refl; blocks = blocks; spoken = g.spoken; goes_on = g.goes; place = place; here = here; breaks = broken }))
      | inr (t, f, at) ↦ after-turn plan places k g.h t blocks g.long (record { conversation = (f, g.spoken.conversation); placed = ((place, here, at), g.spoken.placed) })
    ]

settled-within : (plan : Plan) (places : List SoundTurn) (k : ℕ) → (plan ≡ [] → ⊥) → k ≤ length places → IsSettled plan places ⊎ GoesOn plan places k
settled-within plan places zero blocks within = inr (record { h = []; long = refl; spoken = record { conversation = tt; placed = tt }; goes = refl })
settled-within plan places (suc k) blocks within = elim (settled-within plan places k blocks (omega (arith, within))) [
  | inl settled ↦ inl settled
  | inr goes ↦ rw (← add-one k) (one-more plan places k blocks (omega (arith, within)) goes)
]

settled-all : (plan : Plan) (places : List SoundTurn) → (plan ≡ [] → ⊥) → IsSettled plan places ⊎ GoesOn plan places (length places) → IsSettled plan places
settled-all plan places blocks (inl settled) = settled
settled-all plan places blocks (inr g) = inl (g.h, record { empty = λ none. absurd (blocks none); spoken = g.spoken; whole = inr (inl g.long) })

pub every_schedule : EverySchedule
every_schedule [] places = inl ([], record { empty = λ none. refl; spoken = record { conversation = tt; placed = tt }; whole = inl refl })
every_schedule (b ∷ plan) places =
    let blocks : (b ∷ plan) ≡ [] → ⊥ = λ e. cc in
    settled-all (b ∷ plan) places blocks (settled-within (b ∷ plan) places (length places) blocks (omega arith))
