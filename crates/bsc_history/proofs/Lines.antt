-- What each line of the sender's table means, looking back.
use Rattle.bsc_link.specs.declared.sound.Sound.{Sound}
use Rattle.bsc_link.specs.declared.say.Say.{Say}
use Rattle.bsc_link.specs.declared.wish.Wish.{Wish}
use Rattle.bsc_link.specs.declared.reply.Reply.{Reply}
use Rattle.bsc_history.specs.declared.spoken_turn.SpokenTurn.{SpokenTurn}
use Rattle.bsc_history.specs.History.{History, is_last, is_even}
use Rattle.bsc_history.specs.Known.{has_heard_rvi, known, is_counting, has_grant, is_progress, is_hold}
use Rattle.bsc_history.specs.SayingRule.{Says, due_without_progress, said_of}
use Rattle.bsc_link.specs.declared.sender_place.SenderPlace.{SenderPlace}
use Rattle.bsc_link.specs.declared.table_line.TableLine.{TableLine}
use Rattle.bsc_link.specs.Sender.{say_in, outcome_in, line_at_bid, line_at_block, line_at_ask, line_at_delay}
use Rattle.std.proofs.Common.{◌≡◌, ◌+◌, Bool, true, false, if◌then◌else◌, ◌∷◌, Option, None, refl, sym}
use Rattle.bsc_history.proofs.Phases.{turn}

pub record Progresses (past : History) (t : SpokenTurn) : Type 0 where
  pub progress : is_progress past t ≡ true
  pub going : is_last t ≡ false
  pub granted : has_grant (t ∷ past) ≡ true

pub record Waits (past : History) (t : SpokenTurn) (place : SenderPlace) : Type 0 where
  pub progress : is_progress past t ≡ false
  pub uncounted : is_counting past t ≡ false
  pub unheard : has_heard_rvi (t ∷ past) ≡ has_heard_rvi past
  pub going : is_last t ≡ false
  pub says : say_in place ≡ said_of (if has_grant (t ∷ past) then due_without_progress t else Says Say.Bid)
  pub open_ended : outcome_in place ≡ None

abbrev pub LineIs : History → SpokenTurn → TableLine → Type 0
LineIs past t TableLine.Progress = Progresses past t × (is_counting past t ≡ false) × (has_heard_rvi (t ∷ past) ≡ has_heard_rvi past)
LineIs past t TableLine.Count = Progresses past t × (is_counting past t ≡ true) × (has_heard_rvi (t ∷ past) ≡ has_heard_rvi past)
LineIs past t TableLine.CountByRvi = Progresses past t × (is_counting past t ≡ true) × (has_heard_rvi (t ∷ past) ≡ true)
LineIs past t (TableLine.Try place) = Waits past t place × (is_hold past t ≡ false)
LineIs past t (TableLine.Hold place) = Waits past t place × (is_hold past t ≡ true)
LineIs past t TableLine.HearsEot = (t.heard ≡ Sound.Eot) × (is_progress past t ≡ false) × (is_hold past t ≡ false) × (is_counting past t ≡ false) × (has_heard_rvi (t ∷ past) ≡ has_heard_rvi past) × (is_last t ≡ true)
LineIs past t TableLine.NoChange = ⊥

-- the line for a bid
pub at-bid : (past : History) (arrived : Sound) (refused : Bool) (reply : Option Reply) (heard : Sound) (wish : Wish) (pause : Bool) → has_grant past ≡ false → LineIs past (turn Say.Bid arrived refused reply heard wish pause) (line_at_bid heard)
at-bid past arrived refused reply Sound.Ack0 wish pause none = (record { progress = refl; going = refl; granted = refl }, refl, refl)
at-bid past arrived refused reply Sound.Wack wish pause none = (record { progress = refl; uncounted = refl; unheard = refl; going = refl; says = rw none refl; open_ended = refl }, refl)
at-bid past arrived refused reply Sound.Eot wish pause none = (refl, refl, refl, refl, refl, refl)
at-bid past arrived refused reply _ wish pause none = (record { progress = refl; uncounted = refl; unheard = refl; going = refl; says = rw none refl; open_ended = refl }, refl)

-- one of two lines, by a test
one-of : (P : TableLine → Type 0) (b c : Bool) (x y : TableLine) → b ≡ c → (c ≡ true → P x) → (c ≡ false → P y) → P (if b then x else y)
one-of P true c x y e f g = f (sym e)
one-of P false c x y e f g = g (sym e)

-- the line for a block
pub at-block : (past : History) (odd noted : Bool) (arrived : Sound) (refused : Bool) (reply : Option Reply) (heard : Sound) (wish : Wish) (pause : Bool) → has_grant past ≡ true → odd ≡ is_even (known past + 1) → noted ≡ has_heard_rvi past
    → LineIs past (turn Say.Block arrived refused reply heard wish pause) (line_at_block odd noted heard)
at-block past odd noted arrived refused reply Sound.Ack0 wish pause granted odd-is noted-is =
    one-of (LineIs past (turn Say.Block arrived refused reply Sound.Ack0 wish pause)) odd (is_even (known past + 1)) TableLine.Count (TableLine.Try SenderPlace.Ask) odd-is
    (λ e. (record { progress = e; going = refl; granted = granted }, e, refl))
    (λ e. (record { progress = e; uncounted = e; unheard = refl; going = refl; says = rw granted refl; open_ended = refl }, rw e refl))
at-block past odd noted arrived refused reply Sound.Ack1 wish pause granted odd-is noted-is =
    one-of (LineIs past (turn Say.Block arrived refused reply Sound.Ack1 wish pause)) odd (is_even (known past + 1)) (TableLine.Try SenderPlace.Ask) TableLine.Count odd-is
    (λ e. (record { progress = rw e refl; uncounted = rw e refl; unheard = refl; going = refl; says = rw granted refl; open_ended = refl }, rw e refl))
    (λ e. (record { progress = rw e refl; going = refl; granted = granted }, rw e refl, refl))
at-block past odd noted arrived refused reply Sound.Rvi wish pause granted odd-is noted-is =
    one-of (LineIs past (turn Say.Block arrived refused reply Sound.Rvi wish pause)) noted (has_heard_rvi past) (TableLine.Try SenderPlace.Ask) TableLine.CountByRvi noted-is
    (λ e. (record { progress = rw e refl; uncounted = rw e refl; unheard = sym e; going = refl; says = rw granted refl; open_ended = refl }, rw e refl))
    (λ e. (record { progress = rw e refl; going = refl; granted = granted }, rw e refl, refl))
at-block past odd noted arrived refused reply Sound.Nak wish pause granted odd-is noted-is = (record { progress = refl; uncounted = refl; unheard = refl; going = refl; says = rw granted refl; open_ended = refl }, refl)
at-block past odd noted arrived refused reply Sound.Wack wish pause granted odd-is noted-is = (record { progress = refl; uncounted = refl; unheard = refl; going = refl; says = rw granted refl; open_ended = refl }, refl)
at-block past odd noted arrived refused reply Sound.Eot wish pause granted odd-is noted-is = (refl, refl, refl, refl, refl, refl)
at-block past odd noted arrived refused reply _ wish pause granted odd-is noted-is = (record { progress = refl; uncounted = refl; unheard = refl; going = refl; says = rw granted refl; open_ended = refl }, refl)

-- a block said again is as one said for the first time
pub at-again : (past : History) (arrived : Sound) (refused : Bool) (reply : Option Reply) (heard : Sound) (wish : Wish) (pause : Bool) (line : TableLine) → LineIs past (turn Say.Block arrived refused reply heard wish pause) line → LineIs past (turn Say.Again arrived refused reply heard wish pause) line
at-again past arrived refused reply heard wish pause TableLine.Progress (p, a, b) = (record { progress = p.progress; going = p.going; granted = p.granted }, a, b)
at-again past arrived refused reply heard wish pause TableLine.Count (p, a, b) = (record { progress = p.progress; going = p.going; granted = p.granted }, a, b)
at-again past arrived refused reply heard wish pause TableLine.CountByRvi (p, a, b) = (record { progress = p.progress; going = p.going; granted = p.granted }, a, b)
at-again past arrived refused reply heard wish pause (TableLine.Try place) (w, a) = (record { progress = w.progress; uncounted = w.uncounted; unheard = w.unheard; going = w.going; says = w.says; open_ended = w.open_ended }, a)
at-again past arrived refused reply heard wish pause (TableLine.Hold place) (w, a) = (record { progress = w.progress; uncounted = w.uncounted; unheard = w.unheard; going = w.going; says = w.says; open_ended = w.open_ended }, a)
at-again past arrived refused reply heard wish pause TableLine.HearsEot p = p
at-again past arrived refused reply heard wish pause TableLine.NoChange p = p

-- the line for an inquiry
pub at-ask : (past : History) (odd noted : Bool) (arrived : Sound) (refused : Bool) (reply : Option Reply) (heard : Sound) (wish : Wish) (pause : Bool) → has_grant past ≡ true → odd ≡ is_even (known past + 1) → noted ≡ has_heard_rvi past
    → LineIs past (turn Say.Ask arrived refused reply heard wish pause) (line_at_ask odd noted heard)
at-ask past odd noted arrived refused reply Sound.Ack0 wish pause granted odd-is noted-is =
    one-of (LineIs past (turn Say.Ask arrived refused reply Sound.Ack0 wish pause)) odd (is_even (known past + 1)) TableLine.Count (TableLine.Try SenderPlace.Again) odd-is
    (λ e. (record { progress = e; going = refl; granted = granted }, e, refl))
    (λ e. (record { progress = e; uncounted = e; unheard = refl; going = refl; says = rw granted refl; open_ended = refl }, rw e refl))
at-ask past odd noted arrived refused reply Sound.Ack1 wish pause granted odd-is noted-is =
    one-of (LineIs past (turn Say.Ask arrived refused reply Sound.Ack1 wish pause)) odd (is_even (known past + 1)) (TableLine.Try SenderPlace.Again) TableLine.Count odd-is
    (λ e. (record { progress = rw e refl; uncounted = rw e refl; unheard = refl; going = refl; says = rw granted refl; open_ended = refl }, rw e refl))
    (λ e. (record { progress = rw e refl; going = refl; granted = granted }, rw e refl, refl))
at-ask past odd noted arrived refused reply Sound.Rvi wish pause granted odd-is noted-is =
    one-of (LineIs past (turn Say.Ask arrived refused reply Sound.Rvi wish pause)) noted (has_heard_rvi past) (TableLine.Try SenderPlace.Again) TableLine.CountByRvi noted-is
    (λ e. (record { progress = rw e refl; uncounted = rw e refl; unheard = sym e; going = refl; says = rw granted refl; open_ended = refl }, rw e refl))
    (λ e. (record { progress = rw e refl; going = refl; granted = granted }, rw e refl, refl))
at-ask past odd noted arrived refused reply Sound.Nak wish pause granted odd-is noted-is = (record { progress = refl; uncounted = refl; unheard = refl; going = refl; says = rw granted refl; open_ended = refl }, refl)
at-ask past odd noted arrived refused reply Sound.Wack wish pause granted odd-is noted-is = (record { progress = refl; uncounted = refl; unheard = refl; going = refl; says = rw granted refl; open_ended = refl }, refl)
at-ask past odd noted arrived refused reply Sound.Eot wish pause granted odd-is noted-is = (refl, refl, refl, refl, refl, refl)
at-ask past odd noted arrived refused reply _ wish pause granted odd-is noted-is = (record { progress = refl; uncounted = refl; unheard = refl; going = refl; says = rw granted refl; open_ended = refl }, refl)

-- the line for a delay
pub at-delay : (past : History) (arrived : Sound) (refused : Bool) (reply : Option Reply) (heard : Sound) (wish : Wish) (pause : Bool) → has_grant past ≡ true → LineIs past (turn Say.Delay arrived refused reply heard wish pause) (line_at_delay pause heard)
at-delay past arrived refused reply Sound.Nak wish true granted = (record { progress = refl; uncounted = refl; unheard = refl; going = refl; says = rw granted refl; open_ended = refl }, refl)
at-delay past arrived refused reply Sound.Nak wish false granted = (record { progress = refl; uncounted = refl; unheard = refl; going = refl; says = rw granted refl; open_ended = refl }, refl)
at-delay past arrived refused reply Sound.Wack wish pause granted = (record { progress = refl; uncounted = refl; unheard = refl; going = refl; says = rw granted refl; open_ended = refl }, refl)
at-delay past arrived refused reply Sound.Eot wish pause granted = (refl, refl, refl, refl, refl, refl)
at-delay past arrived refused reply _ wish pause granted = (record { progress = refl; uncounted = refl; unheard = refl; going = refl; says = rw granted refl; open_ended = refl }, refl)
