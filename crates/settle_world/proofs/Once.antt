-- Each job that was put out stands once among those that are settled and promised.
use Rattle.std.proofs.Common.{◌≡◌, ◌-◌, ◌⊎◌, inl, inr, ℕ, List, [], ◌∷◌, ◌++◌, length, take, drop, refl, sym, append_assoc}
use Rattle.std.proofs.lemmas.List.{append-nil, take-append-drop}
use Rattle.rje_settle.specs.declared.verdict.Verdict.{Verdict}
use Rattle.rje_settle.specs.Digest.{JobFile}
use Rattle.settle_world.specs.Connections.{AllInTurn, BringsEachOnce, IsEachOnce, IsInTurn, IsOneOf, promised_by, promised_in, settled_by_receipt, settled_in}
use Rattle.settle_world.specs.Day.{Connects, Ends, Happening, Hears, History, Keeps, Promises, Restarts, Says, TakesBack}

one_of-left : (w : ℕ) (xs ys : List ℕ) → IsOneOf w xs → IsOneOf w (xs ++ ys)
one_of-left w [] ys h = absurd h
one_of-left w (x ∷ xs) ys (inl e) = inl e
one_of-left w (x ∷ xs) ys (inr h) = inr (one_of-left w xs ys h)

one_of-right : (w : ℕ) (xs ys : List ℕ) → IsOneOf w ys → IsOneOf w (xs ++ ys)
one_of-right w [] ys h = h
one_of-right w (x ∷ xs) ys h = inr (one_of-right w xs ys h)

one_of-either : (w : ℕ) (xs ys : List ℕ) → IsOneOf w (xs ++ ys) → IsOneOf w xs ⊎ IsOneOf w ys
one_of-either w [] ys h = inr h
one_of-either w (x ∷ xs) ys (inl e) = inl (inl e)
one_of-either w (x ∷ xs) ys (inr h) =
    elim (one_of-either w xs ys h) [
      | inl first ↦ inl (inr first)
      | inr second ↦ inr second
    ]

pub once-front : (xs ys : List ℕ) → IsEachOnce (xs ++ ys) → IsEachOnce xs
once-front [] ys h = tt
once-front (x ∷ xs) ys h = (λ is. h.0 (one_of-left x xs ys is), once-front xs ys h.1)

pub once-apart : (w : ℕ) (xs ys : List ℕ) → IsEachOnce (xs ++ ys) → IsOneOf w xs → IsOneOf w ys → ⊥
once-apart w [] ys h is_x is_y = absurd is_x
once-apart w (x ∷ xs) ys h (inl e) is_y = h.0 (one_of-right x xs ys (rw e at is_y))
once-apart w (x ∷ xs) ys h (inr is_x) is_y = once-apart w xs ys h.1 is_x is_y

last-other : (x w : ℕ) → IsOneOf x (w ∷ []) → (w ≡ x → ⊥) → ⊥
last-other x w (inl e) other = other (sym e)
last-other x w (inr h) other = absurd h

once-more : (w : ℕ) (xs : List ℕ) → IsEachOnce xs → (IsOneOf w xs → ⊥) → IsEachOnce (xs ++ w ∷ [])
once-more w [] h none = (λ is. is, tt)
once-more w (x ∷ xs) h none =
    let first : IsOneOf x (xs ++ w ∷ []) → ⊥ = λ is.
    elim (one_of-either x xs (w ∷ []) is) [
      | inl old ↦ h.0 old
      | inr new ↦ last-other x w new (λ e. none (inl e))
    ] in
    (first, once-more w xs h.1 (λ is. none (inr is)))

part_of : (s front rest all : List ℕ) → front ++ rest ≡ all → IsEachOnce (s ++ all) → IsEachOnce (s ++ front)
part_of s front rest all e h =
    let whole : IsEachOnce (s ++ (front ++ rest)) = rw e h in
    let split : IsEachOnce ((s ++ front) ++ rest) = rw (append_assoc s front rest) whole in
    once-front (s ++ front) rest split

once-step : (put_out : ℕ → JobFile) (past : History) (what : Happening) (after : Ends) → IsEachOnce (settled_in past ++ promised_in past)
    → IsInTurn put_out past what after
    → IsEachOnce (settled_by_receipt what (promised_in past) (settled_in past) ++ promised_by what (promised_in past))
once-step put_out past (Keeps file) after h turn = h
once-step put_out past (Promises which file place) after h turn =
    rw (sym (append_assoc (settled_in past) (promised_in past) (which ∷ []))) (once-more which (settled_in past ++ promised_in past) h turn.2)
once-step put_out past TakesBack after h turn =
    let n = length (promised_in past) - 1 in
    part_of (settled_in past) (take n (promised_in past)) (drop n (promised_in past)) (promised_in past) (take-append-drop n (promised_in past)) h
once-step put_out past (Hears r Verdict.BeginsToCount) after h turn = part_of (settled_in past) [] (promised_in past) (promised_in past) refl h
once-step put_out past (Hears r (Verdict.Agrees came)) after h turn =
    rw (append-nil (settled_in past ++ take came (promised_in past)))
    (part_of (settled_in past) (take came (promised_in past)) (drop came (promised_in past)) (promised_in past) (take-append-drop came (promised_in past)) h)
once-step put_out past (Hears r Verdict.DoesNotAgree) after h turn = h
once-step put_out past Restarts after h turn = h
once-step put_out past Connects after h turn = h
once-step put_out past Says after h turn = h

pub all_once : (put_out : ℕ → JobFile) (h : History) → AllInTurn put_out h → IsEachOnce (settled_in h ++ promised_in h)
all_once put_out [] turn = tt
all_once put_out (m ∷ past) turn = once-step put_out past m.what m.after (all_once put_out past turn.1) turn.0

pub brings_each_once : BringsEachOnce
brings_each_once put_out h turn = once-front (settled_in h) (promised_in h) (all_once put_out h turn)

-- what is ready again is none of those that are settled
pub ready-apart : (s promised : List ℕ) (came w : ℕ) → IsEachOnce (s ++ promised) → IsOneOf w (drop came promised)
    → IsOneOf w (s ++ take came promised) → ⊥
ready-apart s promised came w h ready settled =
    let whole : IsEachOnce (s ++ (take came promised ++ drop came promised)) = rw (take-append-drop came promised) h in
    let split : IsEachOnce ((s ++ take came promised) ++ drop came promised) = rw (append_assoc s (take came promised) (drop came promised)) whole in
    once-apart w (s ++ take came promised) (drop came promised) split settled ready
