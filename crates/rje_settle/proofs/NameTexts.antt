-- The ends of names in settle/: which bytes they hold, and how they split.
use Rattle.std.proofs.Common.{◌≡◌, ◌≢◌, ◌⊎◌, inl, inr, ℕ, Bool, true, false, List, [], ◌∷◌, ◌++◌, Option, Some, None, drop, ap, ◌∙◌, sym, arith, lit<}
use Rattle.std.specs.Prelude.{codes}
use Rattle.std.proofs.lemmas.List.{append-nil}
use Rattle.std.proofs.lemmas.List.Elements.{All-cons, All-nil}
use Rattle.rje_settle.specs.declared.job_place.JobPlace.{JobPlace}
use Rattle.rje_settle.specs.declared.receipt.Receipt.{Receipt}
use Rattle.rje_settle.specs.Inside.Splitting.{IsSplit, Lacks}
use Rattle.rje_settle.specs.Names.{IsMark, last_text, mark_text, place_text}
use Rattle.rje_settle.specs.Receipt.{CanBeSaid, counted_text}
use Rattle.rje_settle.proofs.CountedTexts.{decimal_lacks, one_front}
use Rattle.rje_settle.proofs.Splits.{no_split, split_is}

-- where a job is marked is told without a dash
pub mark_lacks : (mark : Option ℕ) → IsMark mark → Lacks 0x2D (mark_text mark)
mark_lacks None is = All-cons (λ b. b ≢ 0x2D) 0x78 [] (λ e. omega (arith, e)) (All-nil (λ b. b ≢ 0x2D))
mark_lacks (Some mark) is = decimal_lacks 0x2D mark (lit< tt) is

-- behind the first dash both parts stand, with a dash between them
pub behind_dash : (text : List ℕ) (place : JobPlace) → text ≡ place_text place → drop 1 text ≡ mark_text place.mark ++ 0x2D ∷ last_text place.is_last
unfolding place_text
behind_dash text place e = ap (λ (t : List ℕ). drop 1 t) e

pub dash_first : (text : List ℕ) (place : JobPlace) → text ≡ place_text place
    → text ≡ 0x2D ∷ (mark_text place.mark ++ 0x2D ∷ last_text place.is_last)
unfolding place_text
dash_first text place e = e

pub no_place : (rest : List ℕ) (place : JobPlace) → Lacks 0x2D rest → rest ≡ mark_text place.mark ++ 0x2D ∷ last_text place.is_last → ⊥
no_place rest place none e = no_split 0x2D rest (mark_text place.mark) (last_text place.is_last) none e

pub place_parts : (rest mark last : List ℕ) (place : JobPlace) → IsMark place.mark → IsSplit 0x2D rest mark last
    → rest ≡ mark_text place.mark ++ 0x2D ∷ last_text place.is_last → (mark ≡ mark_text place.mark) × (last ≡ last_text place.is_last)
place_parts rest mark last place is split e =
    split_is 0x2D rest mark last (mark_text place.mark) (last_text place.is_last) split (mark_lacks place.mark is) e

pub last_cases : (is_last : Bool) (last : List ℕ) → last ≡ last_text is_last → (last ≡ codes "1") ⊎ (last ≡ codes "0")
last_cases true last e = inl e
last_cases false last e = inr e

-- what stands behind a number and a digest is the same, however they are read
pub behind_is : (text : List ℕ) (r q : Receipt) (x y : List ℕ) → CanBeSaid r → CanBeSaid q → text ≡ counted_text 0x2D r ++ x
    → text ≡ counted_text 0x2D q ++ y → x ≡ y
behind_is text r q x y can_r can_q e f = (one_front 0x2D r q x y (lit< tt) can_r can_q (sym e ∙ f)).1

pub nothing_behind : (text : List ℕ) (r q : Receipt) (x : List ℕ) → CanBeSaid r → CanBeSaid q → text ≡ counted_text 0x2D r ++ x
    → text ≡ counted_text 0x2D q → x ≡ []
nothing_behind text r q x can_r can_q e f = behind_is text r q x [] can_r can_q e (f ∙ sym (append-nil (counted_text 0x2D q)))
