-- The codes of the actions, and the actions of the codes.
use Rattle.std.proofs.Common.{◌≡◌, ℕ, Bool, true, false, cond, List, [], ◌∷◌, Option, Some, None, refl, ap, subst, eqb}
use Rattle.std.specs.List.{find}
use Rattle.std.specs.Option.{option_map_or}
use Rattle.rje_text.specs.declared.action.Action.{Action}
use Rattle.rje_text.specs.declared.action.Action.TheVariants.{Plain, Single, Double, Triple, Suppress, Ch1, Ch2, Ch3, Ch4, Ch5, Ch6, Ch7, Ch8, Ch9, Ch10, Ch11, Ch12}
use Rattle.rje_text.specs.Action.{code_of, has_code, coded_actions, action_of}
use Rattle.std.proofs.lemmas.Option.{none-some, same_Some}
use Rattle.std.proofs.lemmas.Bool.{eqb-true, false≢true}

find_step : {X : Type 0} (p : X → Bool) (y : X) (ys : List X) (x : X) (b : Bool) → p y ≡ b → (find p ys ≡ Some x → p x ≡ true) → cond b (Some y) (find p ys) ≡ Some x → p x ≡ true
find_step p y ys x true t rest e = subst (λ z. p z ≡ true) (same_Some y x e) t
find_step p y ys x false t rest e = rest e

-- what find gives passes the test
find_passes : {X : Type 0} (p : X → Bool) (xs : List X) (x : X) → find p xs ≡ Some x → p x ≡ true
find_passes p [] x e = absurd (none-some x e)
find_passes p (y ∷ ys) x e = find_step p y ys x (p y) refl (find_passes p ys x) e

from_code : (a : Action) → option_map_or (λ c. action_of c) (code_of a) (Some a) ≡ Some a
unfolding action_of
from_code Plain = refl
from_code Single = refl
from_code Double = refl
from_code Triple = refl
from_code Suppress = refl
from_code Ch1 = refl
from_code Ch2 = refl
from_code Ch3 = refl
from_code Ch4 = refl
from_code Ch5 = refl
from_code Ch6 = refl
from_code Ch7 = refl
from_code Ch8 = refl
from_code Ch9 = refl
from_code Ch10 = refl
from_code Ch11 = refl
from_code Ch12 = refl

-- an action's code stands for the action
pub action_of-code : (a : Action) (code : ℕ) → code_of a ≡ Some code → action_of code ≡ Some a
action_of-code a code e = subst (λ o. option_map_or (λ c. action_of c) o (Some a) ≡ Some a) e (from_code a)

same_code : (o : Option ℕ) (code : ℕ) → option_map_or (λ c. eqb c code) o false ≡ true → o ≡ Some code
same_code None code e = absurd (false≢true e)
same_code (Some c) code e = ap Some (eqb-true c code e)

-- the action that a code stands for has it
pub code_of-action : (a : Action) (code : ℕ) → action_of code ≡ Some a → code_of a ≡ Some code
unfolding action_of
code_of-action a code e = same_code (code_of a) code (find_passes (has_code code) coded_actions a e)
