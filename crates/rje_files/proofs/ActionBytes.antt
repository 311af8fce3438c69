-- The bytes of actions in a job file.
use Rattle.std.proofs.Common.{◌≡◌, ℕ, Bool, true, false, eqb, ◌||◌, Option, Some, None, refl, ap, sym, ◌∙◌, subst, arith}
use Rattle.std.specs.Option.{is_some, unwrap_or}
use Rattle.std.proofs.lemmas.Bool.Decides.{nat_tests}
use Rattle.rje_text.specs.declared.action.Action.{Action}
use Rattle.rje_text.specs.declared.action.Action.TheVariants.{Plain, Single, Double, Triple, Suppress, Ch1, Ch2, Ch3, Ch4, Ch5, Ch6, Ch7, Ch8, Ch9, Ch10, Ch11, Ch12}
use Rattle.rje_text.specs.Action.{action_of}
use Rattle.rje_text.proofs.ActionCodes.{code_of-action}
use Rattle.rje_files.specs.JobFile.{action_byte}
use Rattle.rje_files.specs.Inside.Reading.Grammar.{is_action_byte}

pub action_good : (a : Action) → is_action_byte (action_byte a) ≡ true
unfolding action_of
action_good Plain = refl
action_good Single = refl
action_good Double = refl
action_good Triple = refl
action_good Suppress = refl
action_good Ch1 = refl
action_good Ch2 = refl
action_good Ch3 = refl
action_good Ch4 = refl
action_good Ch5 = refl
action_good Ch6 = refl
action_good Ch7 = refl
action_good Ch8 = refl
action_good Ch9 = refl
action_good Ch10 = refl
action_good Ch11 = refl
action_good Ch12 = refl

action_reads : (a : Action) → action_byte (unwrap_or (action_of (action_byte a)) Plain) ≡ action_byte a
unfolding action_of
action_reads Plain = refl
action_reads Single = refl
action_reads Double = refl
action_reads Triple = refl
action_reads Suppress = refl
action_reads Ch1 = refl
action_reads Ch2 = refl
action_reads Ch3 = refl
action_reads Ch4 = refl
action_reads Ch5 = refl
action_reads Ch6 = refl
action_reads Ch7 = refl
action_reads Ch8 = refl
action_reads Ch9 = refl
action_reads Ch10 = refl
action_reads Ch11 = refl
action_reads Ch12 = refl

-- the byte of some action
abbrev pub Coded : ℕ → Type 0
Coded b = (a : Action) × (action_byte a ≡ b)

either : (p q : Bool) {X : Type 0} → (p ≡ true → X) → (q ≡ true → X) → (p || q) ≡ true → X
either true q f g h = f refl
either false q f g h = g h

equal : (b n : ℕ) → eqb b n ≡ true → n ≡ b
equal b n h = grind (arith, nat_tests)

coded : (b : ℕ) (o : Option Action) → action_of b ≡ o → is_some o ≡ true → Coded b
coded b None e h = cc
coded b (Some a) e h = (a, ap (λ (c : Option ℕ). unwrap_or c 0) (code_of-action a b e))

pub action_back : (b : ℕ) → is_action_byte b ≡ true → Coded b
action_back b h = either _ _ (λ e. (Plain, equal b 0 e)) (coded b (action_of b) refl) h

-- the action that is read of a byte has it
pub action_read : (b : ℕ) → is_action_byte b ≡ true → action_byte (unwrap_or (action_of b) Plain) ≡ b
action_read b h = let code = action_back b h in subst (λ (x : ℕ). action_byte (unwrap_or (action_of x) Plain) ≡ x) code.1 (action_reads code.0)

action_back_of : (a : Action) → unwrap_or (action_of (action_byte a)) Plain ≡ a
unfolding action_of
action_back_of Plain = refl
action_back_of Single = refl
action_back_of Double = refl
action_back_of Triple = refl
action_back_of Suppress = refl
action_back_of Ch1 = refl
action_back_of Ch2 = refl
action_back_of Ch3 = refl
action_back_of Ch4 = refl
action_back_of Ch5 = refl
action_back_of Ch6 = refl
action_back_of Ch7 = refl
action_back_of Ch8 = refl
action_back_of Ch9 = refl
action_back_of Ch10 = refl
action_back_of Ch11 = refl
action_back_of Ch12 = refl

-- an action's byte is no other action's
pub same_action : (a b : Action) → action_byte a ≡ action_byte b → a ≡ b
same_action a b e = sym (action_back_of a) ∙ ap (λ (x : ℕ). unwrap_or (action_of x) Plain) e ∙ action_back_of b
