-- Where clap takes the words, they name a command of the program.
use Rattle.std.proofs.Common.{ℕ, List, [], ◌∷◌, ◌++◌, Option, Some, None, Bool, true, false, ◌≡◌, ◌≢◌, ◌⊎◌, inl, inr, refl, sym, ap, ◌∙◌, codes, subst, not, cond, ◌&&◌, ◌||◌}
use Rattle.std.specs.Prelude.{option_map, map, IfSome, is_some, if◌then◌else◌, find, fold, unwrap_or}
use Rattle.std.specs.Str.{bytes_eq}
use Rattle.std.proofs.lemmas.Slice.Eq.{bytes_eq-Decides}
use Rattle.std.proofs.lemmas.Bool.{true≢false}
use Rattle.clap.specs.Words.{App, Kinds, Row, Rule, Shape, Text, built, fault_of, subcommand_of}
use Rattle.clap.specs.Kinds.{or_else}
use Rattle.clap.specs.Simple.{entered, label_of, names_of, rows_at}
use Rattle.clap.specs.Faults.{level_fault, other_fault, step_fault, walk_fault, word_fault}
use Rattle.clap.specs.Walk.{Held, Names, Outcome, Step, Waiting, Walk, after_flag, after_step, answers_to, arg_by_index, done, idle, long_or_other, next, nothing_held, option, plain, plain_word, positional, refused, short_or_plain, subcommand, subcommand_met, subcommand_or_other, to_positional, trailing, value, waits, walk_from, walked, walked_from, word_met}
use Rattle.rje_cli.specs.CommandLine.{IsOneOf, command_names, rje_app}

-- A LEVEL WITHOUT A FAULT HAS NONE IN ITS PARTS

or_else-nil : (a b : Kinds) → or_else a b ≡ [] → (a ≡ []) × (b ≡ [])
or_else-nil [] b h = (refl, h)
or_else-nil (k ∷ ks) b h = cc

module _ (s : Shape) (names : Names) (h : Held) (words : List Text) (has : Bool) (below : Kinds) (none : level_fault s names h words has below ≡ []) where
  pub level_walk : walk_fault s names (walk_from h) words ≡ []
  level_walk = (or_else-nil (walk_fault s names (walk_from h) words) _ none).0

-- THE COMMAND THAT A WALK MEETS ISN'T `help`

-- no command, or another one
abbrev IsNoHelp : Option (Text × List Text) → Type 0
IsNoHelp stopped = IfSome stopped (λ p. bytes_eq p.0 (codes "help") ≡ false)

plain_never : (c : List Rule) (waiting : Waiting) (word : Text) (h : Held) (name : Text) → (plain_word c waiting word h).1 ≡ subcommand name → ⊥
plain_never c idle word h name e = cc
plain_never c (option id) word h name e = cc
plain_never c positional word h name e = cc

flag_never : (c : List Rule) (waiting : Waiting) (word : Text) (h : Held) (outcome : Outcome) (name : Text)
    → (after_flag c waiting word h outcome).1 ≡ subcommand name → ⊥
flag_never c waiting word h done name e = cc
flag_never c waiting word h (waits id) name e = cc
flag_never c waiting word h plain name e = plain_never c waiting word h name e
flag_never c waiting word h refused name e = plain_never c waiting word h name e

short_never : (c : List Rule) (waiting : Waiting) (word : Text) (flags : Option Text) (h : Held) (name : Text)
    → (short_or_plain c waiting word flags h).1 ≡ subcommand name → ⊥
short_never c waiting word None h name e = plain_never c waiting word h name e
short_never c waiting word (Some flags) h name e = flag_never c waiting word _ _ name e

long_never : (c : List Rule) (waiting : Waiting) (word : Text) (long : Option (Text × Option Text)) (h : Held) (name : Text)
    → (long_or_other c waiting word long h).1 ≡ subcommand name → ⊥
long_never c waiting word None h name e = short_never c waiting word _ h name e
long_never c waiting word (Some p) h name e = flag_never c waiting word _ _ name e

other_never : (c : List Rule) (waiting : Waiting) (position : ℕ) (word : Text) (long : Option (Text × Option Text)) (h : Held) (name : Text) (b : Bool)
    → (if b then (h, trailing position) else long_or_other c waiting word long h).1 ≡ subcommand name → ⊥
other_never c waiting position word long h name true e = cc
other_never c waiting position word long h name false e = long_never c waiting word long h name e

met_command : (c : List Rule) (met : Option Text) (waiting : Waiting) (position : ℕ) (word : Text) (h : Held) (name : Text)
    → (subcommand_or_other c met waiting position word h).1 ≡ subcommand name → met ≡ Some name
met_command c None waiting position word h name e = absurd (other_never c waiting position word _ h name _ e)
met_command c (Some n) waiting position word h name e = let is : n ≡ name = cc in ap (λ x. Some x) is

not_help : (b d : Bool) (ks : Kinds) → (if b && not d then ks else []) ≡ [] → ks ≢ [] → d ≡ false → b ≡ false
not_help false d ks e some is = refl
not_help true true ks e some is = cc
not_help true false ks e some is = absurd (some e)

met_no_help : (s : Shape) (met : Option Text) (word : Text) (h : Held) (name : Text) → s.disable_help_subcommand ≡ false → other_fault s met word h ≡ []
    → met ≡ Some name → bytes_eq name (codes "help") ≡ false
met_no_help s None word h name d none is = cc
met_no_help s (Some n) word h name d none is =
    let same : n ≡ name = cc in
    subst (λ x. bytes_eq x (codes "help") ≡ false) same (not_help (bytes_eq n (codes "help")) s.disable_help_subcommand _ none (λ e. cc) d)

turn_no_help : (s : Shape) (names : Names) (is_trailing : Bool) (waiting : Waiting) (position : ℕ) (word : Text) (h : Held) (name : Text)
    → s.disable_help_subcommand ≡ false → word_fault s names is_trailing waiting word h ≡ []
    → (word_met s.rules names is_trailing waiting position word h).1 ≡ subcommand name → bytes_eq name (codes "help") ≡ false
turn_no_help s names true waiting position word h name d none e = cc
turn_no_help s names false waiting position word h name d none e =
    met_no_help s (subcommand_met names waiting word) word h name d none (met_command s.rules (subcommand_met names waiting word) waiting position word h name e)

to_no_help : (c : List Rule) (a : Option Rule) (word : Text) (w : Walk) (h : Held) → w.stopped ≡ None → IsNoHelp (to_positional c a word w h).stopped
to_no_help c None word w h is = rw is tt
to_no_help c (Some a) word w h is = tt

step_no_help : (c : List Rule) (word : Text) (w : Walk) (h : Held) (step : Step) → w.stopped ≡ None
    → ((name : Text) → step ≡ subcommand name → bytes_eq name (codes "help") ≡ false) → IsNoHelp (after_step c word w h step).stopped
step_no_help c word w h (next waiting) is other = rw is tt
step_no_help c word w h (trailing position) is other = rw is tt
step_no_help c word w h (subcommand name) is other = other name refl
step_no_help c word w h value is other = to_no_help c (arg_by_index c w.position) word w h is

walked_no_help : (s : Shape) (names : Names) (w : Walk) (word : Text) (stopped : Option (Text × List Text)) → s.disable_help_subcommand ≡ false → w.stopped ≡ stopped → IsNoHelp stopped
    → (if is_some stopped then [] else or_else (word_fault s names w.is_trailing w.waiting word w.held)
    (step_fault s w.position (word_met s.rules names w.is_trailing w.waiting w.position word w.held).0 (word_met s.rules names w.is_trailing w.waiting w.position word w.held).1)) ≡ []
    → IsNoHelp (walked_from s.rules names stopped w word).stopped
walked_no_help s names w word (Some p) d is kept none = kept
walked_no_help s names w word None d is kept none =
    step_no_help s.rules word w _ _ is (λ name e. turn_no_help s names w.is_trailing w.waiting w.position word w.held name d (or_else-nil _ _ none).0 e)

walk_no_help : (s : Shape) (names : Names) (w : Walk) (words : List Text) → s.disable_help_subcommand ≡ false → IsNoHelp w.stopped → walk_fault s names w words ≡ []
    → IsNoHelp (fold (walked s.rules names) w words).stopped
unfolding walk_fault walked
walk_no_help s names w [] d kept none = kept
walk_no_help s names w (word ∷ rest) d kept none =
    let both = or_else-nil _ _ none in
    walk_no_help s names (walked s.rules names w word) rest d (walked_no_help s names w word w.stopped d refl kept both.0) both.1

-- THE COMMAND IS ONE OF THE PROGRAM'S

-- the shape is one of these
abbrev IsAmongShapes : Shape → List Shape → Type 0
IsAmongShapes s [] = ⊥
IsAmongShapes s (x ∷ xs) = (s ≡ x) ⊎ IsAmongShapes s xs

found_among : (p : Shape → Bool) (xs : List Shape) (s : Shape) → find p xs ≡ Some s → IsAmongShapes s xs × (p s ≡ true)
found_among p [] s h = cc
found_among p (x ∷ xs) s h = go (p x) refl (found_among p xs s) h
  where
    go : (b : Bool) → p x ≡ b → (find p xs ≡ Some s → IsAmongShapes s xs × (p s ≡ true)) → cond b (Some x) (find p xs) ≡ Some s
        → IsAmongShapes s (x ∷ xs) × (p s ≡ true)
    go true e more h = let is : x ≡ s = cc in (inl (sym is), subst (λ y. p y ≡ true) is e)
    go false e more h = let r = more h in (inr r.0, r.1)

named_among : (s : Shape) (xs : List Shape) → IsAmongShapes s xs → IsOneOf s.name (map (λ x. x.name) xs)
named_among s [] h = h
named_among s (x ∷ xs) (inl e) = inl (ap (λ y. y.name) e)
named_among s (x ∷ xs) (inr r) = inr (named_among s xs r)

before_last : (name end_name : Text) (names : List Text) → IsOneOf name (names ++ end_name ∷ []) → name ≢ end_name → IsOneOf name names
before_last name end_name [] (inl e) ne = ne e
before_last name end_name [] (inr r) ne = r
before_last name end_name (n ∷ ns) (inl e) ne = inl e
before_last name end_name (n ∷ ns) (inr r) ne = inr (before_last name end_name ns r ne)

or_false : (b : Bool) → (b || false) ≡ b
or_false true = refl
or_false false = refl

-- no shape has another name
abbrev HaveOneName : List Shape → Type 0
HaveOneName [] = Unit {0}
HaveOneName (x ∷ xs) = (x.aliases ≡ []) × HaveOneName xs

one_name : (s : Shape) (xs : List Shape) → IsAmongShapes s xs → HaveOneName xs → s.aliases ≡ []
one_name s [] h all = absurd h
one_name s (x ∷ xs) (inl e) all = ap (λ y. y.aliases) e ∙ all.0
one_name s (x ∷ xs) (inr r) all = one_name s xs r all.1

answers_by_name : (name word : Text) (aliases : List Text) → aliases ≡ [] → answers_to word (name, aliases) ≡ true → name ≡ word
answers_by_name name word [] none e = (bytes_eq-Decides name word).0 (sym (or_false (bytes_eq name word)) ∙ e)
answers_by_name name word (a ∷ aliases) none e = cc

differs : (word name : Text) → bytes_eq word name ≡ false → name ≢ word
differs word name h e = absurd (true≢false (sym ((bytes_eq-Decides word name).1 (sym e)) ∙ h))

shape_met : (xs : List Shape) (p : Text × List Text) (found : Option Shape) (name : Text) (rows : List Row) → find (λ s. answers_to p.0 (label_of s)) xs ≡ found
    → option_map (λ s. rows_at s p.1) found ≡ Some (name, rows) → HaveOneName xs → IsNoHelp (Some p)
    → IsOneOf name (map (λ x. x.name) xs) × (name ≢ codes "help")
shape_met xs p None name rows e h all kept = cc
shape_met xs p (Some s) name rows e h all kept =
    let is : s.name ≡ name = ap (λ (o : Option (Text × List Row)). (unwrap_or o (name, rows)).0) h in
    let among = found_among (λ x. answers_to p.0 (label_of x)) xs s e in
    let same = answers_by_name s.name p.0 s.aliases (one_name s xs among.0 all) among.1 in (
      subst (λ n. IsOneOf n (map (λ x. x.name) xs)) is (named_among s xs among.0),
      λ help. differs p.0 (codes "help") kept (sym help ∙ sym is ∙ same),
    )

command_entered : (a : App) (stop : Option (Text × List Text)) (name : Text) (rows : List Row) → entered a stop ≡ Some (name, rows) → HaveOneName a.subs → IsNoHelp stop
    → IsOneOf name (map (λ x. x.name) a.subs) × (name ≢ codes "help")
command_entered a None name rows h all kept = cc
command_entered a (Some p) name rows h all kept = shape_met a.subs p _ name rows refl h all kept

-- where clap takes the words, the command that it meets is one of the program's
pub is_command : (words : List Text) (name : Text) (rows : List Row) → fault_of rje_app words ≡ [] → subcommand_of rje_app words ≡ Some (name, rows)
    → IsOneOf name command_names
is_command words name rows none met =
    let kept = walk_no_help (built rje_app).top (names_of (built rje_app)) (walk_from nothing_held) words refl tt
    (level_walk (built rje_app).top (names_of (built rje_app)) nothing_held words (is_some (subcommand_of rje_app words)) _ none) in
    let r = command_entered (built rje_app) _ name rows met (refl, (refl, (refl, (refl, (refl, (refl, (refl, (refl, (refl, (refl, (refl, (refl, (refl, (refl, (refl, (refl, tt)))))))))))))))) kept in
    before_last name (codes "help") command_names r.0 r.1
