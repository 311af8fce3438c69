-- What clap finds of any command, and the faults of it.
use Rattle.std.proofs.Common.{ℕ, ◌^◌, List, [], ◌∷◌, Option, Some, None, Bool, true, false, ◌≡◌, ◌≢◌, inl, inr, refl, sym, ap, ◌∙◌, codes, subst, length}
use Rattle.std.specs.Prelude.{option_map, unwrap_or, map, Result, Ok, Err, IfOk, IfErr, IsErrAnd, ◌==◌}
use Rattle.std.specs.Option.{IsSomeAnd, option_map_or}
use Rattle.std.specs.Borrow.{Bor}
use Rattle.std.specs.Str.{bytes_eq}
use Rattle.std.specs.Str.Parse.{ParsesBool, ParsesUnsigned}
use Rattle.std.proofs.lemmas.Slice.Eq.{bytes_eq-Decides}
use Rattle.clap.specs.Words.{HasKind, Row, Text, App, HasMatchesOf, ReadsOne, fault_of, found_of, is_simple, is_simple_and_free, rows_of, subcommand_of, subcommand_rows_of, subcommand_name_of}
use Rattle.clap.proofs.OnLiterals.{clap_on_literals}
use Rattle.clap.specs.declared.error.Error.{Error}
use Rattle.clap.specs.declared.parser.ArgMatches.{ArgMatches}
use Rattle.clap.specs.declared.parser.ArgMatches.TheViews.{out-ArgMatches}
use Rattle.rje_requests.specs.declared.order.Order.{Order}
use Rattle.rje_cli.specs.declared.words_fault.WordsFault.{WordsFault}
use Rattle.rje_cli.specs.declared.words_fault.WordsFault.TheVariants.{Refused}
use Rattle.rje_cli.specs.Asking.{AsksFor, IsFound, IsGivenNumber, IsOrderOf, IsNumberOf, IsFaultOf, IsMeetingFault, IsPartnerFault, IsWordsFault}
use Rattle.rje_cli.specs.CommandLine.{rje_app}

-- WHAT IS READ OF A VALUE

pub word_read : (o : Option (Bor Text)) (d : Bor Text) (found : Option Text) → option_map (λ s. s.now) o ≡ found → d.now ≡ []
    → (unwrap_or o d).now ≡ unwrap_or found []
word_read None d found e is = rw (← e, is) refl
word_read (Some s) d found e is = rw (← e) refl

not_text : (b : Bool) (t s : Text) → bytes_eq t s ≡ b → t ≢ s → b ≡ false
not_text true t s e ne = absurd (ne ((bytes_eq-Decides t s).0 e))
not_text false t s e ne = refl

pub bool_read : (E : Type 0) (o : Option Text) (r : Option Bool) → (o ≡ None → r ≡ None)
    → ((t : Text) → o ≡ Some t → ReadsOne {E = E} ParsesBool t r) → unwrap_or r false ≡ option_map_or (λ t. bytes_eq t (codes "true")) o false
bool_read E None r none value = ap (λ x. unwrap_or x false) (none refl)
bool_read E (Some t) (Some true) none value = rw (value t refl) refl
bool_read E (Some t) (Some false) none value = rw (value t refl) refl
bool_read E (Some t) None none value = sym (not_text _ t (codes "true") refl (value t refl).1.0)

module _ (E : Type 0) (gives : Text → Result ℕ E → Type 0) (bits usual : ℕ) (parses : (text : Text) (r : Result ℕ E) → gives text r → ParsesUnsigned bits 10 text r) where
  pub given_read : (o : Option Text) (r : Option ℕ) → (o ≡ None → r ≡ None) → ((t : Text) → o ≡ Some t → ReadsOne gives t r)
      → IsGivenNumber (2 ^ bits) usual o (unwrap_or r usual)
  given_read None r none value = ap (λ x. unwrap_or x usual) (none refl)
  given_read (Some t) (Some n) none value = λ numeral small. (parses t (Ok n) (value t refl)).1
  given_read (Some t) None none value = let error = value t refl in λ numeral small. absurd (parses t (Err error.0) error.1 (numeral, small))

module _ (E : Type 0) (gives : Text → Result ℕ E → Type 0) (parses : (text : Text) (r : Result ℕ E) → gives text r → ParsesUnsigned 64 10 text r) where
  pub number_read : (o : Option Text) (r : Option ℕ) → (o ≡ None → r ≡ None) → ((t : Text) → o ≡ Some t → ReadsOne gives t r) → IsNumberOf o r
  number_read None r none value = none refl
  number_read (Some t) (Some n) none value = λ numeral small. ap (λ x. Some x) (parses t (Ok n) (value t refl)).1
  number_read (Some t) None none value = let error = value t refl in λ numeral small. absurd (parses t (Err error.0) error.1 (numeral, small))

-- WHICH COMMAND WAS MET

pub some_words : (words : List (Bor Text)) → (length words == 0) ≡ false → map (λ word. word.now) words ≢ []
some_words [] h = cc
some_words (w ∷ ws) h = λ e. cc

pub simple : is_simple rje_app ≡ true
unfolding clap_on_literals
simple = refl

pub simple_and_free : is_simple_and_free rje_app ≡ true
unfolding clap_on_literals
simple_and_free = refl

both : {A B : Type 0} (met : Option (A × B)) (a : A) (b : B) → Some a ≡ option_map (λ p. p.0) met → Some b ≡ option_map (λ p. p.1) met
    → met ≡ Some (a, b)
both None a b p q = cc
both (Some m) a b p q = let p' : a ≡ m.0 = cc in let q' : b ≡ m.1 = cc in rw (p', q') refl

both_names : {B : Type 0} (name : B → Text) (rows : B → List Row) (met : Option B)
    → option_map name met ≡ option_map (λ (f : Text × List Row). f.0) (option_map (λ b. (name b, rows b)) met)
both_names name rows None = refl
both_names name rows (Some b) = refl

-- the command that was met, by its name and its rows
command_met : (m : ArgMatches) (name : Text) (rows : List Row) → Some name ≡ subcommand_name_of m
    → Some rows ≡ option_map (λ f. f.1) (subcommand_rows_of m) → subcommand_rows_of m ≡ Some (name, rows)
command_met m name rows p q = both (subcommand_rows_of m) name rows (p ∙ both_names _ _ (out-ArgMatches m).subcommand) q

some_and : {X : Type 0} (o : Option X) (x : X) (P : X → Type 0) → o ≡ Some x → P x → IsSomeAnd o P
some_and None x P e h = cc
some_and (Some y) x P e h = let is : y ≡ x = cc in subst P (sym is) h

-- WHAT IS ASKED FOR, AND THE FAULTS

pub refused_kind : (app : App) (words : List Text) (error : Error) → app ≡ rje_app
    → (is_simple_and_free app ≡ true → HasKind (fault_of app words) error) → HasKind (fault_of rje_app words) error
refused_kind app words error is h =
    subst (λ (a : App). (is_simple_and_free a ≡ true → HasKind (fault_of a words) error)) is h simple_and_free

pub none_refuse : (app : App) (words : List Text) → app ≡ rje_app → (is_simple_and_free app ≡ true → fault_of app words ≡ []) → fault_of rje_app words ≡ []
none_refuse app words is h = subst (λ (a : App). (is_simple_and_free a ≡ true → fault_of a words ≡ [])) is h simple_and_free

met_by : (app : App) (words : List Text) (m : ArgMatches) → app ≡ rje_app → HasMatchesOf app words m → subcommand_of rje_app words ≡ subcommand_rows_of m
met_by app words m is h = let met = subst (λ (a : App). HasMatchesOf a words m) is h simple in sym met.1

pub command_found : (app : App) (words : List Text) (m : ArgMatches) (found : Option (Bor Text × Bor ArgMatches)) (met : Bor Text × Bor ArgMatches) → app ≡ rje_app
    → HasMatchesOf app words m → found ≡ Some met → option_map (λ p. p.0.now) found ≡ subcommand_name_of m
    → option_map (λ p. rows_of (found_of p.1.now)) found ≡ option_map (λ f. f.1) (subcommand_rows_of m)
    → subcommand_of rje_app words ≡ Some (met.0.now, rows_of (found_of met.1.now))
command_found app words m found met is h e names rows =
    met_by app words m is h ∙ command_met m met.0.now (rows_of (found_of met.1.now)) (ap (option_map (λ p. p.0.now)) (sym e) ∙ names)
    (ap (option_map (λ p. rows_of (found_of p.1.now))) (sym e) ∙ rows)

no_meeting_refuses : (to listen from : Option Text) (error : Error) → IsMeetingFault to listen from (Refused error) → ⊥
no_meeting_refuses None None from error h = h
no_meeting_refuses None (Some listen) None error h = h
no_meeting_refuses None (Some listen) (Some from) error h = h
no_meeting_refuses (Some to) None None error h = h
no_meeting_refuses (Some to) None (Some from) error h = h
no_meeting_refuses (Some to) (Some listen) from error h = h

no_partner_refuses : (to listen from : Option Text) (error : Error) → IsPartnerFault to listen from (Refused error) → ⊥
no_partner_refuses None None from error h = h
no_partner_refuses None (Some listen) None error h = h
no_partner_refuses None (Some listen) (Some from) error h = h
no_partner_refuses (Some to) None None error h = h
no_partner_refuses (Some to) None (Some from) error h = h
no_partner_refuses (Some to) (Some listen) from error h = h

-- what is found is never refused in the library's place
never_refused : (name : Text) (rows : List Row) (error : Error) → IsFaultOf name rows (Refused error) → ⊥
never_refused name rows error (inl h) = h.1
never_refused name rows error (inr (inl h)) = no_meeting_refuses _ _ _ error h.1
never_refused name rows error (inr (inr (inl (is, inl h)))) = no_meeting_refuses _ _ _ error h
never_refused name rows error (inr (inr (inl (is, inr h)))) = h.2
never_refused name rows error (inr (inr (inr (inl (is, inl h))))) = no_meeting_refuses _ _ _ error h
never_refused name rows error (inr (inr (inr (inl (is, inr h))))) = h.2
never_refused name rows error (inr (inr (inr (inr (inl (is, inl h)))))) = no_partner_refuses _ _ _ error h
never_refused name rows error (inr (inr (inr (inr (inl (is, inr (partner, there, inl h))))))) = h
never_refused name rows error (inr (inr (inr (inr (inl (is, inr (partner, there, inr h))))))) = h.3.2
never_refused name rows error (inr (inr (inr (inr (inr (inl h)))))) = h.1
never_refused name rows error (inr (inr (inr (inr (inr (inr h)))))) = h.1

none_refused : (met : Option (Text × List Row)) (error : Error) → IsSomeAnd met (λ m. IsFaultOf m.0 m.1 (Refused error)) → ⊥
none_refused None error h = h
none_refused (Some m) error h = never_refused m.0 m.1 error h

module _ (words : List Text) (some_word : words ≢ []) where
  pub refused_told : (error : Error) → HasKind (fault_of rje_app words) error → IsWordsFault words (Refused error)
  refused_told error h = go words some_word h
    where
      go : (ws : List Text) → ws ≢ [] → HasKind (fault_of rje_app ws) error → IsWordsFault ws (Refused error)
      go [] ne h = absurd (ne refl)
      go (w ∷ ws) ne h = h

  pub results_told : (r : Result Order WordsFault) (error : Error) → IsErrAnd r (λ fault. fault ≡ Refused error) → HasKind (fault_of rje_app words) error
      → IfErr r (IsWordsFault words)
  results_told (Ok order) error is h = tt
  results_told (Err fault) error is h = subst (IsWordsFault words) (sym is) (refused_told error h)

  pub order_asked : (order : Order) → IsFound words (λ name rows. IsOrderOf name rows order) → AsksFor words order
  order_asked order h = go words some_word h
    where
      go : (ws : List Text) → ws ≢ [] → IsFound ws (λ name rows. IsOrderOf name rows order) → AsksFor ws order
      go [] ne h = absurd (ne refl)
      go (w ∷ ws) ne h = h

  pub fault_told : (fault : WordsFault) → IsFound words (λ name rows. IsFaultOf name rows fault) → IsWordsFault words fault
  fault_told fault h = go words some_word fault h
    where
      go : (ws : List Text) → ws ≢ [] → (f : WordsFault) → IsFound ws (λ name rows. IsFaultOf name rows f) → IsWordsFault ws f
      go [] ne f h = absurd (ne refl)
      go (w ∷ ws) ne (Refused error) h = absurd (none_refused (subcommand_of rje_app (w ∷ ws)) error h.1)
      go (w ∷ ws) ne _ h = h

  module _ (taken : fault_of rje_app words ≡ []) (name : Text) (rows : List Row) (met : subcommand_of rje_app words ≡ Some (name, rows)) where
    pub orders_asked : (r : Result Order WordsFault) → IfOk r (IsOrderOf name rows) → IfOk r (AsksFor words)
    orders_asked (Ok order) h = order_asked order (taken, some_and (subcommand_of rje_app words) (name, rows) (λ m. IsOrderOf m.0 m.1 order) met h)
    orders_asked (Err fault) h = tt

    pub faults_told : (r : Result Order WordsFault) → IfErr r (IsFaultOf name rows) → IfErr r (IsWordsFault words)
    faults_told (Ok order) h = tt
    faults_told (Err fault) h = fault_told fault (taken, some_and (subcommand_of rje_app words) (name, rows) (λ m. IsFaultOf m.0 m.1 fault) met h)
