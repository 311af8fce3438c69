-- What the usual words of `cards` ask for.
use Rattle.std.proofs.Common.{ℕ, List, [], ◌∷◌, ◌++◌, ◌≡◌, ◌==◌, ◌<◌, arith, Option, Some, None, Bool, true, false, refl, codes, ap, ◌∙◌, sym, subst, inl, inr}
use Rattle.std.specs.Prelude.{map}
use Rattle.std.specs.List.{AllByRecursion, flat_map}
use Rattle.std.proofs.lemmas.Bool.{true≢false}
use Rattle.std.proofs.lemmas.Bool.Decides.{nat_tests}
use Rattle.std.proofs.lemmas.Option.{none-some, same_Some}
use Rattle.clap.specs.Words.{Row, Text}
use Rattle.rje_files.specs.Entry.{is_name_character}
use Rattle.rje_requests.specs.declared.device.Device.{Device}
use Rattle.rje_requests.specs.declared.device.Device.TheVariants.{Default, Printer, Punch, Transparent}
use Rattle.rje_requests.specs.declared.order.Order.{Order}
use Rattle.rje_requests.specs.declared.order.Order.TheVariants.{Files, Sockets, Station, Status}
use Rattle.rje_requests.specs.declared.order.FileOrder.TheVariants.{Cards}
use Rattle.rje_cli.specs.declared.words_fault.WordsFault.{WordsFault}
use Rattle.rje_cli.specs.declared.words_fault.WordsFault.TheVariants.{TwoDevices, BadName}
use Rattle.rje_cli.specs.Asking.{IsCardsFaultOf, IsFaultOf, IsGivenName, IsOrderOf}
use Rattle.rje_cli.specs.Canonical.{AskOnlyFor, CardsWithOptionsAsked, in_each_order}
use Rattle.rje_cli.specs.Orders.{IsCards}
use Rattle.rje_cli.proofs.CardsLevel.{ArePlain, Part, Seen, Summary, append_parts, are_seen, cards_in, cards_parts, cards_taken, device_parts, flag, name_parts, named, part_words, summary}
use Rattle.rje_cli.proofs.PlainWords.{IsPlain, deck_plain, jobs_plain, unhyphened}
use Rattle.rje_cli.proofs.FileWords.{AreTaken, apart, no_socket, only_memory, only_order}
use Rattle.rje_text.proofs.Both.{both}

-- A NAME IS NO OPTION

letter : (c : ℕ) (hyphen : Bool) → (c == 45) ≡ hyphen → is_name_character c ≡ true → (c == 45) ≡ false
letter c true e h = let is : c ≡ 45 = grind (arith, nat_tests) in absurd (true≢false (sym h ∙ ap is_name_character is))
letter c false e h = e

name_plain : (given : Option Text) (name : Text) → IsGivenName given (Some name) → ArePlain (name_parts given)
name_plain None name is = tt
name_plain (Some []) name is = let some : 0 < 0 = is.0 in absurd (omega (arith, some))
name_plain (Some (c ∷ rest)) name is = (unhyphened c rest (letter c (c == 45) refl (both _ _ is.2).0), tt)

device_plain : (device : Device) → ArePlain (device_parts device)
device_plain Default = tt
device_plain Printer = tt
device_plain Punch = tt
device_plain Transparent = tt

append_plain : (adds : Bool) → ArePlain (append_parts adds)
append_plain false = tt
append_plain true = tt

joined : (a b : List Part) → ArePlain a → ArePlain b → ArePlain (a ++ b)
joined [] b h k = k
joined (flag f ∷ a) b h k = joined a b h k
joined (named text ∷ a) b h k = (h.0, joined a b h.1 k)

in_order : (a b c : List Part) → ArePlain a → ArePlain b → ArePlain c → ArePlain (a ++ (b ++ c))
in_order a b c h k l = joined a (b ++ c) h (joined b c k l)

each_plain : (a b c : List Part) → ArePlain a → ArePlain b → ArePlain c → AllByRecursion ArePlain (in_each_order a b c)
each_plain a b c h k l =
    (in_order a b c h k l, (in_order a c b h l k, (in_order b a c k h l, (in_order b c a k l h, (in_order c a b l h k, (in_order c b a l k h, tt))))))

-- WHAT THE WORDS ASK FOR

names_apart : (given : Option Text) (name : Text) → IsGivenName given (Some name) → IsGivenName given None → ⊥
names_apart None name is none = cc
names_apart (Some text) name is none = none is.0 is.1 is.2

same_name : (given : Option Text) (name other : Text) → IsGivenName given (Some name) → IsGivenName given (Some other) → name ≡ other
same_name None name other a b = same_Some name other (a ∙ sym b)
same_name (Some text) name other a b = a.3 ∙ sym b.3

module _ (deck jobs : Text) (device : Device) (given : Option Text) (name : Text) (adds : Bool) (named_is : IsGivenName given (Some name)) where
  abbrev value : Seen
  value = (deck, jobs, Some device, given, adds)

  order_read : (rows : List Row) → cards_in rows ≡ value → (order : Order) → IsOrderOf (codes "cards") rows order → IsCards deck jobs device name adds order
  order_read rows e (Files (Cards order)) h = (
    h.1.deck ∙ ap (λ (v : Seen). v.0) e,
    h.1.jobs ∙ ap (λ (v : Seen). v.1) e,
    same_Some order.device device (sym h.1.device ∙ ap (λ (v : Seen). v.2) e),
    same_name given order.name name (subst (λ o. IsGivenName o (Some order.name)) (ap (λ (v : Seen). v.3) e) h.1.name) named_is,
    h.1.append ∙ ap (λ (v : Seen). v.4) e,
  )
  order_read rows e (Files _) h = absurd (apart _ _ h.0 refl)
  order_read rows e (Station order) h = absurd (apart _ _ h.0 refl)
  order_read rows e (Status order) h = absurd (apart _ _ h.0 refl)
  order_read rows e (Sockets order) h = absurd (no_socket (codes "cards") rows order refl refl refl refl h)

  cards_told : (rows : List Row) → cards_in rows ≡ value → (fault : WordsFault) → IsCardsFaultOf rows fault → ⊥
  cards_told rows e TwoDevices h = none-some device (sym h ∙ ap (λ (v : Seen). v.2) e)
  cards_told rows e (BadName word) h = names_apart given name named_is (subst (λ o. IsGivenName o None) (ap (λ (v : Seen). v.3) e) h.1.0)
  cards_told rows e _ h = h

  none_told : (rows : List Row) → cards_in rows ≡ value → (fault : WordsFault) → IsFaultOf (codes "cards") rows fault → ⊥
  none_told rows e fault (inl h) = cards_told rows e fault h.1
  none_told rows e fault (inr (inl h)) = apart _ _ h.0 refl
  none_told rows e fault (inr (inr (inl h))) = apart _ _ h.0 refl
  none_told rows e fault (inr (inr (inr (inl h)))) = apart _ _ h.0 refl
  none_told rows e fault (inr (inr (inr (inr (inl h))))) = apart _ _ h.0 refl
  none_told rows e fault (inr (inr (inr (inr (inr (inl h)))))) = apart _ _ h.0 refl
  none_told rows e fault (inr (inr (inr (inr (inr (inr h)))))) = apart _ _ h.0 refl

  ask_all : IsPlain deck → IsPlain jobs → (all : List (List Part)) → AllByRecursion ArePlain all → map (summary deck jobs) all ≡ map (λ _. ([], [], value)) all
      → AllByRecursion (λ options. AskOnlyFor (codes "cards" ∷ deck ∷ jobs ∷ options) (IsCards deck jobs device name adds)) (map (flat_map part_words) all)
  ask_all h k [] p e = tt
  ask_all h k (parts ∷ all) p e = (
    record {
      order = only_order cards_in (codes "cards") (deck ∷ jobs ∷ flat_map part_words parts) (codes "cards") value taken (IsCards deck jobs device name adds) order_read;
      fault = only_memory cards_in (codes "cards") (deck ∷ jobs ∷ flat_map part_words parts) (codes "cards") value taken none_told;
    },
    ask_all h k all p.1 more,
  )
    where
      first : ◌≡◌ {A = Summary} (summary deck jobs parts) ([], [], value)
      first = cc

      more : map (summary deck jobs) all ≡ map (λ _. ([], [], value)) all
      more = cc

      taken : AreTaken cards_in (codes "cards" ∷ deck ∷ jobs ∷ flat_map part_words parts) (codes "cards") value
      taken = cards_taken deck jobs h k parts p.0 value first

pub cards_asked : CardsWithOptionsAsked
cards_asked deck jobs device given name adds h k named_is =
    let seen = are_seen deck jobs device given adds in
    subst (AllByRecursion (λ options. AskOnlyFor (codes "cards" ∷ deck ∷ jobs ∷ options) (IsCards deck jobs device name adds))) seen.0
    (ask_all deck jobs device given name adds named_is (deck_plain deck h) (jobs_plain jobs k) (cards_parts device given adds)
    (each_plain (device_parts device) (name_parts given) (append_parts adds) (device_plain device) (name_plain given name named_is) (append_plain adds)) seen.1)
