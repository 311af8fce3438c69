-- The jobs of the sending end's account are those that were kept when it was begun to count, then those that were settled and promised since.
use Rattle.std.proofs.Common.{◌≡◌, ℕ, ◌+◌, ◌-◌, List, [], ◌∷◌, ◌++◌, Some, None, drop, length, length-append, map, take, refl, ap, sym, ◌∙◌, append_assoc, arith}
use Rattle.std.proofs.Math.Seq.{take-append-add}
use Rattle.std.proofs.lemmas.List.{append-nil, length-take, map-append, take-map, take-append-drop}
use Rattle.rje_settle.specs.declared.receipt.Receipt.{Receipt}
use Rattle.rje_settle.specs.declared.verdict.Verdict.{Verdict}
use Rattle.rje_settle.specs.Digest.{JobFile}
use Rattle.rje_settle.specs.Sending.{CameBy, Sending}
use Rattle.rje_settle.proofs.Accounts.{said-within}
use Rattle.settle_world.specs.Connections.{IsInTurn, begun_by, begun_in, promised_by, promised_in, settled_by_receipt, settled_in, without_last}
use Rattle.settle_world.specs.Day.{ComesTo, Connects, Ends, Happening, Hears, History, Keeps, Promises, Restarts, Says, TakesBack, ends_after}
use Rattle.settle_world.proofs.Receipts.{number-of_came}
use Rattle.settle_world.proofs.Sound.{IsSound}

-- what the end that sends has, by these lists
pub record IsNamed (put_out : ℕ → JobFile) (e : Ends) (begun : List JobFile) (settled promised : List ℕ) : Type 0 where
  pub many : length promised ≡ length e.sending.promises
  pub given : (known : Receipt) → e.sending.known ≡ Some known → e.given ≡ begun ++ map put_out (settled ++ promised)
  pub number : (known : Receipt) → e.sending.known ≡ Some known → known.kept ≡ length begun + length settled
  pub none : e.sending.known ≡ None → settled ≡ []

-- nothing of it changes
same-named : (put_out : ℕ → JobFile) (before after : Ends) (begun : List JobFile) (settled promised : List ℕ) → after.sending ≡ before.sending
    → after.given ≡ before.given → IsNamed put_out before begun settled promised → IsNamed put_out after begun settled promised
same-named put_out before after begun settled promised sending given named = record {
  many = rw sending named.many;
  given = λ known e. given ∙ named.given known (sym (ap (λ (a : Sending). a.known) sending) ∙ e);
  number = λ known e. named.number known (sym (ap (λ (a : Sending). a.known) sending) ∙ e);
  none = λ e. named.none (sym (ap (λ (a : Sending). a.known) sending) ∙ e);
}

-- one more at the end
one_more : (put_out : ℕ → JobFile) (begun : List JobFile) (settled promised : List ℕ) (which : ℕ)
    → begun ++ map put_out (settled ++ (promised ++ which ∷ [])) ≡ (begun ++ map put_out (settled ++ promised)) ++ put_out which ∷ []
one_more put_out begun settled promised which =
    ap (λ (l : List ℕ). begun ++ map put_out l) (sym (append_assoc settled promised (which ∷ [])))
    ∙ ap (λ (l : List JobFile). begun ++ l) (map-append put_out (settled ++ promised) (which ∷ []))
    ∙ sym (append_assoc begun (map put_out (settled ++ promised)) (put_out which ∷ []))

one_alone : (xs : List ℕ) → length xs ≡ 1 → (x : ℕ) × (xs ≡ x ∷ [])
one_alone [] h = absurd (omega arith)
one_alone (x ∷ []) h = (x, refl)
one_alone (x ∷ y ∷ xs) h = absurd (omega arith)

-- so many of the promised ones at the end
so_many : (put_out : ℕ → JobFile) (begun : List JobFile) (settled promised : List ℕ) (n came : ℕ) → n ≡ length begun + length settled + came
    → take n (begun ++ map put_out (settled ++ promised)) ≡ begun ++ map put_out (settled ++ take came promised)
so_many put_out begun settled promised n came e =
    let inner : n ≡ length begun + (length settled + came) = omega arith in
    rw inner (take-append-add begun (map put_out (settled ++ promised)) (length settled + came)
    ∙ ap (λ (l : List JobFile). begun ++ l) (take-map put_out (length settled + came) (settled ++ promised)
    ∙ ap (λ (l : List ℕ). map put_out l) (take-append-add settled promised came)))

last-off : (xs ys : List JobFile) (x y : JobFile) → xs ++ x ∷ [] ≡ ys ++ y ∷ [] → xs ≡ ys
last-off [] [] x y e = refl
last-off [] (b ∷ []) x y e = cc
last-off [] (b ∷ b' ∷ ys) x y e = cc
last-off (a ∷ []) [] x y e = cc
last-off (a ∷ a' ∷ xs) [] x y e = cc
last-off (a ∷ xs) (b ∷ ys) x y e = let rest : xs ≡ ys = last-off xs ys x y cc in let first : a ≡ b = cc in cc

promises-named : (put_out : ℕ → JobFile) (before after : Ends) (begun : List JobFile) (settled promised : List ℕ) (which : ℕ) (file : JobFile)
    (known_same : after.sending.known ≡ before.sending.known) → length after.sending.promises ≡ length before.sending.promises + 1
    → after.given ≡ before.given ++ file ∷ [] → file ≡ put_out which → IsNamed put_out before begun settled promised
    → IsNamed put_out after begun settled (promised ++ which ∷ [])
promises-named put_out before after begun settled promised which file known_same more given is named = record {
  many = omega (arith, length-append promised (which ∷ []), named.many, more);
  given = λ known e. given ∙ ap (λ (f : JobFile). before.given ++ f ∷ []) is
      ∙ ap (λ (l : List JobFile). l ++ put_out which ∷ []) (named.given known (sym known_same ∙ e)) ∙ sym (one_more put_out begun settled promised which);
  number = λ known e. named.number known (sym known_same ∙ e);
  none = λ e. named.none (sym known_same ∙ e);
}

takes_last-named : (put_out : ℕ → JobFile) (before after : Ends) (begun : List JobFile) (settled promised : List ℕ) (file : JobFile)
    (known_same : before.sending.known ≡ after.sending.known) → length before.sending.promises ≡ length after.sending.promises + 1
    → before.given ≡ after.given ++ file ∷ [] → IsNamed put_out before begun settled promised → IsNamed put_out after begun settled (without_last promised)
takes_last-named put_out before after begun settled promised file known_same fewer given named =
    let n = length promised - 1 in
    let left = length-take n promised in
    let whole = take-append-drop n promised in
    let all : length promised ≡ length (take n promised) + length (drop n promised) =
    ap length (sym whole) ∙ length-append (take n promised) (drop n promised) in
    let long : length promised ≡ length after.sending.promises + 1 = named.many ∙ fewer in
    let alone = one_alone (drop n promised) (omega (arith, left, all, long)) in
    let split : promised ≡ take n promised ++ alone.0 ∷ [] = sym whole ∙ ap (λ (l : List ℕ). take n promised ++ l) alone.1 in
    record {
      many = omega (arith, left, long);
      given = λ known e.
          let was = named.given known (known_same ∙ e) in
          let at_end : after.given ++ file ∷ [] ≡ (begun ++ map put_out (settled ++ take n promised)) ++ put_out alone.0 ∷ [] =
          sym given ∙ was ∙ ap (λ (l : List ℕ). begun ++ map put_out (settled ++ l)) split ∙ one_more put_out begun settled (take n promised) alone.0 in
          last-off after.given (begun ++ map put_out (settled ++ take n promised)) file (put_out alone.0) at_end;
      number = λ known e. named.number known (known_same ∙ e);
      none = λ e. named.none (known_same ∙ e);
    }

-- the jobs of the account once so many came
pub came-named : (put_out : ℕ → JobFile) (before : Ends) (begun : List JobFile) (settled promised : List ℕ) (r : Receipt) (came : ℕ) → IsSound before
    → CameBy before.sending r came → IsNamed put_out before begun settled promised
    → (take r.kept before.given ≡ begun ++ map put_out (settled ++ take came promised))
    × (r.kept ≡ length begun + length (settled ++ take came promised))
came-named put_out before begun settled promised r came sound by named =
    let number = number-of_came before.sending before.given r came sound.account by in
    let known = named.number by.known by.is_known in
    let within = said-within by.known before.sending.promises came r by.is_said in
    let few = length-take came promised in
    let long = length-append settled (take came promised) in
    let given = named.given by.known by.is_known in (
      ap (λ (l : List JobFile). take r.kept l) given ∙ so_many put_out begun settled promised r.kept came (omega (arith, number, known)),
      omega (arith, number, known, within, few, long, named.many),
    )

number-same : (r known : Receipt) (a b : ℕ) → Some r ≡ Some known → r.kept ≡ a + b → known.kept ≡ a + b
number-same r known a b e h = let same : known ≡ r = cc in rw same h

some_not_none : (r : Receipt) → Some r ≡ None → ⊥
some_not_none r e = cc

-- one happening
pub names-step : (put_out : ℕ → JobFile) (past : History) (what : Happening) (after : Ends) → IsSound (ends_after past) → IsSound after
    → IsNamed put_out (ends_after past) (begun_in past) (settled_in past) (promised_in past) → ComesTo past what (ends_after past) after
    → IsInTurn put_out past what after
    → IsNamed put_out after (begun_by what after (begun_in past)) (settled_by_receipt what (promised_in past) (settled_in past))
    (promised_by what (promised_in past))
names-step put_out past (Keeps file) after sound then named t turn =
    same-named put_out (ends_after past) after (begun_in past) (settled_in past) (promised_in past) (ap (λ (e : Ends). e.sending) t)
    (ap (λ (e : Ends). e.given) t) named
names-step put_out past (Promises which file place) after sound then named t turn =
    promises-named put_out (ends_after past) after (begun_in past) (settled_in past) (promised_in past) which file
    (ap (λ (a : Sending). a.known) t.sending)
    (ap (λ (a : Sending). length a.promises) t.sending ∙ length-append (ends_after past).sending.promises _) t.given turn.1 named
names-step put_out past TakesBack after sound then named t turn =
    takes_last-named put_out (ends_after past) after (begun_in past) (settled_in past) (promised_in past) t.file (ap (λ (a : Sending). a.known) t.sending)
    (ap (λ (a : Sending). length a.promises) t.sending ∙ length-append after.sending.promises _) t.given named
names-step put_out past (Hears r Verdict.BeginsToCount) after sound then named t turn =
    let none = named.none t.found in
    let empty : length after.sending.promises ≡ 0 = ap (λ (a : Sending). length a.promises) t.sending in
    record {
      many = sym empty;
      given = λ known e. sym (append-nil after.given) ∙ ap (λ (l : List ℕ). after.given ++ map put_out (l ++ [])) (sym none);
      number = λ known e. omega (arith, then.account.all known e, empty, ap length none);
      none = λ e. none;
    }
names-step put_out past (Hears r (Verdict.Agrees came)) after sound then named t turn =
    let is = came-named put_out (ends_after past) (begun_in past) (settled_in past) (promised_in past) r came sound t.found named in
    let empty : length after.sending.promises ≡ 0 = ap (λ (a : Sending). length a.promises) t.sending in
    let is_known : after.sending.known ≡ Some r = ap (λ (a : Sending). a.known) t.sending in
    record {
      many = sym empty;
      given = λ known e. t.given ∙ is.0
          ∙ ap (λ (l : List ℕ). begun_in past ++ map put_out l) (sym (append-nil (settled_in past ++ take came (promised_in past))));
      number = λ known e. number-same r known (length (begun_in past)) (length (settled_in past ++ take came (promised_in past))) (sym is_known ∙ e) is.1;
      none = λ e. absurd (some_not_none r (sym is_known ∙ e));
    }
names-step put_out past (Hears r Verdict.DoesNotAgree) after sound then named t turn =
    same-named put_out (ends_after past) after (begun_in past) (settled_in past) (promised_in past) t.sending t.given named
names-step put_out past Restarts after sound then named t turn =
    same-named put_out (ends_after past) after (begun_in past) (settled_in past) (promised_in past) turn.0 turn.1 named
names-step put_out past Connects after sound then named t turn =
    same-named put_out (ends_after past) after (begun_in past) (settled_in past) (promised_in past) (ap (λ (e : Ends). e.sending) t)
    (ap (λ (e : Ends). e.given) t) named
names-step put_out past Says after sound then named t turn =
    same-named put_out (ends_after past) after (begun_in past) (settled_in past) (promised_in past) (ap (λ (e : Ends). e.sending) t)
    (ap (λ (e : Ends). e.given) t) named
