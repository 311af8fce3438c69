-- What promises, receipts and what is taken back make of the account of what was sent.
use Rattle.std.proofs.Common.{◌≡◌, ◌≢◌, ℕ, zero, suc, ◌+◌, ◌-◌, ◌<◌, ◌≤◌, List, [], ◌∷◌, ◌++◌, length, length-append, map, take, Option, Some, None, refl, ap, sym, subst, ◌∙◌, arith, inl, inr, ◌⊎◌}
use Rattle.std.specs.Prelude.{Bool, true, false, if◌then◌else◌, slice_get, OnSome}
use Rattle.std.specs.Option.{option_to_list}
use Rattle.std.proofs.Math.Seq.{take-length}
use Rattle.std.proofs.lemmas.List.{append-nil, take-append-le}
use Rattle.std.proofs.lemmas.Option.{slice_get-map, slice_get_within}
use Rattle.sha2.specs.Sha256.{sha256}
use Rattle.rje_settle.specs.declared.promise.Promise.{Promise}
use Rattle.rje_settle.specs.declared.receipt.Receipt.{Receipt}
use Rattle.rje_settle.specs.Digest.{JobFile}
use Rattle.rje_settle.specs.Receipt.{IsReceiptOf, counted_with}
use Rattle.rje_settle.specs.Sending.{AreInOrder, Disagrees, IsAccountOf, IsKeptInOrder, Sending, all_said, all_said_of, may_be_said, promised_with}
use Rattle.rje_settle.specs.Laws.{TellsWhatCame}
use Rattle.rje_settle.proofs.Counting.{counts_one_more}

-- ---- the order of the promises

pub in_order-more : (known : Receipt) (ps : List Promise) (p : Promise) → p.receipt.kept ≡ (all_said known ps).kept + 1 → AreInOrder known ps
    → AreInOrder known (ps ++ p ∷ [])
in_order-more known [] p e h = (e, tt)
in_order-more known (q ∷ ps) p e h = (h.0, in_order-more q.receipt ps p e h.1)

pub in_order-front : (known : Receipt) (ps : List Promise) (p : Promise) → AreInOrder known (ps ++ p ∷ []) → AreInOrder known ps
in_order-front known [] p h = tt
in_order-front known (q ∷ ps) p h = (h.0, in_order-front q.receipt ps p h.1)

pub kept_in_order-front : (known : Option Receipt) (ps : List Promise) (p : Promise) → IsKeptInOrder known (ps ++ p ∷ []) → IsKeptInOrder known ps
kept_in_order-front None [] p h = refl
kept_in_order-front None (q ∷ ps) p h = cc
kept_in_order-front (Some known) ps p h = in_order-front known ps p h

-- ---- what may be said

-- the last one is what is said once all came
pub all_said-last : (known : Receipt) (ps : List Promise) (p : Promise) → all_said known (ps ++ p ∷ []) ≡ p.receipt
all_said-last known [] p = refl
all_said-last known (q ∷ ps) p = all_said-last q.receipt ps p

-- the receipt of the last promise is what is said once all came
pub all_said-at : (known : Receipt) (ps : List Promise) (p : Promise) (last : ℕ) → last + 1 ≡ length ps → slice_get ps last ≡ Some p
    → all_said known ps ≡ p.receipt
all_said-at known [] p last h e = cc
all_said-at known (q ∷ []) p zero h e = cc
all_said-at known (q ∷ []) p (suc last) h e = absurd (omega arith)
all_said-at known (q ∷ q' ∷ ps) p zero h e = absurd (omega arith)
all_said-at known (q ∷ q' ∷ ps) p (suc last) h e = all_said-at q.receipt (q' ∷ ps) p last (omega arith) e

pub all_said_of-last : (known : Option Receipt) (ps : List Promise) (p : Promise) → IsKeptInOrder known ps → slice_get ps (length ps - 1) ≡ Some p
    → Some p.receipt ≡ all_said_of (record { known = known; promises = ps })
all_said_of-last (Some known) ps p h e =
    let within = slice_get_within ps (length ps - 1) p e in
    ap Some (sym (all_said-at known ps p (length ps - 1) (omega arith) e))
all_said_of-last None ps p h e = let none : slice_get {X = Promise} [] 0 ≡ Some p = rw h at e in cc

pub all_said_of-none : (known : Option Receipt) (ps : List Promise) → length ps ≤ 0 → known ≡ all_said_of (record { known = known; promises = ps })
all_said_of-none (Some known) [] h = refl
all_said_of-none None [] h = refl
all_said_of-none known (p ∷ ps) h = absurd (omega arith)

pub said-all : (known : Receipt) (ps : List Promise) → slice_get (may_be_said known ps) (length ps) ≡ Some (all_said known ps)
said-all known [] = refl
said-all known (p ∷ ps) = said-all p.receipt ps

-- once some came, the receipt of the last of these is said
pub said-at : (known : Receipt) (ps : List Promise) (last came : ℕ) (p : Promise) → last + 1 ≡ came → slice_get ps last ≡ Some p
    → slice_get (may_be_said known ps) came ≡ Some p.receipt
said-at known ps last came p e h =
    let next : came ≡ suc last = omega arith in
    let at : slice_get (map (λ (q : Promise). q.receipt) ps) last ≡ Some p.receipt = slice_get-map (λ (q : Promise). q.receipt) ps last ∙ rw h refl in
    rw next at

-- with one more promise the same may be said, and that it came too
pub said-more : (known : Receipt) (ps : List Promise) (p : Promise) (came : ℕ) (r : Receipt)
    → slice_get (may_be_said known (ps ++ p ∷ [])) came ≡ Some r
    → ((slice_get (may_be_said known ps) came ≡ Some r) × (came ≤ length ps)) ⊎ ((r ≡ p.receipt) × (came ≡ length ps + 1))
said-more known [] p zero r e = inl (e, omega arith)
said-more known [] p (suc zero) r e = inr (cc, omega arith)
said-more known [] p (suc (suc came)) r e = cc
said-more known (q ∷ ps) p zero r e = inl (e, omega arith)
said-more known (q ∷ ps) p (suc came) r e =
    elim (said-more q.receipt ps p came r e) [
      | inl before ↦ inl (before.0, omega (arith, before.1))
      | inr last ↦ inr (last.0, omega (arith, last.1))
    ]

pub said-still : (known : Receipt) (ps : List Promise) (p : Promise) (came : ℕ) (r : Receipt) → slice_get (may_be_said known ps) came ≡ Some r
    → slice_get (may_be_said known (ps ++ p ∷ [])) came ≡ Some r
said-still known [] p zero r e = e
said-still known [] p (suc came) r e = cc
said-still known (q ∷ ps) p zero r e = e
said-still known (q ∷ ps) p (suc came) r e = said-still q.receipt ps p came r e

-- no more came than were promised
pub said-within : (known : Receipt) (ps : List Promise) (came : ℕ) (r : Receipt) → slice_get (may_be_said known ps) came ≡ Some r → came ≤ length ps
said-within known [] zero r e = omega arith
said-within known [] (suc came) r e = cc
said-within known (p ∷ ps) zero r e = omega arith
said-within known (p ∷ ps) (suc came) r e = let h = said-within p.receipt ps came r e in omega arith

-- the number that is said tells how many came
pub said-number : (known : Receipt) (ps : List Promise) (came : ℕ) (r : Receipt) → AreInOrder known ps → slice_get (may_be_said known ps) came ≡ Some r
    → r.kept ≡ known.kept + came
said-number known [] zero r h e = let same : known ≡ r = cc in rw same (omega arith)
said-number known [] (suc came) r h e = cc
said-number known (p ∷ ps) zero r h e = let same : known ≡ r = cc in rw same (omega arith)
said-number known (p ∷ ps) (suc came) r h e = let number = said-number p.receipt ps came r h.1 e in omega (arith, number, h.0)

-- a receipt that fits neither the number nor what is said at it is nowhere said
pub not_said : (a : Sending) (known r : Receipt) (came : ℕ) → a.known ≡ Some known → IsKeptInOrder a.known a.promises → r.kept ≡ known.kept + came
    → slice_get (may_be_said known a.promises) came ≢ Some r → Disagrees a r
not_said a known r came e h number other = record {
  known = known;
  is_known = e;
  not_said = λ n said.
      let order : AreInOrder known a.promises = rw e at h in
      let told = said-number known a.promises n r order said in
      let same : n ≡ came = omega arith in
      other (rw (sym same) said);
}

-- nor is one with a number below what is known
pub said_less : (a : Sending) (known r : Receipt) → a.known ≡ Some known → IsKeptInOrder a.known a.promises → r.kept < known.kept → Disagrees a r
said_less a known r e h less = record {
  known = known;
  is_known = e;
  not_said = λ n said.
      let order : AreInOrder known a.promises = rw e at h in
      let told = said-number known a.promises n r order said in
      absurd (omega arith);
}

-- after a push the order stands, whether there was memory or not
pub pushed-in_order : (known : Option Receipt) (ps new : List Promise) (p : Promise) (b : Bool) (all : Receipt)
    → all_said_of (record { known = known; promises = ps }) ≡ Some all → p.receipt.kept ≡ all.kept + 1 → IsKeptInOrder known ps
    → new ≡ (if b then ps ++ p ∷ [] else ps) → IsKeptInOrder known new
pushed-in_order None ps new p b all e next h is = cc
pushed-in_order (Some known) ps new p true all e next h is =
    let same : all_said known ps ≡ all = cc in
    rw is (in_order-more known ps p (rw same next) h)
pushed-in_order (Some known) ps new p false all e next h is = rw is h

-- and after a pop
pub popped-in_order : (known : Option Receipt) (ps new : List Promise) (o : Option Promise) → ps ≡ new ++ option_to_list o → IsKeptInOrder known ps
    → IsKeptInOrder known new
popped-in_order known ps new (Some p) e h = kept_in_order-front known new p (rw e at h)
popped-in_order known ps new None e h =
    let same : new ++ [] ≡ new = append-nil new in
    rw (e, same) at h

-- ---- the jobs of an account

-- all jobs of an account are those that are said once all came
pub all-counted : (a : Sending) (files : List JobFile) (known : Receipt) → a.known ≡ Some known → IsAccountOf a files
    → IsReceiptOf (all_said known a.promises) files
all-counted a files known e is =
    let last = is.each known (all_said known a.promises) (length a.promises) e (said-all known a.promises) in
    let whole : take (known.kept + length a.promises) files ≡ files = rw (sym (is.all known e)) (take-length files) in
    subst (λ (fs : List JobFile). IsReceiptOf (all_said known a.promises) fs) whole last

-- with one more promise they are one more
pub account-more : (a : Sending) (files : List JobFile) (file : JobFile) (p : Promise) (own : List ℕ) (known : Receipt) → a.known ≡ Some known
    → IsAccountOf a files → own ≡ sha256 file → p.receipt ≡ counted_with (all_said known a.promises) own
    → IsAccountOf (promised_with a p) (files ++ file ∷ [])
account-more a files file p own known e is own_is next = record {
  each = λ k r came is_k said.
      let same : k ≡ known = cc in
      let long = is.all known e in
      elim (said-more k a.promises p came r said) [
        | inl before ↦
            let first = is.each k r came is_k before.0 in
            let few = before.1 in
            let within : k.kept + came ≤ length files = rw same (omega (arith, few, long)) in
            rw (take-append-le (k.kept + came) files (file ∷ []) within) first
        | inr last ↦
            let counted = counts_one_more (all_said known a.promises) files file own (all-counted a files known e is) own_is in
            let is_last : r ≡ counted_with (all_said known a.promises) own = last.0 ∙ next in
            let place = last.1 in
            let long_more = length-append files (file ∷ []) in
            let all_of : k.kept + came ≡ length (files ++ file ∷ []) = rw same (omega (arith, place, long, long_more)) in
            rw (all_of, take-length (files ++ file ∷ []), is_last) counted
      ];
  all = λ k is_k.
      let same : k ≡ known = cc in
      let long = is.all known e in
      rw same (omega (arith, long, length-append files (file ∷ []), length-append a.promises (p ∷ [])));
}

all_said_by : (known : Option Receipt) (ps : List Promise) (all : Receipt) → all_said_of (record { known = known; promises = ps }) ≡ Some all
    → (first : Receipt) × (known ≡ Some first) × (all ≡ all_said first ps)
all_said_by None ps all e = cc
all_said_by (Some known) ps all e = (known, refl, cc)

pub account-promised : (a : Sending) (files : List JobFile) (file : JobFile) (p : Promise) (own : List ℕ) (all : Receipt) → all_said_of a ≡ Some all
    → IsAccountOf a files → own ≡ sha256 file → p.receipt ≡ counted_with all own → IsAccountOf (promised_with a p) (files ++ file ∷ [])
account-promised a files file p own all e is own_is next =
    let known = all_said_by a.known a.promises all e in
    account-more a files file p own known.0 known.1 is own_is (rw known.2 at next)

-- with one fewer they are one fewer
pub account-fewer : (a : Sending) (files : List JobFile) (file : JobFile) (p : Promise)
    → IsAccountOf (promised_with a p) (files ++ file ∷ []) → IsAccountOf a files
account-fewer a files file p is =
    let long : (k : Receipt) → a.known ≡ Some k → length files ≡ k.kept + length a.promises =
    λ k is_k. omega (arith, is.all k is_k, length-append files (file ∷ []), length-append a.promises (p ∷ [])) in
    record {
      each = λ k r came is_k said.
          let first = is.each k r came is_k (said-still k a.promises p came r said) in
          let within : k.kept + came ≤ length files = omega (arith, long k is_k, said-within k a.promises came r said) in
          let same : take (k.kept + came) (files ++ file ∷ []) ≡ take (k.kept + came) files = take-append-le (k.kept + came) files (file ∷ []) within in
          subst (λ (fs : List JobFile). IsReceiptOf r fs) same first;
      all = long;
    }

pub account-popped : (known : Option Receipt) (ps new : List Promise) (o : Option Promise) (files : List JobFile) (file : JobFile)
    → ps ≡ new ++ option_to_list o → IsAccountOf (record { known = known; promises = ps }) (files ++ file ∷ [])
    → OnSome o (IsAccountOf (record { known = known; promises = new }) files)
account-popped known ps new None files file e is = tt
account-popped known ps new (Some p) files file e is =
    let whole : IsAccountOf (promised_with (record { known = known; promises = new }) p) (files ++ file ∷ []) = rw e at is in
    account-fewer (record { known = known; promises = new }) files file p whole

known-only : (r k q : Receipt) (came : ℕ) (files : List JobFile) → IsReceiptOf r files → Some r ≡ Some k → slice_get (may_be_said k []) came ≡ Some q
    → IsReceiptOf q (take (k.kept + came) files)
known-only r k q zero files is e said =
    let same : q ≡ r = cc in
    let first : k ≡ r = cc in
    let all_of : k.kept + 0 ≡ length files = rw first (omega (arith, is.many)) in
    rw (all_of, take-length files, same) is
known-only r k q (suc came) files is e said = cc

-- what a receipt says is known of just its jobs
pub account-known : (r : Receipt) (files : List JobFile) → IsReceiptOf r files → IsAccountOf (record { known = Some r; promises = [] }) files
account-known r files is = record {
  each = λ k q came is_k said. known-only r k q came files is is_k said;
  all = λ k is_k. let same : r ≡ k = cc in rw (sym same) (omega (arith, is.many));
}

-- ---- what a receipt tells

pub tells_what_came : TellsWhatCame
tells_what_came a files kept r known came is is_kept e by apart =
    let same : by.known ≡ known = cc by.is_known in
    let said : slice_get (may_be_said known a.promises) came ≡ Some r =
    subst (λ (k : Receipt). slice_get (may_be_said k a.promises) came ≡ Some r) same by.is_said in
    let first = is.each known r came e said in
    apart (sym is_kept.same ∙ first.same)
