-- Entries made Sent, one after another.
use Rattle.std.proofs.Common.{◌≡◌, ℕ, zero, suc, ◌+◌, ◌<◌, true, false, List, [], ◌∷◌, ◌++◌, length, take, drop, set, get_or, refl, ap, sym, ◌∙◌, arith}
use Rattle.std.proofs.lemmas.List.{append_assoc, take_more, drop_more, take-set, drop-set-lt, get_or-set_same, length-set}
use Rattle.rje_files.specs.declared.entry.State.TheVariants.{Sent}
use Rattle.rje_files.specs.declared.entry.Entry.{Entry}
use Rattle.rje_files.specs.Unsent.{is_sent, with_sent}

pub none_left : (es : List Entry) → with_sent 0 es ≡ es
none_left [] = refl
none_left (e ∷ es) = refl

pub kept : (n : ℕ) (e : Entry) (es : List Entry) → is_sent e.state ≡ true → with_sent n (e ∷ es) ≡ e ∷ with_sent n es
kept zero e es s = ap (λ (xs : List Entry). e ∷ xs) (sym (none_left es))
kept (suc n) e es s = rw s refl

pub made : (n : ℕ) (e : Entry) (es : List Entry) → is_sent e.state ≡ false → with_sent (suc n) (e ∷ es) ≡ record e { state = Sent } ∷ with_sent n es
made n e es s = rw s refl

passed : (xs all : List Entry) (i n : ℕ) (d : Entry) → i < length xs → with_sent n (get_or xs i d ∷ drop (i + 1) xs) ≡ get_or xs i d ∷ with_sent n (drop (i + 1) xs)
    → take i xs ++ with_sent n (drop i xs) ≡ all → take (i + 1) xs ++ with_sent n (drop (i + 1) xs) ≡ all
passed xs all i n d l step e =
    let tail = with_sent n (drop (i + 1) xs) in
    ap (λ (ys : List Entry). ys ++ tail) (take_more xs i d l) ∙ append_assoc (take i xs) (get_or xs i d ∷ []) tail ∙ ap (λ (ys : List Entry). take i xs ++ ys) (sym step)
    ∙ ap (λ (ys : List Entry). take i xs ++ with_sent n ys) (sym (drop_more xs i d l)) ∙ e

-- an entry that is Sent already
pub pass_sent : (xs all : List Entry) (i n : ℕ) (d : Entry) → i < length xs → is_sent (get_or xs i d).state ≡ true
    → take i xs ++ with_sent n (drop i xs) ≡ all → take (i + 1) xs ++ with_sent n (drop (i + 1) xs) ≡ all
pass_sent xs all i n d l s e = passed xs all i n d l (kept n (get_or xs i d) (drop (i + 1) xs) s) e

-- an entry after the last that is made Sent
pub pass_rest : (xs all : List Entry) (i n : ℕ) (d : Entry) → i < length xs → n ≡ 0
    → take i xs ++ with_sent n (drop i xs) ≡ all → take (i + 1) xs ++ with_sent n (drop (i + 1) xs) ≡ all
pass_rest xs all i n d l z e =
    passed xs all i n d l (rw z (ap (λ (ys : List Entry). get_or xs i d ∷ ys) (sym (none_left (drop (i + 1) xs))))) e

-- an entry that is made Sent
pub mark : (xs ys all : List Entry) (i n m : ℕ) (d : Entry) → i < length xs → ys ≡ set xs i (record (get_or xs i d) { state = Sent }) → n ≡ suc m → is_sent (get_or xs i d).state ≡ false
    → take i xs ++ with_sent n (drop i xs) ≡ all → take (i + 1) ys ++ with_sent m (drop (i + 1) ys) ≡ all
mark xs ys all i n m d l written en s e =
    let x : Entry = get_or xs i d in
    let y : Entry = record x { state = Sent } in
    let more : i < length (set xs i y) = rw (length-set xs i y) l in
    let front : take (i + 1) ys ≡ take i xs ++ y ∷ [] =
    ap (take (i + 1)) written ∙ take_more (set xs i y) i d more ∙ ap (λ (zs : List Entry). zs ++ get_or (set xs i y) i d ∷ []) (take-set xs i y)
    ∙ ap (λ (z : Entry). take i xs ++ z ∷ []) (get_or-set_same xs i y d l) in
    let behind : drop (i + 1) ys ≡ drop (i + 1) xs = ap (drop (i + 1)) written ∙ drop-set-lt (i + 1) xs i y (omega arith) in
    let tail = with_sent m (drop (i + 1) xs) in
    let step : with_sent n (drop i xs) ≡ y ∷ tail =
    ap (λ (zs : List Entry). with_sent n zs) (drop_more xs i d l) ∙ ap (λ (k : ℕ). with_sent k (x ∷ drop (i + 1) xs)) en ∙ made m x (drop (i + 1) xs) s in
    ap (λ (zs : List Entry). take (i + 1) ys ++ with_sent m zs) behind ∙ ap (λ (zs : List Entry). zs ++ tail) front ∙ append_assoc (take i xs) (y ∷ []) tail
    ∙ ap (λ (zs : List Entry). take i xs ++ zs) (sym step) ∙ e
