-- Bytes, split at the first of a kind.
use Rattle.std.proofs.Common.{◌≡◌, ◌≢◌, ℕ, ◌<◌, ◌≤◌, List, [], ◌∷◌, ◌++◌, refl, arith}
use Rattle.std.specs.List.{All}
use Rattle.std.proofs.lemmas.List.Elements.{All-head, All-tail, All-weaker}
use Rattle.rje_settle.specs.Inside.Splitting.{Lacks, IsSplit}

-- each of these bytes is above this one
abbrev pub AreAbove : ℕ → List ℕ → Type 0
AreAbove low bytes = All (λ b. low < b) bytes

-- so they lack it, and all that are below it
pub above_lack : (low byte : ℕ) (bytes : List ℕ) → byte ≤ low → AreAbove low bytes → Lacks byte bytes
above_lack low byte bytes h all = All-weaker (λ b. low < b) (λ b. b ≢ byte) (λ b m e. omega arith) bytes all

-- bytes that lack a byte don't split at it
pub no_split : (byte : ℕ) (bytes front behind : List ℕ) → Lacks byte bytes → bytes ≡ front ++ byte ∷ behind → ⊥
no_split byte [] [] behind none e = cc
no_split byte [] (f ∷ front) behind none e = cc
no_split byte (b ∷ bytes) [] behind none e = All-head (λ c. c ≢ byte) b bytes none cc
no_split byte (b ∷ bytes) (f ∷ front) behind none e = no_split byte bytes front behind (All-tail (λ c. c ≢ byte) b bytes none) cc

-- bytes split in one way
pub one_split : (byte : ℕ) (a b x y : List ℕ) → Lacks byte a → Lacks byte x → a ++ byte ∷ b ≡ x ++ byte ∷ y → (a ≡ x) × (b ≡ y)
one_split byte [] b [] y none_a none_x e = (refl, cc)
one_split byte [] b (c ∷ x) y none_a none_x e = absurd (All-head (λ d. d ≢ byte) c x none_x cc)
one_split byte (c ∷ a) b [] y none_a none_x e = absurd (All-head (λ d. d ≢ byte) c a none_a cc)
one_split byte (c ∷ a) b (d ∷ x) y none_a none_x e =
    let same : c ≡ d = cc in
    let rest = one_split byte a b x y (All-tail (λ k. k ≢ byte) c a none_a) (All-tail (λ k. k ≢ byte) d x none_x) cc in
    let fronts : a ≡ x = rest.0 in (cc, rest.1)

-- the split of bytes that are known to have these parts
pub split_is : (byte : ℕ) (bytes front behind a b : List ℕ) → IsSplit byte bytes front behind → Lacks byte a → bytes ≡ a ++ byte ∷ b
    → (front ≡ a) × (behind ≡ b)
split_is byte bytes front behind a b split none e =
    let parts : bytes ≡ front ++ byte ∷ behind = split.0 in
    one_split byte front behind a b split.1 none cc
