-- Bytes, split at the first of a kind.
use Rattle.std.specs.Prelude.{◌≡◌, ◌≢◌, ℕ, List, ◌∷◌, ◌++◌}
use Rattle.std.specs.List.{All}

-- these bytes have none of this kind
abbrev pub Lacks : ℕ → List ℕ → Type 0
Lacks byte bytes = All (λ b. b ≢ byte) bytes

-- what stands in front of the first byte of this kind, and what stands after it
abbrev pub IsSplit : ℕ → (bytes front behind : List ℕ) → Type 0
IsSplit byte bytes front behind = (bytes ≡ front ++ byte ∷ behind) × Lacks byte front
