-- What was made of the bytes that came. Callers know these relations by the calls' clauses and by the laws alone: a new `FromAdapter` has taken
-- nothing, each call says what it has taken and made then, and the laws say what was made.
use Rattle.std.specs.Prelude.{ℕ, ◌≡◌, List, ◌++◌}
use Rattle.bsc_adapter.specs.declared.from_adapter.FromAdapter.{FromAdapter}
use Rattle.bsc_adapter.specs.Inside.Making.{Front, Stands, reached, made}

-- of all these bytes, from the first on, those are made
unfoldable pub Makes : List ℕ → List ℕ → Type 0
Makes taken out = out ≡ made Front taken

-- it stands behind these bytes
unfoldable pub IsBehind : FromAdapter → List ℕ → Type 0
IsBehind adapter taken = Stands adapter.place adapter.check (reached Front taken)

-- since it was as new it has taken these bytes and made those
pub record HasMade (adapter : FromAdapter) (taken out : List ℕ) : Type 0 where
  pub is_behind : IsBehind adapter taken
  pub makes : Makes taken out

-- it has taken these bytes and made `out`, and then more, which stands behind what was there before
pub record Appends (adapter : FromAdapter) (taken out before after : List ℕ) : Type 0 where
  pub more : List ℕ
  pub has_made : HasMade adapter taken (out ++ more)
  pub whole : after ≡ before ++ more
