-- The highest of some counts.
use Rattle.std.proofs.Common.{◌≡◌, ◌≢◌, ◌⊎◌, inl, inr, ℕ, ◌<◌, ◌≤◌, List, [], ◌∷◌, ◌++◌, Option, Some, None, refl, sym, ◌∙◌, subst, arith}
use Rattle.std.specs.Prelude.{All, Contains, MatchOption, unwrap_or}
use Rattle.std.proofs.Math.Nat.{eq-or-lt_of_le}
use Rattle.std.proofs.lemmas.List.Elements.{All-cons, All-contains, All-nil, All-push, All-weaker, Contains-append_left, Contains-push}
use Rattle.rje_settle.specs.declared.receipt.Receipt.{Receipt}
use Rattle.rje_accounts.specs.Accounts.{IsHighest, IsKept, IsMost}
use Rattle.rje_settle.specs.Receipt.{no_receipt}

-- where the next one is no higher, and where it is
pub most_stays : (before : List Receipt) (one other : Receipt) → other.kept ≤ one.kept → IsMost before one → IsMost (before ++ other ∷ []) one
most_stays before one other low most = record {
  is_one = Contains-append_left before (other ∷ []) one most.is_one;
  none_above = All-push (λ (q : Receipt). q.kept ≤ one.kept) before other most.none_above low;
}

pub most_rises : (before : List Receipt) (one other : Receipt) → one.kept < other.kept → IsMost before one → IsMost (before ++ other ∷ []) other
most_rises before one other high most = record {
  is_one = Contains-push before other;
  none_above = All-push (λ (q : Receipt). q.kept ≤ other.kept) before other (All-weaker (λ (q : Receipt). q.kept ≤ one.kept) (λ (q : Receipt). q.kept ≤ other.kept) (λ q low. omega arith) before most.none_above) (omega arith);
}

-- the first one
pub most_first : (before : List Receipt) (other : Receipt) → before ≡ [] → IsMost (before ++ other ∷ []) other
most_first before other none = subst (λ (l : List Receipt). IsMost (l ++ other ∷ []) other) (sym none) (record {
  is_one = Contains-push [] other;
  none_above = All-cons (λ (q : Receipt). q.kept ≤ other.kept) other [] (omega arith) (All-nil (λ (q : Receipt). q.kept ≤ other.kept));
})

-- a count that is no higher, and of as many jobs only where it is the same
pub lower_or_same : (h q : Receipt) → q.kept ≤ h.kept → (q.kept ≡ h.kept → q ≡ h) → (q.kept < h.kept) ⊎ (q ≡ h)
lower_or_same h q low same = by_case (eq-or-lt_of_le low) where
  by_case : (q.kept ≡ h.kept) ⊎ (q.kept < h.kept) → (q.kept < h.kept) ⊎ (q ≡ h)
  by_case (inl e) = inr (same e)
  by_case (inr l) = inl l

-- what is kept by these counts
pub kept_is : (counts : List Receipt) (highest : Option Receipt) (none r : Receipt) → IsHighest counts highest → none ≡ no_receipt → r ≡ unwrap_or highest none → IsKept counts r
kept_is counts None none r is empty e = inr (is, e ∙ empty)
kept_is counts (Some h) none r is empty e = inl (subst (λ (x : Receipt). IsHighest counts (Some x)) (sym e) is)
