-- Texts that are printed one after another.
use Rattle.std.proofs.Common.{ℕ, List, [], ◌++◌, Option, None, Some, append-nil, append_assoc, sym, ap, ◌∙◌}
use Rattle.std.specs.Io.KnownBytes.{Appends}

pub appends_nothing : (a : Option (List ℕ)) → Appends a a []
appends_nothing None = tt
appends_nothing (Some xs) = sym (append-nil xs)

pub appends_twice : (a b c : Option (List ℕ)) (x y : List ℕ) → Appends a b x → Appends b c y → Appends a c (x ++ y)
appends_twice None b c x y p q = tt
appends_twice (Some xs) None c x y p q = absurd p
appends_twice (Some xs) (Some ys) None x y p q = absurd q
appends_twice (Some xs) (Some ys) (Some zs) x y p q = q ∙ ap (λ w. w ++ y) p ∙ append_assoc xs x y
