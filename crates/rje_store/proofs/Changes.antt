-- Changes of files, one after another.
use Rattle.std.proofs.Common.{◌≡◌, ℕ, List, Bool, true, false, Option, Some, None, set, if◌then◌else◌, refl, sym, ◌∙◌, subst}
use Rattle.std.proofs.lemmas.Slice.Eq.{bytes_eq-Decides}
use Rattle.std.specs.Prelude.{bytes_eq}
use Rattle.std.proofs.lemmas.Option.{same_Some}
use Rattle.rje_files.specs.Growth.{grown}
use Rattle.rje_store.specs.Store.{FileMap, Discloses, Extends, IsSame, Sets, SetsByte}

-- files that nothing touched
pub same_itself : (f : Option FileMap) → Discloses f f IsSame
same_itself None = tt
same_itself (Some f) = λ name. refl

-- files that stayed the same twice stayed the same
pub same_twice : (f g h : Option FileMap) → Discloses f g IsSame → Discloses g h IsSame → Discloses f h IsSame
same_twice None g h p q = tt
same_twice (Some f) None h p q = absurd p
same_twice (Some f) (Some g) None p q = absurd q
same_twice (Some f) (Some g) (Some h) p q = λ name. q name ∙ p name

-- a file that was made after a read that left the files as they were
pub set_after : (name bytes : List ℕ) (f g h : Option FileMap) → Discloses f g IsSame → Discloses g h (Sets name bytes) → Discloses f h (Sets name bytes)
set_after name bytes None g h p q = tt
set_after name bytes (Some f) None h p q = absurd p
set_after name bytes (Some f) (Some g) None p q = absurd q
set_after name bytes (Some f) (Some g) (Some h) p q = λ other.
    subst (λ (had : Option (List ℕ)). h other ≡ (if bytes_eq other name then Some bytes else had)) (p other) (q other)

-- files that stayed the same after one was made
pub same_after : (name bytes : List ℕ) (f g h : Option FileMap) → Discloses f g (Sets name bytes) → Discloses g h IsSame → Discloses f h (Sets name bytes)
same_after name bytes None g h p q = tt
same_after name bytes (Some f) None h p q = absurd p
same_after name bytes (Some f) (Some g) None p q = absurd q
same_after name bytes (Some f) (Some g) (Some h) p q = λ other. q other ∙ p other

-- a name that was set has the bytes
pub set_there : (f g : FileMap) (name bytes : List ℕ) → Sets name bytes f g → g name ≡ Some bytes
set_there f g name bytes sets = sets name ∙ rw ((bytes_eq-Decides name name).1 refl) refl

-- a name that is set twice has the last bytes
pub set_again : (name first bytes : List ℕ) (f g h : FileMap) → Sets name first f g → Sets name bytes g h → Sets name bytes f h
set_again name first bytes f g h one two other = two other ∙ go (bytes_eq other name) (one other) where
  go : (b : Bool) → g other ≡ (if b then Some first else f other) → (if b then Some bytes else g other) ≡ (if b then Some bytes else f other)
  go true e = refl
  go false e = e

-- a file that was made in the place of one that was made before
pub set_over : (name first bytes : List ℕ) (f g h : Option FileMap) → Discloses f g (Sets name first) → Discloses g h (Sets name bytes) → Discloses f h (Sets name bytes)
set_over name first bytes None g h p q = tt
set_over name first bytes (Some f) None h p q = absurd p
set_over name first bytes (Some f) (Some g) None p q = absurd q
set_over name first bytes (Some f) (Some g) (Some h) p q = set_again name first bytes f g h p q

-- a file that was set, and extended
pub set_longer : (name bytes front tail : List ℕ) (f g h : Option FileMap) → Discloses f g (Sets name bytes) → Discloses g h (Extends name front tail)
    → Discloses f h (Sets name (grown front tail bytes))
set_longer name bytes front tail None g h p q = tt
set_longer name bytes front tail (Some f) None h p q = absurd p
set_longer name bytes front tail (Some f) (Some g) None p q = absurd q
set_longer name bytes front tail (Some f) (Some g) (Some h) p (had, there, long, sets) =
    set_again name bytes (grown front tail bytes) f g h p
    (subst (λ (bs : List ℕ). Sets name (grown front tail bs) g h) (same_Some had bytes (sym there ∙ set_there f g name bytes p)) sets)

-- a file that was set, and then a byte of it
pub byte_set : (name bytes : List ℕ) (place byte : ℕ) (f g h : Option FileMap) → Discloses f g (Sets name bytes) → Discloses g h (SetsByte name place byte)
    → Discloses f h (Sets name (set bytes place byte))
byte_set name bytes place byte None g h p q = tt
byte_set name bytes place byte (Some f) None h p q = absurd p
byte_set name bytes place byte (Some f) (Some g) None p q = absurd q
byte_set name bytes place byte (Some f) (Some g) (Some h) p (had, there, less, sets) =
    set_again name bytes (set bytes place byte) f g h p
    (subst (λ (bs : List ℕ). Sets name (set bs place byte) g h) (same_Some had bytes (sym there ∙ set_there f g name bytes p)) sets)
