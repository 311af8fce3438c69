-- What a store of files is: names with their bytes, where it discloses them.
use Rattle.std.specs.Prelude.{◌≡◌, ℕ, ◌<◌, ◌≤◌, List, length, set, Option, Some, None, ⊤, bytes_eq, if◌then◌else◌}
use Rattle.std.specs.Option.{IsSomeAnd}
use Rattle.std.specs.declared.io.ErrorKind.{ErrorKind}
use Rattle.rje_files.specs.Growth.{grown}
use Rattle.rje_store.specs.declared.reading.TheConstants.{MAX_INPUT}
use Rattle.rje_store.specs.declared.store.StoreFault.{StoreFault}

-- the files: the bytes of each name that has some
abbrev pub FileMap : Type 0
FileMap = List ℕ → Option (List ℕ)

-- a store that discloses its files goes on disclosing them, and this holds of the files before and after
abbrev pub Discloses : Option FileMap → Option FileMap → (FileMap → FileMap → Type 0) → Type 0
Discloses None new P = ⊤
Discloses (Some f) None P = ⊥
Discloses (Some f) (Some g) P = P f g

-- each name has what it had
abbrev pub IsSame : FileMap → FileMap → Type 0
IsSame f g = (name : List ℕ) → g name ≡ f name

-- this name has these bytes, and each other name what it had
abbrev pub Sets : List ℕ → List ℕ → FileMap → FileMap → Type 0
Sets name bytes f g = (other : List ℕ) → g other ≡ (if bytes_eq other name then Some bytes else f other)

-- the file of this name was there and is no shorter than this piece; now it has the piece in front, in place of as many bytes, and another
-- at the end, and each other name what it had
abbrev pub Extends : List ℕ → (front tail : List ℕ) → FileMap → FileMap → Type 0
Extends name front tail f g = (bytes : List ℕ) × (f name ≡ Some bytes) × (length front ≤ length bytes) × Sets name (grown front tail bytes) f g

-- the file of this name was there and is longer than this place; now it has this byte there and else what it had, and each other name what it
-- had
abbrev pub SetsByte : List ℕ → (place byte : ℕ) → FileMap → FileMap → Type 0
SetsByte name place byte f g = (bytes : List ℕ) × (f name ≡ Some bytes) × (place < length bytes) × Sets name (set bytes place byte) f g

-- where the store discloses its files, this name has these bytes
abbrev pub Has : Option FileMap → List ℕ → List ℕ → Type 0
Has None name bytes = ⊤
Has (Some f) name bytes = f name ≡ Some bytes

-- where the store discloses its files, there is none of this name
abbrev pub IsMissing : Option FileMap → List ℕ → Type 0
IsMissing None name = ⊤
IsMissing (Some f) name = f name ≡ None

-- there is such a file, and it is too long to be read
abbrev pub IsTooLong : Option (List ℕ) → Type 0
IsTooLong file = IsSomeAnd file (λ bytes. MAX_INPUT < length bytes)

-- there is such a file, and it has fewer than `count` bytes
abbrev pub HasFewer : ℕ → Option (List ℕ) → Type 0
HasFewer count file = IsSomeAnd file (λ bytes. length bytes < count)

-- what an error of the system comes to: no memory, no such file, or a store that fails for just that reason
abbrev pub of_error : ErrorKind → StoreFault
of_error ErrorKind.OutOfMemory = StoreFault.OutOfMemory
of_error ErrorKind.NotFound = StoreFault.Missing
of_error kind = StoreFault.Failed kind
