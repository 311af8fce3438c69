-- What stays open of a file that has bytes set, one after another.
use Rattle.std.specs.Prelude.{◌≡◌, ℕ, List, length, Some, string_bytes}
use Rattle.rje_store.specs.declared.file_store.marked.MarkedFile.{MarkedFile}
use Rattle.rje_store.specs.Disk.{Asked, Opened, standing, bytes_of}
use Rattle.rje_store.specs.Replacing.{LeadsTo}

-- the open file stands under the path that its name leads to, with bytes that are known and are as many as it had when it was opened
pub record IsMarked {F : Type 0} (leads : List ℕ → List ℕ → Type 0) (opened : F → Opened) (marked : MarkedFile F) (asked : List Asked) : Type 0 where
  pub bytes : List ℕ
  pub led : LeadsTo leads (string_bytes marked.name) (opened marked.file).name
  pub stands : standing (opened marked.file).name asked ≡ Some (opened marked.file).number
  pub has : bytes_of (opened marked.file).number asked ≡ Some bytes
  pub len : marked.len ≡ length bytes
