-- Where the accounts of a station are (own profile).
use Rattle.std.specs.Prelude.{ℕ, List, ◌++◌, codes, decimal}
use Rattle.rje_folder.specs.declared.folder.Folder.{Folder}
use Rattle.rje_folder.specs.Folder.{path_in}
use Rattle.rje_settle.specs.declared.settle_name.SettleName.{SettleName}
use Rattle.rje_settle.specs.Names.{name_text}

-- the path of the folder of the accounts
abbrev pub settle_folder : (station : List ℕ) → List ℕ
settle_folder station = station ++ codes "/settle"

-- the path of a name there
abbrev pub settle_path : (station : List ℕ) → SettleName → List ℕ
settle_path station name = station ++ (codes "/settle/" ++ name_text name)

-- the path by which a file is tried before it is promised
abbrev pub tried_path : (station : List ℕ) → List ℕ
tried_path station = station ++ codes "/settle/.promise"

-- the path that a job of this number gets in in/: STAMP-N.job
abbrev pub in_path : (station stamp : List ℕ) → (number : ℕ) → List ℕ
in_path station stamp number = path_in station Folder.In (stamp ++ (codes "-" ++ (decimal number ++ codes ".job")))
