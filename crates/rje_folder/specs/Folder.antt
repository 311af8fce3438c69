-- The folders of a station, and where their files are (own profile).
use Rattle.std.specs.Prelude.{ℕ, List, ◌++◌, Bool, true, false, codes}
use Rattle.rje_folder.specs.declared.folder.Folder.{Folder}

-- the name of a folder
abbrev pub folder_name : Folder → List ℕ
folder_name Folder.Out = codes "out"
folder_name Folder.Sent = codes "sent"
folder_name Folder.Doubt = codes "doubt"
folder_name Folder.Refused = codes "refused"
folder_name Folder.In = codes "in"
folder_name Folder.Print = codes "print"
folder_name Folder.Punch = codes "punch"
folder_name Folder.Cut = codes "cut"

-- the path of a file of a folder of the station
abbrev pub path_in : (station : List ℕ) → Folder → (name : List ℕ) → List ℕ
path_in station folder name = station ++ (codes "/" ++ (folder_name folder ++ (codes "/" ++ name)))

-- the path of a folder of the station
abbrev pub path_of : (station : List ℕ) → Folder → List ℕ
path_of station folder = station ++ (codes "/" ++ folder_name folder)

-- a station makes hidden names in a folder: of what came, and of why a file can't be sent, as long as it is written; and of what may arrive, as long
-- as it is tried
abbrev pub has_hidden_names : Folder → Bool
has_hidden_names Folder.Out = false
has_hidden_names Folder.Sent = false
has_hidden_names _ = true

-- the path of the file that says why another one is refused
abbrev pub why_path : (refused : List ℕ) → List ℕ
why_path refused = refused ++ codes ".why"
