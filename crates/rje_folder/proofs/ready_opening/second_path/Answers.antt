use Rattle.std.proofs.Common.{◌++◌, ◌∙◌, refl, ap, List, ℕ}
use Rattle.std.specs.Prelude.{codes}
use Rattle.rje_folder.specs.declared.folder.Folder.{Folder}
use Rattle.rje_folder.specs.Folder.{path_in, path_of}
use Rattle.rje_folder.proofs.Read.{link_temporary}
use Rattle.rje_folder.proofs.ready_opening.second_path.Goals as goal

pub returns-in_err-link_free-clause-asks : goal.returns-in_err-link_free-clause-asks
returns-in_err-link_free-clause-asks g c = λ told. link_temporary (path_in c.args.station.now Folder.Out c.args.name.now) (path_of c.args.station.now Folder.Refused) c.as_str-2.result.now (codes ".part") _ _
    (c.as_str-2.ensures.value ∙ c.in_ok-stem.ensures.ok ∙ ap (λ (l : List ℕ). l ++ codes "/.rje") c.in_ok-own.ensures) refl
    (rw (c.make_folder.ensures told, c.as_str-3.ensures.value ∙ c.in_ok-ready.ensures) at (c.link_free.ensures.asks told))

pub returns-clause-asks : goal.returns-clause-asks
returns-clause-asks g c = λ told. link_temporary (path_in c.args.station.now Folder.Out c.args.name.now) (path_of c.args.station.now Folder.Refused) c.as_str-2.result.now (codes ".part") _ _
    (c.as_str-2.ensures.value ∙ c.in_ok-stem.ensures.ok ∙ ap (λ (l : List ℕ). l ++ codes "/.rje") c.in_ok-own.ensures) refl
    (rw (c.make_folder.ensures told, c.as_str-3.ensures.value ∙ c.in_ok-ready.ensures) at (c.link_free.ensures.asks told))
