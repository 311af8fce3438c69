use Rattle.std.proofs.Common.{◌<◌, ◌∙◌, List, length, ℕ, ap, rules}
use Rattle.std.specs.Prelude.{string_bytes}
use Rattle.rje_folder.specs.declared.folder.Folder.{Folder}
use Rattle.rje_folder.specs.Folder.{path_in}
use Rattle.rje_folder.proofs.TakenOut.{long_takes_out, takes_out}
use Rattle.rje_folder.proofs.taking_out.take_out.Goals as goal

pub returns-clause-asks : goal.returns-clause-asks
returns-clause-asks g c = λ told.
    let is = c.in_ok-path.ensures ∙ ap (λ (l : List ℕ). path_in c.args.station.now Folder.Out l) c.as_str-2.ensures.value in
    takes_out g.D.FolderDisk.are_one c.args.station.now c.args.name.now (string_bytes c.in_ok-hidden.hidden) c.args.kept.now _ _ c.in_ok-hidden.ensures
    (rw (c.as_str-3.ensures.value ∙ c.in_ok-ready.ensures, c.as_str-4.ensures.value ∙ is) at (c.take_by.ensures.asks told))

pub returns-then-name-gt-LONGEST-clause-asks : goal.returns-then-name-gt-LONGEST-clause-asks
returns-then-name-gt-LONGEST-clause-asks g c = λ told.
    let long : 237 < length c.args.name.now = search rules in
    long_takes_out g.D.FolderDisk.are_one c.args.station.now c.args.name.now c.args.kept.now _ _ long
    (rw (c.as_str.ensures.value ∙ c.in_ok-ready.ensures) at (c.take_away.ensures.asks told))
