use Rattle.std.proofs.Common.{◌≡◌, ◌++◌, inr, refl, rules, subst, sym}
use Rattle.std.specs.Prelude.{codes}
use Rattle.rje_store.specs.Disk.{Remove}
use Rattle.rje_store.proofs.Replacing.{added_call}
use Rattle.rje_folder.specs.Keeping.{IsTemporary}
use Rattle.rje_folder.specs.Trying.{MayTry}
use Rattle.rje_folder.proofs.SecondNames.{between_temporary, link_tries}
use Rattle.rje_folder.proofs.trying.try_name.Goals as goal

pub returns-in_err-tried-clause-asks : goal.returns-in_err-tried-clause-asks
returns-in_err-tried-clause-asks g c = λ told.
    let stem : c.as_str.result.now ≡ c.args.folder.now ++ codes "/.rje" = search rules in
    link_tries c.args.folder.now c.args.name.now c.as_str.result.now _ _ stem (c.link_free.ensures.asks told)

pub returns-in-Ok-Some-clause-asks : goal.returns-in-Ok-Some-clause-asks
returns-in-Ok-Some-clause-asks g c = λ told.
    let stem : c.as_str.result.now ≡ c.args.folder.now ++ codes "/.rje" = search rules in
    link_tries c.args.folder.now c.args.name.now c.as_str.result.now _ _ stem (c.link_free.ensures.asks told)

pub returns-in_err-locked-clause-asks : goal.returns-in_err-locked-clause-asks
returns-in_err-locked-clause-asks g c = λ told.
    let stem : c.as_str.result.now ≡ c.args.folder.now ++ codes "/.rje" = search rules in
    added_call (MayTry c.args.folder.now c.args.name.now) _ _ _ c.remove.result (Remove c.as_str-3.result.now) (link_tries c.args.folder.now c.args.name.now c.as_str.result.now _ _ stem (c.link_free.ensures.asks told)) (c.remove.ensures told)
    (c.as_str-3.result.now, subst (IsTemporary c.args.folder.now) (sym c.as_str-3.ensures.value) (between_temporary c.args.folder.now c.as_str.result.now _ stem c.in_ok-tried.ensures.named), inr refl)

pub returns-clause-asks : goal.returns-clause-asks
returns-clause-asks g c = λ told.
    let stem : c.as_str.result.now ≡ c.args.folder.now ++ codes "/.rje" = search rules in
    added_call (MayTry c.args.folder.now c.args.name.now) _ _ _ c.remove.result (Remove c.as_str-3.result.now) (link_tries c.args.folder.now c.args.name.now c.as_str.result.now _ _ stem (c.link_free.ensures.asks told)) (c.remove.ensures told)
    (c.as_str-3.result.now, subst (IsTemporary c.args.folder.now) (sym c.as_str-3.ensures.value) (between_temporary c.args.folder.now c.as_str.result.now _ stem c.in_ok-tried.ensures.named), inr refl)
