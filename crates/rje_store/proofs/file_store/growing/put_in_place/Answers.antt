use Rattle.rje_store.specs.Replacing.{MayReplace, MayTry}
use Rattle.rje_store.proofs.Replacing.{added_twice, added_weaker, tried_may}
use Rattle.rje_store.proofs.Turning.{linked_may, linked_whole, second_beside, second_turned, turned_is}
use Rattle.rje_store.proofs.file_store.growing.put_in_place.Goals as goal

pub returns-in-Ok-clause-asks : goal.returns-in-Ok-clause-asks
returns-in-Ok-clause-asks g c = λ told folder beside bytes whole.
    let path = c.args.path.now in
    added_twice (MayReplace path bytes) _ _ _
    (linked_may path bytes _ _ (c.second_name-second.ensures.asks told))
    (c.rename_on_disk.ensures.asks told folder bytes beside (linked_whole path c.args.beside.now bytes _ _ (c.second_name-second.ensures.asks told) (c.second_name-second.ensures.keeps told) whole))

pub returns-in-Ok-clause-turned : goal.returns-in-Ok-clause-turned
returns-in-Ok-clause-turned g c = λ told folder two.
    turned_is c.args.path.now c.args.beside.now _ _ _ (c.second_name-second.ensures.asks told) (c.second_name-second.ensures.keeps told) two (c.in-Ok.ensures.named told folder)

pub returns-in-Ok-clause-second : goal.returns-in-Ok-clause-second
returns-in-Ok-clause-second g c = λ told folder two.
    second_turned c.second_name-second.result c.args.path.now c.args.beside.now _ _ _ (c.second_name-second.ensures.keeps told) two (c.in-Ok.ensures.named told folder) (c.second_name-second.ensures.second told)

pub returns-in-Err-clause-asks : goal.returns-in-Err-clause-asks
returns-in-Err-clause-asks g c = λ told folder beside bytes whole.
    let path = c.args.path.now in
    added_twice (MayReplace path bytes) _ _ _
    (added_twice (MayReplace path bytes) _ _ _
    (linked_may path bytes _ _ (c.second_name-second.ensures.asks told))
    (c.rename_on_disk.ensures.asks told folder bytes beside (linked_whole path c.args.beside.now bytes _ _ (c.second_name-second.ensures.asks told) (c.second_name-second.ensures.keeps told) whole)))
    (added_weaker (MayTry path) (MayReplace path bytes) (tried_may path bytes) _ _ (c.remove_second.ensures told path (second_beside c.second_name-second.result path (g.D.Disk.asked c.args.disk.now) (g.D.Disk.asked c.second_name-second.new.disk) (c.second_name-second.ensures.second told))))
