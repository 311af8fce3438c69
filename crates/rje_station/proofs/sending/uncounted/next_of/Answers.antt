use Rattle.std.proofs.Common.{sym, arith}
use Rattle.std.proofs.lemmas.List.{length-drop}
use Rattle.rje_station.proofs.Uncounted.{next_etb, next_etx, next_done}
use Rattle.rje_station.proofs.sending.uncounted.next_of.Goals as goal

pub returns-in-Etb : goal.returns-in-Etb
returns-in-Etb c =
    let at = rw c.in-Block.is at c.requires.at in
    rw c.in-Block.is (sym (next_etb _ _ _ at.0 c.in-Etb.is))

pub returns-in-Etx : goal.returns-in-Etx
returns-in-Etx c =
    let at = rw c.in-Block.is at c.requires.at in
    rw c.in-Block.is (sym (next_etx _ _ _ at.0 c.in-Etx.is (omega (arith, c.if-at-jobs.true, length-drop c.args.at c.args.jobs.now))))

pub returns-in-Etx-2 : goal.returns-in-Etx-2
returns-in-Etx-2 c =
    let at = rw c.in-Block.is at c.requires.at in
    rw c.in-Block.is (sym (next_done _ _ _ at.0 c.in-Etx-2.is (omega (arith, c.if-at-jobs.false, length-drop c.args.at c.args.jobs.now))))
