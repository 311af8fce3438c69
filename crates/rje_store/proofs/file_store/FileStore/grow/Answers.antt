-- A growth: what is asked at each way out, and that the file has both pieces on disk after `Ok`.
-- What is opened for it is ready (Turning), and the calls of both steps are joined by `added_twice`.
use Rattle.std.proofs.Common.{inr, List, ℕ, subst}
use Rattle.std.specs.Prelude.{string_bytes}
use Rattle.rje_files.specs.Growth.{grown}
use Rattle.rje_store.specs.Replacing.{Adds, Either, LeadsTo, MayReplace}
use Rattle.rje_store.specs.FileStore.{MaySettle, copy_of}
use Rattle.rje_store.specs.Growing.{HasGrowing, IsOpening, MayGrow, MayOpen}
use Rattle.rje_store.proofs.Replacing.{added_twice, added_weaker}
use Rattle.rje_store.proofs.Turning.{is_opening, opening_grows, under_is}
use Rattle.rje_store.proofs.file_store.FileStore.grow.Goals as goal

pub returns-in_err-growing-clause-asks : goal.returns-in_err-growing-clause-asks
returns-in_err-growing-clause-asks g c = λ told ready.
    let copy = copy_of c.args.self.now.growing in
    let leads = g.D.Disk.leads in
    let name = c.args.name.now in
    added_weaker (Either (MaySettle copy) (MayOpen leads name)) (Either (MaySettle copy) (MayGrow leads name)) (opening_grows copy leads name) _ _ (c.growing_of.ensures.asks told)

pub returns-in_err-growing-2-clause-asks : goal.returns-in_err-growing-2-clause-asks
returns-in_err-growing-2-clause-asks g c = λ told ready.
    let copy = copy_of c.args.self.now.growing in
    let leads = g.D.Disk.leads in
    let name = c.args.name.now in
    let h : HasGrowing leads g.D.Disk.opened g.D.Disk.folder_of c.in_ok-growing.growing (g.D.Disk.asked c.closed.result.now) = rw c.closed.ensures.disk (c.in_ok-growing.ensures.growing told ready) in
    let opens : Adds (Either (MaySettle copy) (MayOpen leads name)) (g.D.Disk.asked c.args.self.now.disk) (g.D.Disk.asked c.closed.result.now) = rw c.closed.ensures.disk (c.growing_of.ensures.asks told) in
    let path = string_bytes c.in_ok-growing.growing.path in
    let bytes = grown c.args.front.now c.args.tail.now h.2.0 in
    let led : LeadsTo leads name path = subst (λ (n : List ℕ). LeadsTo leads n path) c.in_ok-growing.ensures.name h.0 in
    added_twice (Either (MaySettle copy) (MayGrow leads name)) _ _ _
    (added_weaker (Either (MaySettle copy) (MayOpen leads name)) (Either (MaySettle copy) (MayGrow leads name)) (opening_grows copy leads name) _ _ opens)
    (added_weaker (MayReplace path bytes) (Either (MaySettle copy) (MayGrow leads name)) (λ call before may. inr (path, bytes, led, may)) _ _ (c.extended.ensures.asks told h.1 h.2.0 h.2.1))

pub returns-clause-asks : goal.returns-clause-asks
returns-clause-asks g c = λ told ready.
    let copy = copy_of c.args.self.now.growing in
    let leads = g.D.Disk.leads in
    let name = c.args.name.now in
    let h : HasGrowing leads g.D.Disk.opened g.D.Disk.folder_of c.in_ok-growing.growing (g.D.Disk.asked c.closed.result.now) = rw c.closed.ensures.disk (c.in_ok-growing.ensures.growing told ready) in
    let opens : Adds (Either (MaySettle copy) (MayOpen leads name)) (g.D.Disk.asked c.args.self.now.disk) (g.D.Disk.asked c.closed.result.now) = rw c.closed.ensures.disk (c.growing_of.ensures.asks told) in
    let path = string_bytes c.in_ok-growing.growing.path in
    let bytes = grown c.args.front.now c.args.tail.now h.2.0 in
    let led : LeadsTo leads name path = subst (λ (n : List ℕ). LeadsTo leads n path) c.in_ok-growing.ensures.name h.0 in
    added_twice (Either (MaySettle copy) (MayGrow leads name)) _ _ _
    (added_weaker (Either (MaySettle copy) (MayOpen leads name)) (Either (MaySettle copy) (MayGrow leads name)) (opening_grows copy leads name) _ _ opens)
    (added_weaker (MayReplace path bytes) (Either (MaySettle copy) (MayGrow leads name)) (λ call before may. inr (path, bytes, led, may)) _ _ (c.extended.ensures.asks told h.1 h.2.0 h.2.1))

pub returns-clause-on_disk : goal.returns-clause-on_disk
returns-clause-on_disk g c = λ told ready.
    let copy = copy_of c.args.self.now.growing in
    let leads = g.D.Disk.leads in
    let name = c.args.name.now in
    let h : HasGrowing leads g.D.Disk.opened g.D.Disk.folder_of c.in_ok-growing.growing (g.D.Disk.asked c.closed.result.now) = rw c.closed.ensures.disk (c.in_ok-growing.ensures.growing told ready) in
    let opens : Adds (Either (MaySettle copy) (MayOpen leads name)) (g.D.Disk.asked c.args.self.now.disk) (g.D.Disk.asked c.closed.result.now) = rw c.closed.ensures.disk (c.growing_of.ensures.asks told) in
    let path = string_bytes c.in_ok-growing.growing.path in
    let bytes = grown c.args.front.now c.args.tail.now h.2.0 in
    let led : LeadsTo leads name path = subst (λ (n : List ℕ). LeadsTo leads n path) c.in_ok-growing.ensures.name h.0 in (
      path,
      h.2.0,
      g.D.Disk.asked c.closed.result.now,
      led,
      added_weaker (Either (MaySettle copy) (MayOpen leads name)) IsOpening (is_opening copy leads name) _ _ opens,
      under_is g.D.Disk.opened h.2.0 c.in_ok-growing.growing _ h.2.1.0,
      c.extended.ensures.asks told h.1 h.2.0 h.2.1,
      c.in_ok-growing-2.ensures.on_disk told h.1 h.2.0 h.2.1,
    )
