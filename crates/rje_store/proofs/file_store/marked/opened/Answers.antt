use Rattle.std.proofs.Common.{◌≡◌, List, ℕ, subst, sym}
use Rattle.std.specs.Prelude.{string_bytes}
use Rattle.rje_store.specs.Replacing.{LeadsTo}
use Rattle.rje_store.proofs.Marking.{opened_marked, opened_may}
use Rattle.rje_store.proofs.file_store.marked.opened.Goals as goal

pub returns-in_err-file-clause-asks : goal.returns-in_err-file-clause-asks
returns-in_err-file-clause-asks g c =
    let led : LeadsTo g.D.Disk.leads c.args.name.now c.as_str.result.now = subst (LeadsTo g.D.Disk.leads c.args.name.now) (sym c.as_str.ensures.value) c.in_ok-path.ensures in
    λ told. opened_may c.open_to_write.result g.D.Disk.leads c.args.name.now c.as_str.result.now _ _ (c.open_to_write.ensures.asks told) led

pub returns-in_err-found-clause-asks : goal.returns-in_err-found-clause-asks
returns-in_err-found-clause-asks g c =
    let led : LeadsTo g.D.Disk.leads c.args.name.now c.as_str.result.now = subst (LeadsTo g.D.Disk.leads c.args.name.now) (sym c.as_str.ensures.value) c.in_ok-path.ensures in
    λ told. opened_may c.open_to_write.result g.D.Disk.leads c.args.name.now c.as_str.result.now _ _ (c.open_to_write.ensures.asks told) led

pub returns-then-ne-clause-asks : goal.returns-then-ne-clause-asks
returns-then-ne-clause-asks g c =
    let led : LeadsTo g.D.Disk.leads c.args.name.now c.as_str.result.now = subst (LeadsTo g.D.Disk.leads c.args.name.now) (sym c.as_str.ensures.value) c.in_ok-path.ensures in
    λ told. opened_may c.open_to_write.result g.D.Disk.leads c.args.name.now c.as_str.result.now _ _ (c.open_to_write.ensures.asks told) led

pub returns-in_err-from_str-clause-asks : goal.returns-in_err-from_str-clause-asks
returns-in_err-from_str-clause-asks g c =
    let led : LeadsTo g.D.Disk.leads c.args.name.now c.as_str.result.now = subst (LeadsTo g.D.Disk.leads c.args.name.now) (sym c.as_str.ensures.value) c.in_ok-path.ensures in
    λ told. opened_may c.open_to_write.result g.D.Disk.leads c.args.name.now c.as_str.result.now _ _ (c.open_to_write.ensures.asks told) led

pub returns-clause-asks : goal.returns-clause-asks
returns-clause-asks g c =
    let led : LeadsTo g.D.Disk.leads c.args.name.now c.as_str.result.now = subst (LeadsTo g.D.Disk.leads c.args.name.now) (sym c.as_str.ensures.value) c.in_ok-path.ensures in
    λ told. opened_may c.open_to_write.result g.D.Disk.leads c.args.name.now c.as_str.result.now _ _ (c.open_to_write.ensures.asks told) led

pub returns-clause-marked : goal.returns-clause-marked
returns-clause-marked g c =
    let led : LeadsTo g.D.Disk.leads c.args.name.now c.as_str.result.now = subst (LeadsTo g.D.Disk.leads c.args.name.now) (sym c.as_str.ensures.value) c.in_ok-path.ensures in
    λ told.
    let opened = c.in_ok-file.ensures.asks told in
    let is : string_bytes c.in_ok-from_str.field-0 ≡ c.args.name.now = c.in_ok-from_str.ensures.ok in
    opened_marked g.D.Disk.leads g.D.Disk.opened (record { name = c.in_ok-from_str.field-0; file = c.in_ok-file.file; len = c.in_ok-found.found.len }) c.as_str.result.now opened.0 _ _
    (subst (λ (n : List ℕ). LeadsTo g.D.Disk.leads n c.as_str.result.now) (sym is) led) opened.1 (c.in_ok-file.ensures.file told) (c.in_ok-found.ensures told)
