use Rattle.std.proofs.Common.{◌≡◌, ap}
use Rattle.std.specs.Option.{is_some}
use Rattle.rje_text.specs.declared.text_fault.TextFault.TheVariants.{OutOfMemory}
use Rattle.rje_print.proofs.listing.Listing.add.Goals as goal

pub unreachable-requires : goal.unreachable-requires
unreachable-requires g c =
    let (u, read, fits) = c.requires.can in
    let memory : c.in_default.field-0 ≡ OutOfMemory =
    c.one_fault.ensures c.args.block.now c.args.self.now.so_far c.in_default.field-0 OutOfMemory c.in_default.ensures.told (ap is_some read.0, read.1) in
    c.in_default.ensures.no_memory memory
