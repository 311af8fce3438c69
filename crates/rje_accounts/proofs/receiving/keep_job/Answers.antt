use Rattle.std.proofs.Common.{◌≡◌, ◌∙◌, ap, sym}
use Rattle.std.specs.Prelude.{ℕ, List}
use Rattle.sha2.specs.Sha256.{sha256}
use Rattle.rje_settle.specs.declared.receipt.Receipt.{Receipt}
use Rattle.rje_settle.specs.Receipt.{counted_with}
use Rattle.rje_accounts.proofs.receiving.keep_job.Goals as goal

pub returns-in_err-keep_as-clause-asks : goal.returns-in_err-keep_as-clause-asks
returns-in_err-keep_as-clause-asks g c = λ told.
    let is : c.in-Some.now ≡ counted_with c.args.kept (sha256 c.args.bytes.now) = c.in-Some.ensures.one_more ∙ ap (counted_with c.args.kept) c.of-job.ensures in
    rw is at (c.keep_as.ensures.asks told)

pub returns-clause-asks : goal.returns-clause-asks
returns-clause-asks g c = λ told.
    let is : c.in-Some.now ≡ counted_with c.args.kept (sha256 c.args.bytes.now) = c.in-Some.ensures.one_more ∙ ap (counted_with c.args.kept) c.of-job.ensures in
    rw is at (c.keep_as.ensures.asks told)

pub returns-clause-on_disk : goal.returns-clause-on_disk
returns-clause-on_disk g c = λ told.
    let is : c.in-Some.now ≡ counted_with c.args.kept (sha256 c.args.bytes.now) = c.in-Some.ensures.one_more ∙ ap (counted_with c.args.kept) c.of-job.ensures in
    rw is at (c.in_ok-keep_as.ensures.on_disk told)

pub returns-clause-noted : goal.returns-clause-noted
returns-clause-noted g c = λ told.
    let is : c.in-Some.now ≡ counted_with c.args.kept (sha256 c.args.bytes.now) = c.in-Some.ensures.one_more ∙ ap (counted_with c.args.kept) c.of-job.ensures in
    rw is at (c.in_ok-keep_as.ensures.noted told)

pub returns-clause-counted : goal.returns-clause-counted
returns-clause-counted g c = c.in-Some.ensures.one_more ∙ ap (counted_with c.args.kept) c.of-job.ensures
