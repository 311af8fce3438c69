use Rattle.std.specs.Prelude.{string_bytes}
use Rattle.rje_spool.proofs.Due.{paper_is}
use Rattle.rje_spool.proofs.due_paper.DuePaper.put_into.Goals as goal

pub returns-clause-paper : goal.returns-clause-paper
returns-clause-paper g c = λ told job is.
    paper_is (string_bytes c.args.folder.now.path) (string_bytes c.args.self.now.stamp) (string_bytes c.in_ok-kept.kept.path) c.args.self.now.number c.in_ok-kept.kept.next job c.args.self.now _ is
    (rw c.as_str.ensures.value at c.in_ok-kept.ensures.named) (rw c.as_slice.ensures.value at (c.in_ok-kept.ensures.on_disk told))
