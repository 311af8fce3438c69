use Rattle.std.proofs.Common.{◌≡◌, ◌∙◌, ap}
use Rattle.rje_sockets.proofs.socket_commands.send_command.read_outgoing.Goals as goal

pub returns-clause-outgoing : goal.returns-clause-outgoing
returns-clause-outgoing g c =
    let held = c.in_ok-held.held in
    let left = c.in_ok-jobs.field-0 in
    let same : c.new-marker.result.file.items ≡ held.bytes.items = ap (λ v. v.items) c.new-marker.ensures.file in
    let at : c.new-marker.result.places.items ≡ left.places.items = ap (λ v. v.items) c.new-marker.ensures.places in
    record {
      read = rw same c.in_ok-held.ensures.file;
      left = rw same (rw c.bytes.ensures at c.in_ok-jobs.ensures.left);
      marks = rw (same, at) (rw c.bytes.ensures at c.in_ok-jobs.ensures.marks);
      named = ap (λ n. n.now) c.new-marker.ensures.name ∙ c.in_ok-held.ensures.name;
      none = c.new-marker.ensures.none;
    }
