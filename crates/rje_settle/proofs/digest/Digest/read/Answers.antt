use Rattle.std.proofs.Common.{◌≡◌, Ok, rules}
use Rattle.hex.specs.Hex.{decode_sized, encode_lower}
use Rattle.rje_settle.proofs.Digits.{decoded, read_is_digest, reads_its_text}
use Rattle.rje_settle.proofs.digest.Digest.read.Goals as goal

pub returns-in_err-ok : goal.returns-in_err-ok
returns-in_err-ok c = rw c.from_residual.ensures (λ digest is e.
    let read : decode_sized c.args.text.now 20 ≡ Ok digest.bytes = reads_its_text c.args.text.now digest.bytes is e in
    let value = rw read at c.decode_to_slice.ensures.value in
    let went = value.0 in
    search rules)

pub returns-then-eq : goal.returns-then-eq
returns-then-eq c =
    let went : c.decode_to_slice.result ≡ Ok c.in_ok-ok.field-0 = search rules in
    let read = decoded (decode_sized c.args.text.now 20) c.decode_to_slice.result c.decode_to_slice.new.out c.decode_to_slice.ensures.value c.in_ok-ok.field-0 went in
    let same : c.args.text.now ≡ encode_lower c.decode_to_slice.new.out = search rules in
    (same, read_is_digest c.args.text.now c.decode_to_slice.new.out read)

pub returns-else-eq : goal.returns-else-eq
returns-else-eq c = λ digest is e.
    let read : decode_sized c.args.text.now 20 ≡ Ok digest.bytes = reads_its_text c.args.text.now digest.bytes is e in
    let value = rw read at c.decode_to_slice.ensures.value in
    let same = value.1 in
    search rules
