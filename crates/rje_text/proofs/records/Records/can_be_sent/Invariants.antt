-- the records that weren't looked at yet can be sent where all can be, and all where these can be
use Rattle.std.proofs.Common.{◌≡◌, ◌≤◌, List, length, drop, None}
use Rattle.std.specs.List.{AllByRecursion}
use Rattle.rje_text.specs.declared.record.Record.{Record}
use Rattle.rje_text.specs.PackFault.{pack_fault}
use Rattle.rje_text.proofs.records.Records.can_be_sent.Given as goal

abbrev pub invariant-loop-place : goal.invariant-loop-place
invariant-loop-place l =
    let AreSent = λ (rs : List Record). AllByRecursion (λ r. length r.bytes.items ≤ 144) rs × AllByRecursion (λ r. pack_fault l.select l.mode r ≡ None) rs in
    record { there : AreSent l.self → AreSent (drop l.place l.self); back : AreSent (drop l.place l.self) → AreSent l.self }
