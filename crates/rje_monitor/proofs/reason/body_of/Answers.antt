use Rattle.std.proofs.Common.{◌≡◌, drop, List, ℕ, subst, sym, rules}
use Rattle.std.specs.List.{prefix_len}
use Rattle.rje_monitor.specs.Inside.Items.{HasBody, is_lead}
use Rattle.rje_monitor.proofs.ItemsRead.{has_body}
use Rattle.rje_monitor.proofs.reason.body_of.Goals as goal

pub returns : goal.returns
returns c =
    let back : c.split_at.result.1.now ≡ drop (prefix_len is_lead c.args.bytes.now) c.args.bytes.now = search rules in
    subst (λ (b : List ℕ). HasBody c.args.bytes.now b) (sym back) (has_body c.args.bytes.now c.requires)
