use Rattle.std.proofs.Common.{◌≡◌, List, ℕ, take, drop, subst, sym, rules}
use Rattle.bsc_frame.specs.Heard.{IsHeard}
use Rattle.rje_monitor.proofs.Hearings.{heard_of_front}
use Rattle.rje_monitor.proofs.turns.push_turn.Goals as goal

pub push_heard-requires : goal.push_heard-requires
push_heard-requires c =
    let front : c.split_at.result.0.now ≡ take c.of-heard.result.used c.args.bytes.now = search rules in
    subst (λ (b : List ℕ). IsHeard b c.of-heard.result.heard) (sym front)
    (heard_of_front c.of-heard.result.heard c.args.bytes.now (take c.of-heard.result.used c.args.bytes.now) (drop c.of-heard.result.used c.args.bytes.now) c.of-heard.ensures.heard)
