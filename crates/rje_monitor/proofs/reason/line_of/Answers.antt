use Rattle.std.proofs.Common.{◌≡◌, ◌≢◌, ℕ, true, List, [], ◌∷◌, drop, subst, sym, rules}
use Rattle.bsc_codes.specs.Bytes.{STX}
use Rattle.bsc_frame.specs.Inside.Listening.HeardSoFar.{Text}
use Rattle.rje_monitor.specs.Inside.Items.{IsAt}
use Rattle.rje_monitor.proofs.ItemsRead.{normal_line, transparent_line}
use Rattle.rje_monitor.proofs.reason.line_of.Goals as goal

pub returns-in-Some : goal.returns-in-Some
returns-in-Some c =
    let is : c.body_of-body.result.now ≡ STX ∷ c.in-Some.line.now = search rules in
    normal_line c.args.bytes.now c.body_of-body.result.now c.in-Some.line.now c.body_of-body.ensures is

pub returns : goal.returns
returns c =
    let not : (line : List ℕ) → c.body_of-body.result.now ≢ STX ∷ line = search rules in
    let back : c.split_at.result.1.now ≡ drop 2 c.body_of-body.result.now = search rules in
    subst (λ (l : List ℕ). IsAt c.args.bytes.now (Text true []) l) (sym back)
    (transparent_line c.args.bytes.now c.body_of-body.result.now c.body_of-body.ensures not).1
