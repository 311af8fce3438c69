use Rattle.std.proofs.Common.{◌⊎◌, ◌≡◌, ◌<◌, ◌≤◌, ℕ, length, refl, sym, arith}
use Rattle.std.proofs.lemmas.List.{take_all}
use Rattle.std.proofs.lemmas.List.Elements.{All-get_or, All-more, All-same}
use Rattle.rje_settle.specs.declared.receipt.Receipt.{Receipt}
use Rattle.rje_accounts.proofs.Highest.{lower_or_same}
use Rattle.rje_accounts.proofs.accounts.highest.Goals as goal

pub loop-count-preserved : goal.loop-count-preserved
loop-count-preserved c =
    let counts = c.args.counts.now in
    let h = c.in-Some.highest in
    let i = c.loop-count.count-index in
    let within : i < length counts = omega arith in
    let same = c.if-is_another.ensures.same refl in
    All-more (λ (q : Receipt). (q.kept < h.kept) ⊎ (q ≡ h)) counts i _ within c.loop-count.invariant
    (lower_or_same h _ (All-get_or (λ (q : Receipt). q.kept ≤ h.kept) counts i _ within c.in-Some.ensures.none_above) same)

pub returns-clause-highest : goal.returns-clause-highest
returns-clause-highest c =
    let counts = c.args.counts.now in
    let h = c.in-Some.highest in
    let P = λ (q : Receipt). (q.kept < h.kept) ⊎ (q ≡ h) in
    (c.in-Some.ensures.is_one, All-same P counts _ (sym (take_all c.loop-count.count-index counts (omega arith))) c.loop-count.invariant)
