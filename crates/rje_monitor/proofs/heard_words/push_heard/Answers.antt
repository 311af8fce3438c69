use Rattle.std.proofs.Common.{◌≡◌, ◌++◌, drop, codes, refl, subst, sym, rules}
use Rattle.std.specs.Result.{OnOk}
use Rattle.std.proofs.lemmas.Result.{on_ok_weaker}
use Rattle.bsc_frame.specs.declared.heard.Heard.{Heard}
use Rattle.rje_monitor.specs.Words.{hex}
use Rattle.rje_monitor.specs.Hearing.{AreWords, pads_before}
use Rattle.rje_monitor.proofs.heard_words.push_heard.Goals as goal

pub returns-in-Noise : goal.returns-in-Noise
returns-in-Noise c =
    let words = codes "noise " ++ hex (drop (pads_before c.args.bytes.now) c.args.bytes.now) in
    let is : AreWords c.args.so_far c.args.heard.now c.args.bytes.now words =
    subst (λ (h : Heard). AreWords c.args.so_far h c.args.bytes.now words) (sym c.in-Noise.is) refl in
    on_ok_weaker c.push_noise.result (λ e. (words, is, e)) c.push_noise.ensures

pub returns-in-Quiet : goal.returns-in-Quiet
returns-in-Quiet c =
    let words = codes "quiet" in
    let is : AreWords c.args.so_far c.args.heard.now c.args.bytes.now words =
    subst (λ (h : Heard). AreWords c.args.so_far h c.args.bytes.now words) (sym c.in-Quiet.is) refl in
    let put : OnOk c.extend_from_slice.result (c.extend_from_slice.new.self.items ≡ c.args.text.now.items ++ words) = search rules in
    on_ok_weaker c.extend_from_slice.result (λ e. (words, is, e)) put
