use Rattle.std.proofs.Common.{rules, ◌≡◌, ◌-◌, suc, true, false, length, get_or, sym, ap, refl, arith}
use Rattle.rje_jobs.specs.Joined.{mode_of_begun}
use Rattle.rje_station.proofs.Joining.{last_begun, last_whole}
use Rattle.rje_station.proofs.receiving.joined_jobs.JoinedJobs.mode_of_begun.Goals as goal

pub returns-then-job : goal.returns-then-job
returns-then-job c =
    let js = c.self.inside.items.items in
    let n = c.len-len.result - 1 in
    let job = c.index-job.result.now in
    let here : get_or js n job ≡ job = search rules in
    let l : length js ≡ suc n = omega (arith, c.len-len.ensures, c.if-len-eq0.false) in
    let v : c.args.self.now ≡ js = search rules in
    let whole : (get_or js n job).whole ≡ true = rw here c.if-job.true in
    rw v (ap mode_of_begun (sym (last_whole js n job l whole)))

pub returns-else-job : goal.returns-else-job
returns-else-job c =
    let js = c.self.inside.items.items in
    let n = c.len-len.result - 1 in
    let job = c.index-job.result.now in
    let here : get_or js n job ≡ job = search rules in
    let l : length js ≡ suc n = omega (arith, c.len-len.ensures, c.if-len-eq0.false) in
    let v : c.args.self.now ≡ js = search rules in
    let whole : (get_or js n job).whole ≡ false = rw here c.if-job.false in
    let begun = last_begun js n job l whole in
    rw (v, begun, here) refl
