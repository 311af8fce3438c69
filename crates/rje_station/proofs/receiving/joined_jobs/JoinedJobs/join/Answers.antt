use Rattle.std.proofs.Common.{rules, ◌≡◌, ◌-◌, ◌++◌, ◌∷◌, [], suc, true, false, length, get_or, is_some, Some, None, ap, ◌∙◌, arith}
use Rattle.rje_jobs.specs.Joined.{mode_of_begun, with_records, ends_job}
use Rattle.rje_station.specs.JoinedJobs.{begun_in}
use Rattle.rje_station.proofs.Joining.{begun_last, begun_some, no_mode, set_last, push_last}
use Rattle.rje_station.proofs.receiving.joined_jobs.JoinedJobs.join.Goals as goal

pub returns-then-is_some-clause-ok : goal.returns-then-is_some-clause-ok
returns-then-is_some-clause-ok c =
    let js = c.self.inside.items.items in
    let n = c.len-len.result - 1 in
    let job = c.index_mut-job.result.now in
    let v : c.args.self.now ≡ js = search rules in
    let begun : is_some (mode_of_begun (begun_in js)) ≡ true = search rules in
    let some = begun_some js begun in
    let l : length js ≡ suc n = omega (arith, c.len-len.ensures, some) in
    let here : get_or js n job ≡ job = search rules in
    let is = begun_last js n job l begun ∙ ap (λ j. Some j) here in
    let records : c.append.new.self ≡ job.records ++ c.args.unpacked.records = search rules in
    rw (records, c.ends_job-whole.ensures, v) (set_last js n job c.args.unpacked (ends_job c.args.closing) l is)

pub returns-clause-ok : goal.returns-clause-ok
returns-clause-ok c =
    let js = c.self.inside.items.items in
    let v : c.args.self.now ≡ js = search rules in
    let begun : is_some (mode_of_begun (begun_in js)) ≡ false = search rules in
    let pushed : c.push.new.self.items ≡ js ++ with_records None c.args.unpacked (ends_job c.args.closing) ∷ [] = search rules in
    rw v (pushed ∙ push_last js c.args.unpacked (ends_job c.args.closing) (no_mode (begun_in js) begun))
