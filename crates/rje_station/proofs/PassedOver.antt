-- What a station that contends passes over: an ENQ and nothing else, and an ENQ isn't refused.
use Rattle.std.proofs.Common.{◌≡◌, Bool, false, Option, refl}
use Rattle.std.proofs.lemmas.Bool.{true≢false}
use Rattle.bsc_frame.specs.declared.frame.Frame.TheVariants as frame
use Rattle.bsc_frame.specs.declared.heard.Heard.{Heard}
use Rattle.bsc_frame.specs.declared.heard.Heard.TheVariants as heard
use Rattle.bsc_link.specs.declared.sound.Sound.{Sound}
use Rattle.bsc_link.specs.Contender.{ContenderState}
use Rattle.rje_jobs.specs.declared.job.Job.{Job}
use Rattle.rje_station.specs.Hearing.{sound_heard}
use Rattle.rje_station.specs.Receiving.{MayRefuse}
use Rattle.rje_station.specs.Station.{lets_in}

pub passed_enq : (c : ContenderState) (sound : Sound) → lets_in c sound ≡ false → sound ≡ Sound.Enq
passed_enq c Sound.Enq is = refl
passed_enq c _ is = absurd (true≢false is)

pub passed_unrefused : (what : Heard) (begun : Option Job) (refused : Bool) → sound_heard what ≡ Sound.Enq → MayRefuse what begun refused → refused ≡ false
passed_unrefused (heard.Frame frame.Enq) begun refused is may = may
passed_unrefused (heard.Frame _) begun refused is may = cc
passed_unrefused _ begun refused is may = cc
