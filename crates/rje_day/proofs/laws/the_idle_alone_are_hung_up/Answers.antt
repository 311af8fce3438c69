use Rattle.rje_day.proofs.Told.{hangs_up_the_idle, hangs_up_the_idle_alone}
use Rattle.rje_day.proofs.laws.the_idle_alone_are_hung_up.Goals as goal

pub returns-clause-alone : goal.returns-clause-alone
returns-clause-alone c = hangs_up_the_idle_alone

pub returns-clause-idle : goal.returns-clause-idle
returns-clause-idle c = hangs_up_the_idle
