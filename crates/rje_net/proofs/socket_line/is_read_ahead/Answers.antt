use Rattle.std.proofs.Common.{ap, sym, subst, ◌∙◌, ℕ}
use Rattle.arrayvec.specs.ArrayVec.{ArrayVec}
use Rattle.rje_net.specs.Words.{HasWord}
use Rattle.rje_net.proofs.socket_line.is_read_ahead.Goals as goal

pub returns-then-spoken : goal.returns-then-spoken
returns-then-spoken g c =
    let same = c.read_ahead.ensures ∙ c.replace.ensures.value in
    record { word = λ yes. subst HasWord (c.as_slice.ensures.value ∙ ap (λ (a : ArrayVec ℕ). a.items) (sym same)) (c.has_word-spoken.ensures.0 yes) }
