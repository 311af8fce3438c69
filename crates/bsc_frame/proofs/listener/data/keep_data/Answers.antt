use Rattle.std.proofs.Common.{◌≡◌, ◌≤◌, List, ℕ, true, Result, Ok, Err, OnOk, length, take, drop, ap, sym, ◌∙◌, subst, arith}
use Rattle.std.proofs.lemmas.List.{length-take-le}
use Rattle.std.specs.Result.{is_ok}
use Rattle.bsc_frame.specs.declared.listener.stage.Stage.{Stage}
use Rattle.bsc_frame.specs.Inside.Listening.HeardSoFar.{Text}
use Rattle.bsc_frame.specs.Inside.Listening.Run.{run}
use Rattle.bsc_frame.specs.Inside.Listening.Stage.{so_far_of}
use Rattle.bsc_frame.proofs.DataRuns.{many}
use Rattle.bsc_frame.proofs.listener.data.keep_data.Goals as goal

there : {T E : Type 0} (result : Result T E) (P : Type 0) → is_ok result ≡ true → OnOk result P → P
there (Ok x) P is p = p
there (Err e) P is p = absurd cc

pub returns-clause-goes_on : goal.returns-clause-goes_on
returns-clause-goes_on c =
    let transparent = c.in-Text.transparent in
    let bytes = c.args.bytes.now in
    let n = c.min.result in
    let text = c.args.text.now.items in
    let new = c.try_extend_from_slice.new.self.items in
    let within : n ≤ length bytes = omega arith in
    subst (λ (s : Stage). run (so_far_of s new) (drop (length (take n bytes)) bytes) ≡ run (so_far_of s text) bytes) (sym c.in-Text.is) (
    ap (λ (m : ℕ). run (Text transparent new) (drop m bytes)) (length-take-le n bytes within)
    ∙ ap (λ (t : List ℕ). run (Text transparent t) (drop n bytes)) (there _ _ c.if-is_err.ensures.negation c.try_extend_from_slice.ensures.ok)
    ∙ many transparent text bytes n (λ k l. c.data_in_front.ensures.data k (omega (arith, l))) within (omega arith)
    )
