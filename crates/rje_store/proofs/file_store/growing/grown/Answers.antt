use Rattle.std.proofs.Common.{◌≡◌, ◌∙◌, inl, ℕ, List, Option, Result, Ok, Err, OnOk, length, subst, sym}
use Rattle.std.specs.Prelude.{IfSome}
use Rattle.rje_store.specs.Disk.{Asked, Opened, bytes_of}
use Rattle.rje_store.specs.Inside.Filling.{MayFill, MayGive, Turns}
use Rattle.rje_store.proofs.Replacing.{added_twice, added_weaker}
use Rattle.rje_store.proofs.file_store.growing.grown.Goals as goal

-- a turn after calls that change no bytes is one from before them
turns_before : {A E : Type 0} (result : Result A E) (file from : Opened) (front tail : List ℕ) (a b c : List Asked) → ((number : ℕ) → bytes_of number b ≡ bytes_of number a)
    → OnOk result (Turns file from front tail b c) → OnOk result (Turns file from front tail a c)
turns_before (Ok _) file from front tail a b c same turns = λ bytes had is has. turns bytes had (same file.number ∙ is) (same from.number ∙ has)
turns_before (Err _) file from front tail a b c same turns = tt

pub returns-in_err-give_access-clause-asks : goal.returns-in_err-give_access-clause-asks
returns-in_err-give_access-clause-asks g c =
    let file = g.D.Disk.opened c.args.older.now.file in
    λ told private. added_weaker (MayGive file) (MayFill file) (λ call before may. inl may) _ _ (c.give_access.ensures.asks told private)

pub returns-then-older-eq0-clause-asks : goal.returns-then-older-eq0-clause-asks
returns-then-older-eq0-clause-asks g c =
    let file = g.D.Disk.opened c.args.older.now.file in
    λ told private. added_twice (MayFill file) _ _ _
    (added_weaker (MayGive file) (MayFill file) (λ call before may. inl may) _ _ (c.give_access.ensures.asks told private))
    (c.gone_on.ensures.asks told)

pub returns-then-older-eq0-clause-turns : goal.returns-then-older-eq0-clause-turns
returns-then-older-eq0-clause-turns g c =
    let file = g.D.Disk.opened c.args.older.now.file in
    let from = g.D.Disk.opened c.args.newest.now in
    let a = g.D.Disk.asked c.args.disk.now in
    let b = g.D.Disk.asked c.give_access.new.disk in
    λ told len.
    let same : (number : ℕ) → bytes_of number b ≡ bytes_of number a = c.give_access.ensures.same told in
    turns_before c.gone_on.result file from c.args.front.now c.args.tail.now a b (g.D.Disk.asked c.gone_on.new.disk) same
    (c.gone_on.ensures.turns told (subst (λ (o : Option (List ℕ)). IfSome o (λ bytes. c.args.older.now.len ≡ length bytes)) (sym (same file.number)) len))
