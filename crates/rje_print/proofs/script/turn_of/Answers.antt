-- A line is the turn that was read, or none, at each way out.
-- The line is parted at its blanks, and each part is one of the words that a turn has, or not (lemmas of Turns).
use Rattle.rje_print.specs.Script.{IsFate}
use Rattle.rje_print.proofs.Turns.{no_blank, one_blank, two_blanks, words_are}
use Rattle.rje_print.proofs.script.turn_of.Goals as goal

pub returns-in_default : goal.returns-in_default
returns-in_default c = no_blank c.args.line.now c.in_default.ensures.parts

pub returns-in_default-split_once : goal.returns-in_default-split_once
returns-in_default-split_once c =
    one_blank c.args.line.now c.in-Some.up.now c.in-Some.rest.now c.in-Some.ensures.parts c.in_default-split_once.ensures.parts

pub returns-in_default-split_once-2 : goal.returns-in_default-split_once-2
returns-in_default-split_once-2 c =
    two_blanks c.args.line.now c.in-Some.up.now c.in-Some.rest.now c.in-Some-split_once.down.now c.in-Some-split_once.rest.now c.in-Some.ensures.parts
    c.in-Some-split_once.ensures.parts c.in_default-split_once-2.ensures.parts

pub returns-in_default-wish_of : goal.returns-in_default-wish_of
returns-in_default-wish_of c = λ h.
    let words =
    words_are c.args.line.now c.in-Some.up.now c.in-Some.rest.now c.in-Some-split_once.down.now c.in-Some-split_once.rest.now c.in-Some-split_once-2.wish.now
    c.in-Some-split_once-2.pause.now c.in-Some.ensures.parts c.in-Some-split_once.ensures.parts c.in-Some-split_once-2.ensures.parts h in
    c.in_default-wish_of.ensures words.wished words.wish_is

pub returns-in_default-pause_of : goal.returns-in_default-pause_of
returns-in_default-pause_of c = λ h.
    let words =
    words_are c.args.line.now c.in-Some.up.now c.in-Some.rest.now c.in-Some-split_once.down.now c.in-Some-split_once.rest.now c.in-Some-split_once-2.wish.now
    c.in-Some-split_once-2.pause.now c.in-Some.ensures.parts c.in-Some-split_once.ensures.parts c.in-Some-split_once-2.ensures.parts h in
    c.in_default-pause_of.ensures words.paused words.pause_is

pub returns-in_default-2 : goal.returns-in_default-2
returns-in_default-2 c = λ h.
    let words =
    words_are c.args.line.now c.in-Some.up.now c.in-Some.rest.now c.in-Some-split_once.down.now c.in-Some-split_once.rest.now c.in-Some-split_once-2.wish.now
    c.in-Some-split_once-2.pause.now c.in-Some.ensures.parts c.in-Some-split_once.ensures.parts c.in-Some-split_once-2.ensures.parts h in
    let none : ¬ (IsFate c.in-Some.up.now) = rw c.in_default-2.is at c.in_ok-up.ensures in
    none words.up_is

pub returns-in_default-3 : goal.returns-in_default-3
returns-in_default-3 c = λ h.
    let words =
    words_are c.args.line.now c.in-Some.up.now c.in-Some.rest.now c.in-Some-split_once.down.now c.in-Some-split_once.rest.now c.in-Some-split_once-2.wish.now
    c.in-Some-split_once-2.pause.now c.in-Some.ensures.parts c.in-Some-split_once.ensures.parts c.in-Some-split_once-2.ensures.parts h in
    let none : ¬ (IsFate c.in-Some-split_once.down.now) = rw c.in_default-3.is at c.in_ok-down.ensures in
    none words.down_is
