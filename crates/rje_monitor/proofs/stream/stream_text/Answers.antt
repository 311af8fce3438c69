-- The text of a stream is a line for each frame and one for the rest.
-- The loop takes one frame after another off the front: Hearings says that one was taken, Streams that the text goes on.
use Rattle.std.proofs.Common.{◌≡◌, ℕ, ◌+◌, ◌<◌, List, ◌++◌, None, take, drop, subst, sym, rules, arith, length}
use Rattle.std.proofs.lemmas.Bool.Decides.{nat_tests}
use Rattle.std.proofs.lemmas.Grind.{common_steps}
use Rattle.std.proofs.lemmas.List.{nil_from_length, length-take-le}
use Rattle.rje_monitor.specs.Stream.{IsTextFrom, IsStreamLine}
use Rattle.rje_monitor.proofs.Hearings.{some_taken, heard_of_front}
use Rattle.bsc_frame.specs.Heard.{IsHeard}
use Rattle.rje_monitor.proofs.Streams.{goes_on, all_text, GoesOn}
use Rattle.rje_monitor.proofs.stream.stream_text.Goals as goal

pub loop-rest-init : goal.loop-rest-init
loop-rest-init c = record {
  on = λ more lines h. (more, subst (λ (t : List ℕ). IsTextFrom 0 None more c.args.capture.now (t ++ lines)) (sym c.new-text.ensures.items) h);
  room = omega arith;
}

pub loop-rest-preserved : goal.loop-rest-preserved
loop-rest-preserved c =
    let used = c.of-heard.result.used in
    let bytes = c.loop-rest.rest.now in
    let said = c.in_ok-push_line.ensures in
    let front : c.split_at.result.0.now ≡ take used bytes = search rules in
    let back : c.split_at.result.1.now ≡ drop used bytes = search rules in
    let line : IsStreamLine c.loop-rest.place c.loop-rest.so_far c.of-heard.result.heard (take used bytes) said.0 =
    subst (λ (b : List ℕ). IsStreamLine c.loop-rest.place c.loop-rest.so_far c.of-heard.result.heard b said.0) front said.1 in
    let on = goes_on c.args.capture.now c.loop-rest.text.items c.push_line.new.text.items said.0 bytes (take used bytes) (drop used bytes) c.loop-rest.place used
    c.loop-rest.so_far c.mode_after-so_far.result c.of-heard.result.heard c.loop-rest.invariant.on c.of-heard.ensures.heard line said.2
    (sym (length-take-le used bytes c.of-heard.ensures.used)) c.mode_after-so_far.ensures in
    record {
      on = subst (λ (b : List ℕ). GoesOn c.args.capture.now c.push_line.new.text.items (c.loop-rest.place + used) c.mode_after-so_far.result b) (sym back) on;
      room = grind (arith, common_steps);
    }

pub loop-rest-smaller : goal.loop-rest-smaller
loop-rest-smaller c =
    let used = c.of-heard.result.used in
    let bytes = c.loop-rest.rest.now in
    let some : 0 < length bytes = grind (arith, nat_tests) in
    let taken = some_taken c.of-heard.result.heard bytes (take used bytes) (drop used bytes) some c.of-heard.ensures.heard in
    let size = length-take-le used bytes c.of-heard.ensures.used in
    grind (arith, common_steps)

pub returns : goal.returns
returns c =
    let none : length c.loop-rest.rest.now ≡ 0 = grind (arith, nat_tests) in
    record {
      text = all_text c.args.capture.now c.loop-rest.text.items c.loop-rest.rest.now c.loop-rest.place c.loop-rest.so_far c.loop-rest.invariant.on
          (nil_from_length _ none);
    }

pub push_line-requires-clause-heard : goal.push_line-requires-clause-heard
push_line-requires-clause-heard c =
    let used = c.of-heard.result.used in
    let bytes = c.loop-rest.rest.now in
    let front : c.split_at.result.0.now ≡ take used bytes = search rules in
    subst (λ (b : List ℕ). IsHeard b c.of-heard.result.heard) (sym front)
    (heard_of_front c.of-heard.result.heard bytes (take used bytes) (drop used bytes) c.of-heard.ensures.heard)
