use Rattle.std.proofs.Common.{rules, ◌≡◌, false, sym, ◌∙◌}
use Rattle.bsc_link.specs.Sender.{say_in, sender_hears, counts_block, line_for}
use Rattle.rje_station.specs.Sending.{next_for, rest_after}
use Rattle.rje_station.proofs.Steps.{end_is_due}
use Rattle.rje_station.proofs.sending.SendingStation.step.Goals as goal

pub invariant_of-self : goal.invariant_of-self
invariant_of-self c =
    let a = c.self.inside in
    let live : a.over ≡ false = search rules in
    let core : c.hear-counted.new.self ≡ sender_hears a.core c.args.sound (next_for (say_in a.core.place) a.blocks.rest) c.args.pause = search rules in
    let rest : c.count.new.self.rest ≡ rest_after (counts_block (line_for a.core c.args.sound c.args.pause)) a.blocks.rest = search rules in
    record {
      ready = λ o n. rw core (end_is_due a.core c.args.sound c.args.pause a.blocks.rest (c.self.invariant.ready live) (sym rest ∙ n));
      live = λ o. search rules;
    }
