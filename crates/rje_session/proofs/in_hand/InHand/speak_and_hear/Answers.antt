-- What is noted of the block that is out stays true of the station after its own turn.
-- Four goals of one invariant; each follows from what a turn of the sender's does to its jobs (Places).
use Rattle.std.proofs.Common.{◌≡◌, ◌≢◌, ap, drop, false, rules, subst, sym, ◌∙◌}
use Rattle.bsc_link.specs.declared.say.Say.{Say}
use Rattle.rje_station.specs.Receiving.{Receiving}
use Rattle.rje_station.specs.Sending.{GoesOnAt, Sending}
use Rattle.rje_station.specs.Station.{due_at}
use Rattle.rje_session.specs.Keeping.{AreKept}
use Rattle.rje_session.proofs.Places.{fault_begins, fault_receiver, own_receiver, turn_block, turn_job, turn_nothing}
use Rattle.rje_session.proofs.in_hand.InHand.speak_and_hear.Goals as goal

pub invariant_of-self-then-counted : goal.invariant_of-self-then-counted
invariant_of-self-then-counted g c =
    let s = c.self.inside.station in
    let takes = c.in_ok-heard.ensures.takes.0 in
    let said = c.in_ok-heard.field-0-0 in
    let heard = c.in_ok-heard.heard in
    let goes = subst (λ (x : Sending). GoesOnAt x.rest (drop x.counted x.jobs) c.next_record-next.result) c.sender-2.ensures c.next_record-next.ensures in
    let was = c.counted-counted.ensures ∙ ap (λ (x : Sending). x.counted) c.sender.ensures in
    let now = c.counted.ensures ∙ ap (λ (x : Sending). x.counted) c.sender-sender.ensures in record {
      begins = turn_job s c.take_own_turn.new.station said heard c.self.inside.from c.next_record-next.result takes c.self.invariant.begins goes
          (λ same. c.if-counted.true (now ∙ same ∙ sym was));
      kept = subst (λ (r : Receiving). r.over ≡ false → AreKept c.self.inside.kept r.jobs) (sym (own_receiver s c.take_own_turn.new.station said heard takes)) c.self.invariant.kept;
    }

pub invariant_of-self-then-counts_last : goal.invariant_of-self-then-counts_last
invariant_of-self-then-counts_last g c =
    let s = c.self.inside.station in
    let takes = c.in_ok-heard.ensures.takes.0 in
    let said = c.in_ok-heard.field-0-0 in
    let heard = c.in_ok-heard.heard in
    let goes = subst (λ (x : Sending). GoesOnAt x.rest (drop x.counted x.jobs) c.next_record-next.result) c.sender-2.ensures c.next_record-next.ensures in
    let was = c.counted-counted.ensures ∙ ap (λ (x : Sending). x.counted) c.sender.ensures in
    let now = c.counted.ensures ∙ ap (λ (x : Sending). x.counted) c.sender-sender.ensures in record {
      begins = turn_block s c.take_own_turn.new.station said heard c.self.inside.from c.next_record-next.result takes c.self.invariant.begins goes (search rules)
          (sym now ∙ c.if-counted.false ∙ was);
      kept = subst (λ (r : Receiving). r.over ≡ false → AreKept c.self.inside.kept r.jobs) (sym (own_receiver s c.take_own_turn.new.station said heard takes)) c.self.invariant.kept;
    }

pub invariant_of-self-else-counts_last : goal.invariant_of-self-else-counts_last
invariant_of-self-else-counts_last g c =
    let s = c.self.inside.station in
    let takes = c.in_ok-heard.ensures.takes.0 in
    let said = c.in_ok-heard.field-0-0 in
    let heard = c.in_ok-heard.heard in
    let goes = subst (λ (x : Sending). GoesOnAt x.rest (drop x.counted x.jobs) c.next_record-next.result) c.sender-2.ensures c.next_record-next.ensures in record {
      begins = turn_nothing s c.take_own_turn.new.station said heard c.self.inside.from c.next_record-next.result takes c.self.invariant.begins goes (search rules);
      kept = subst (λ (r : Receiving). r.over ≡ false → AreKept c.self.inside.kept r.jobs) (sym (own_receiver s c.take_own_turn.new.station said heard takes)) c.self.invariant.kept;
    }

pub invariant_of-self : goal.invariant_of-self
invariant_of-self g c =
    let s = c.self.inside.station in
    let due : due_at s ≢ Say.Nothing = search rules in
    let fails = c.in_err-heard.ensures.fault in record {
      begins = fault_begins s c.take_own_turn.new.station c.in_err-heard.field-0.0 c.self.inside.from due fails c.self.invariant.begins;
      kept = subst (λ (r : Receiving). r.over ≡ false → AreKept c.self.inside.kept r.jobs) (sym (fault_receiver s c.take_own_turn.new.station c.in_err-heard.field-0.0 fails)) c.self.invariant.kept;
    }
