-- What is heard of a line until a frame came or it was quiet, and that the line only grew older.
-- An invariant: the pieces so far were fed to the listener in order (`FedSo`); each way out adds its last piece (Hearings, Ages).
use Rattle.std.proofs.Common.{rules, refl, sym}
use Rattle.bsc_frame.specs.FrameKind.{frame_of}
use Rattle.rje_station.specs.declared.came.Came.TheVariants.{Bytes, Quiet}
use Rattle.rje_station.specs.Line.{Passes, Hears}
use Rattle.rje_station.proofs.Ages.{ages_more}
use Rattle.rje_station.proofs.Hearings.{FedSo, passes-on, frame_heard, quiet_heard, babbled, fed_more}
use Rattle.rje_station.proofs.frame_reader.FrameReader.hear.Goals as goal

pub returns-in-Quiet-clause-heard : goal.returns-in-Quiet-clause-heard
returns-in-Quiet-clause-heard g c =
    let told : Passes (g.L.Line.talk c.loop-self.line) (g.L.Line.talk c.listen.new.self) (Hears Quiet c.listen.new.piece) = search rules in
    rw (sym (c.without_frame.ensures c.loop-self.self.text.items)) (passes-on _ _ _ (λ t u. FedSo c.loop-self.self.listener c.loop-self.room t u) (Hears Quiet c.listen.new.piece) _
    (λ t u v s q. quiet_heard c.loop-self.self.listener c.loop-self.room c.listen.new.piece c.quiet.result t u v s q c.quiet.ensures.heard c.quiet.ensures.never)
    c.loop-self.invariant.1 told)

pub returns-in-Some-clause-heard : goal.returns-in-Some-clause-heard
returns-in-Some-clause-heard g c =
    let told : Passes (g.L.Line.talk c.loop-self.line) (g.L.Line.talk c.listen.new.self) (Hears (Bytes c.in-Bytes.n) c.listen.new.piece) = search rules in
    let found = rw c.in-Some.is at c.feed_into-kind.ensures.frame in
    passes-on _ _ _ (λ t u. FedSo c.loop-self.self.listener c.loop-self.room t u) (Hears (Bytes c.in-Bytes.n) c.listen.new.piece) _
    (λ t u v s q. frame_heard c.loop-self.self.listener c.loop-self.room c.in-Bytes.n c.min-fed.result c.feed_into-kind.result.used c.listen.new.piece _ (frame_of c.in-Some.kind c.feed_into-kind.new.room.items) t u v s q refl (search rules) (search rules) found)
    c.loop-self.invariant.1 told

pub returns-then-room-n-clause-lost : goal.returns-then-room-n-clause-lost
returns-then-room-n-clause-lost g c =
    let told : Passes (g.L.Line.talk c.loop-self.line) (g.L.Line.talk c.listen.new.self) (Hears (Bytes c.in-Bytes.n) c.listen.new.piece) = search rules in
    passes-on _ _ _ (λ t u. FedSo c.loop-self.self.listener c.loop-self.room t u) (Hears (Bytes c.in-Bytes.n) c.listen.new.piece) _
    (λ t u v s q. babbled c.loop-self.self.listener c.loop-self.room c.in-Bytes.n c.min-fed.result c.listen.new.piece _ t u v s q refl (search rules) (search rules) (search rules) (search rules))
    c.loop-self.invariant.1 told

pub returns-in_err-map_err-clause-ages : goal.returns-in_err-map_err-clause-ages
returns-in_err-map_err-clause-ages g c = ages_more (g.L.Line.may_fail c.args.line.now) (g.L.Line.may_fail c.loop-self.line) (g.L.Line.may_fail c.listen.new.self) c.loop-self.invariant.3 c.listen.ensures.ages

pub returns-in-Quiet-clause-ages : goal.returns-in-Quiet-clause-ages
returns-in-Quiet-clause-ages g c = ages_more (g.L.Line.may_fail c.args.line.now) (g.L.Line.may_fail c.loop-self.line) (g.L.Line.may_fail c.listen.new.self) c.loop-self.invariant.3 c.listen.ensures.ages

pub returns-in-Some-clause-ages : goal.returns-in-Some-clause-ages
returns-in-Some-clause-ages g c = ages_more (g.L.Line.may_fail c.args.line.now) (g.L.Line.may_fail c.loop-self.line) (g.L.Line.may_fail c.listen.new.self) c.loop-self.invariant.3 c.listen.ensures.ages

pub returns-then-room-n-clause-ages : goal.returns-then-room-n-clause-ages
returns-then-room-n-clause-ages g c = ages_more (g.L.Line.may_fail c.args.line.now) (g.L.Line.may_fail c.loop-self.line) (g.L.Line.may_fail c.listen.new.self) c.loop-self.invariant.3 c.listen.ensures.ages

pub loop-self-preserved : goal.loop-self-preserved
loop-self-preserved g c =
    let told : Passes (g.L.Line.talk c.loop-self.line) (g.L.Line.talk c.listen.new.self) (Hears (Bytes c.in-Bytes.n) c.listen.new.piece) = search rules in (
      search rules,
      passes-on _ _ _ (λ t u. FedSo c.loop-self.self.listener c.loop-self.room t u) (Hears (Bytes c.in-Bytes.n) c.listen.new.piece) _
          (λ t u v s q. fed_more c.loop-self.self.listener c.feed_into-kind.new.self c.loop-self.room c.in-Bytes.n c.min-fed.result c.listen.new.piece _ t u v s q refl (search rules) (search rules) (search rules) (search rules))
          c.loop-self.invariant.1 told,
      search rules,
      ages_more (g.L.Line.may_fail c.args.line.now) (g.L.Line.may_fail c.loop-self.line) (g.L.Line.may_fail c.listen.new.self) c.loop-self.invariant.3 c.listen.ensures.ages,
    )
