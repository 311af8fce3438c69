-- One step of a sender's core, and the blocks that are left then.
use Rattle.std.proofs.Common.{◌≡◌, ◌≢◌, Bool, true, false, List, [], ◌∷◌, refl}
use Rattle.bsc_codes.specs.declared.block.Block.{Block}
use Rattle.bsc_link.specs.declared.say.Say.{Say}
use Rattle.bsc_link.specs.declared.next.Next.{Next}
use Rattle.bsc_link.specs.declared.sound.Sound.{Sound}
use Rattle.bsc_link.specs.declared.sender_place.SenderPlace.{SenderPlace}
use Rattle.bsc_link.specs.declared.sender_place.SenderPlace.TheVariants as Place
use Rattle.bsc_link.specs.declared.table_line.TableLine.{TableLine}
use Rattle.bsc_link.specs.declared.table_line.TableLine.TheVariants as Line
use Rattle.bsc_link.specs.Sender.{SenderState, say_in, sender_hears, counts_block, line_for, line_at_bid, follow}
use Rattle.rje_station.specs.Sending.{next_for, rest_after}

bid_counts : (sound : Sound) → counts_block (line_at_bid sound) ≡ true → ⊥
bid_counts Sound.Ack0 h = cc
bid_counts Sound.Wack h = cc
bid_counts Sound.Eot h = cc
bid_counts _ h = cc

bids_not : (p : SenderPlace) (s : SenderState) (sound : Sound) (pause : Bool) → s.place ≡ p → counts_block (line_for s sound pause) ≡ true → say_in p ≢ Say.Bid
bids_not Place.Bid s sound pause e h = absurd (bid_counts sound (rw e at h))
bids_not Place.Block s sound pause e h = λ g. cc
bids_not Place.Again s sound pause e h = λ g. cc
bids_not Place.Ask s sound pause e h = λ g. cc
bids_not Place.Delay s sound pause e h = λ g. cc
bids_not (Place.End o) s sound pause e h = λ g. cc
bids_not (Place.Over o) s sound pause e h = λ g. cc

done_for : (say : Say) (b : Block) → say ≢ Say.Bid → next_for say (b ∷ []) ≡ Next.Done
done_for Say.Bid b n = absurd (n refl)
done_for _ b n = refl

ends_by : (l : TableLine) (s : SenderState) (pause : Bool) → counts_block l ≡ true → say_in (follow l s Next.Done pause).place ≡ Say.End
ends_by Line.Count s pause h = refl
ends_by Line.CountByRvi s pause h = refl
ends_by _ s pause h = cc

stays : (p : SenderPlace) (s : SenderState) (sound : Sound) (next : Next) (pause : Bool) → s.place ≡ p → say_in p ≡ Say.End → say_in (sender_hears s sound next pause).place ≡ Say.End
stays (Place.End o) s sound next pause e h = rw e refl
stays Place.Bid s sound next pause e h = cc
stays Place.Block s sound next pause e h = cc
stays Place.Again s sound next pause e h = cc
stays Place.Ask s sound next pause e h = cc
stays Place.Delay s sound next pause e h = cc
stays (Place.Over o) s sound next pause e h = cc

last_counted : (c : Bool) (s : SenderState) (sound : Sound) (pause : Bool) (b : Block) (rest : List Block) → counts_block (line_for s sound pause) ≡ c → rest_after c (b ∷ rest) ≡ []
    → say_in (sender_hears s sound (next_for (say_in s.place) (b ∷ rest)) pause).place ≡ Say.End
last_counted true s sound pause b [] h e =
    rw (done_for (say_in s.place) b (bids_not s.place s sound pause refl h)) (ends_by (line_for s sound pause) s pause h)
last_counted true s sound pause b (c ∷ rest) h e = cc
last_counted false s sound pause b rest h e = cc

-- where no block is left after a step, EOT is due
pub end_is_due : (s : SenderState) (sound : Sound) (pause : Bool) (rest : List Block) → (rest ≡ [] → say_in s.place ≡ Say.End)
    → rest_after (counts_block (line_for s sound pause)) rest ≡ [] → say_in (sender_hears s sound (next_for (say_in s.place) rest) pause).place ≡ Say.End
end_is_due s sound pause [] h n = stays s.place s sound _ pause refl (h refl)
end_is_due s sound pause (b ∷ rest) h n = last_counted (counts_block (line_for s sound pause)) s sound pause b rest refl n
