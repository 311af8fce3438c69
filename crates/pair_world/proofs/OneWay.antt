-- Where the secondary has no jobs, the run of a pair is the run of the primary's jobs.
use Rattle.std.proofs.Common.{◌≡◌, ◌⊎◌, inl, inr, ℕ, suc, Bool, true, false, List, [], ◌∷◌, ◌++◌, length, map, slice_get, option_map, Option, Some, None, refl, sym, ap, ◌∙◌, subst}
use Rattle.std.proofs.lemmas.Bool.{true≢false, cases_Bool}
use Rattle.std.proofs.lemmas.List.{map-append, length-map}
use Rattle.std.proofs.lemmas.Option.{slice_get-map}
use Rattle.bsc_codes.specs.declared.block.Block.{Block}
use Rattle.bsc_link.specs.declared.outcome.Outcome.{Outcome}
use Rattle.bsc_link.specs.declared.say.Say.{Say}
use Rattle.bsc_history.specs.declared.sound_turn.SoundTurn.{SoundTurn}
use Rattle.bsc_history.specs.declared.spoken_turn.SpokenTurn.{SpokenTurn}
use Rattle.bsc_history.specs.History.{History, Plan, is_over}
use Rattle.bsc_history.specs.Known.{gives_up_now}
use Rattle.bsc_history.specs.Conversation.{Follows, IsAt, IsConversation, AreAt, IsConversationOver}
use Rattle.bsc_history.specs.Pair.{SpokenPair, PairHistory, up, down, is_bid_out, counted, due}
use Rattle.bsc_history.specs.PairCount.{down_gives_up}
use Rattle.bsc_history.specs.PairConversation.{Part, PairFollows, IsPairConversation, primary_speaks}
use Rattle.bsc_history.specs.PairSchedule.{PairPlace, ArePartsAt, ArePairsAt, IsPairConversationOver}
use Rattle.bsc_history.proofs.ForRuns.{saying-speaks}
use Rattle.rje_jobs.specs.declared.job.Job.{Job}
use Rattle.rje_jobs.specs.Blocks.{blocks}
use Rattle.pair_world.specs.declared.pair_turn.PairTurn.{PairTurn}
use Rattle.line_world.specs.declared.turn.Turn.{Turn}
use Rattle.line_world.specs.Plan.{plan_of}
use Rattle.line_world.specs.Run.{TellsSchedule, FitsTurn, AllFit, spoken_of, spoken_turns}
use Rattle.pair_world.specs.PairRun.{TellsPairs, FitParts, AllPairsFit, pair_of, spoken_pairs, Told}
use Rattle.pair_world.specs.OneWay.{spoken_alone, WithoutDownJobs}
use Rattle.line_world.proofs.ForPairs.{one_more}

-- the primary alone spoke in the turn, and this is what came of it
record IsAlone (p : Plan) (past : PairHistory) (t : SpokenPair) : Type 0 where
  own : SpokenTurn
  primary_is : t.primary ≡ Some own
  secondary_is : t.secondary ≡ None
  follows : Follows p (gives_up_now (up past)) (up past) own

none_spoken : (b : Bool) (o : Option SpokenTurn) (q : Plan) (g : Bool) (past : History) → Part q g past false (counted b o) → o ≡ None
none_spoken b None q g past part = refl
none_spoken b (Some u) q g past part = absurd (true≢false (sym part.0))

own_spoken : (p : Plan) (g : Bool) (past : History) (speaks : Bool) (o : Option SpokenTurn) → speaks ≡ true → Part p g past speaks o → (own : SpokenTurn) × (o ≡ Some own) × Follows p g past own
own_spoken p g past speaks None e part = absurd (true≢false (sym e ∙ part))
own_spoken p g past speaks (Some own) e part = (own, refl, part.1)

is_alone : (p : Plan) (past : PairHistory) (t : SpokenPair) → PairFollows p [] (gives_up_now (up past)) (down_gives_up past) past t → IsAlone p past t
is_alone p past t f =
    let speaks : primary_speaks p [] (gives_up_now (up past)) (down_gives_up past) past t.bids ≡ true = elim f.goes_on [ inl e ↦ e | inr e ↦ absurd (true≢false (sym e)) ] in
    let own = own_spoken p (gives_up_now (up past)) (up past) _ t.primary speaks f.primary in
    record { own = own.0; primary_is = own.1; secondary_is = none_spoken (is_bid_out (up past)) t.secondary [] (down_gives_up past) (down past) f.secondary; follows = own.2 }

-- the history up is as long, and there is none down
up_more : (t : SpokenPair) (past : PairHistory) (own : SpokenTurn) → t.primary ≡ Some own → up (t ∷ past) ≡ own ∷ up past
up_more t past own e = rw e refl

down_more : (t : SpokenPair) (past : PairHistory) → t.secondary ≡ None → down (t ∷ past) ≡ down past
down_more t past e = rw e refl

-- ---- The conversation.

up_conversation : (p : Plan) (h : PairHistory) → IsPairConversation p [] h → IsConversation p (up h)
up_conversation p [] c = tt
up_conversation p (t ∷ past) c =
    let a = is_alone p past t c.0 in
    subst (IsConversation p) (sym (up_more t past a.own a.primary_is)) (a.follows, up_conversation p past c.1)

no_down : (p : Plan) (h : PairHistory) → IsPairConversation p [] h → down h ≡ []
no_down p [] c = refl
no_down p (t ∷ past) c = down_more t past (is_alone p past t c.0).secondary_is ∙ no_down p past c.1

up_length : (p : Plan) (h : PairHistory) → IsPairConversation p [] h → length (up h) ≡ length h
up_length p [] c = refl
up_length p (t ∷ past) c =
    let a = is_alone p past t c.0 in
    ap length (up_more t past a.own a.primary_is) ∙ ap suc (up_length p past c.1)

abbrev sounds : PairPlace → SoundTurn
sounds place = place.place

abbrev ones : PairTurn → Turn
ones turn = turn.turn

part_at : (place : SoundTurn) (one two : Option SpokenTurn) (own : SpokenTurn) → one ≡ Some own → two ≡ None → ArePartsAt place one two → IsAt place own
part_at place one two own e f parts = subst (λ o. ArePartsAt place o None) e (subst (ArePartsAt place one) f parts)

up_placed : (p : Plan) (places : List PairPlace) (h : PairHistory) → IsPairConversation p [] h → ArePairsAt places h → AreAt (map sounds places) (up h)
up_placed p places [] c a = tt
up_placed p places (t ∷ past) c a =
    let alone = is_alone p past t c.0 in
    let there : slice_get (map sounds places) (length (up past)) ≡ Some a.0.0.place =
    ap (slice_get (map sounds places)) (up_length p past c.1) ∙ slice_get-map sounds places (length past) ∙ ap (option_map sounds) a.0.1 in
    subst (AreAt (map sounds places)) (sym (up_more t past alone.own alone.primary_is))
    ((a.0.0.place, there, part_at a.0.0.place t.primary t.secondary alone.own alone.primary_is alone.secondary_is a.0.2.parts), up_placed p places past c.1 a.1)

parts_fit : (ups : List Block) (past : PairHistory) (turn : Turn) (one two : Option SpokenTurn) (own : SpokenTurn) → one ≡ Some own → two ≡ None → FitParts ups [] past turn one two → FitsTurn ups (gives_up_now (up past)) (up past) own turn
parts_fit ups past turn one two own e f fits = subst (λ o. FitParts ups [] past turn o None) e (subst (FitParts ups [] past turn one) f fits)

up_fits : (ups : List Block) (turns : List PairTurn) (h : PairHistory) → IsPairConversation (plan_of ups) [] h → AllPairsFit ups [] turns h → AllFit ups (map ones turns) (up h)
up_fits ups turns [] c a = tt
up_fits ups turns (t ∷ past) c a =
    let alone = is_alone (plan_of ups) past t c.0 in
    let here : slice_get (map ones turns) (length (up past)) ≡ Some a.0.0.turn =
    ap (slice_get (map ones turns)) (up_length (plan_of ups) past c.1) ∙ slice_get-map ones turns (length past) ∙ ap (option_map ones) a.0.1 in
    subst (AllFit ups (map ones turns)) (sym (up_more t past alone.own alone.primary_is))
    ((a.0.0.turn, here, parts_fit ups past a.0.0.turn t.primary t.secondary alone.own alone.primary_is alone.secondary_is a.0.2), up_fits ups turns past c.1 a.1)

tells_one : (turns : List PairTurn) (places : List PairPlace) → TellsPairs turns places → TellsSchedule (map ones turns) (map sounds places)
tells_one [] [] t = tt
tells_one [] (place ∷ places) t = t
tells_one (turn ∷ turns) [] t = t
tells_one (turn ∷ turns) (place ∷ places) t = (t.0.tells, tells_one turns places t.1)

-- ---- It goes on as long.

no_blocks : (p : Plan) (h : PairHistory) → p ≡ [] → IsPairConversation p [] h → up h ≡ []
no_blocks p [] e c = refl
no_blocks p (t ∷ past) e c =
    let speaks : primary_speaks p [] (gives_up_now (up past)) (down_gives_up past) past t.bids ≡ true = elim c.0.goes_on [ inl s ↦ s | inr s ↦ absurd (true≢false (sym s)) ] in
    let silent : primary_speaks p [] (gives_up_now (up past)) (down_gives_up past) past t.bids ≡ false = rw e refl in
    absurd (true≢false (sym speaks ∙ silent))

over_where_nothing : (p : Plan) (g : Bool) (own : History) → due p g own [] ≡ Say.Nothing → (p ≡ []) ⊎ (is_over own ≡ true)
over_where_nothing [] g own e = inl refl
over_where_nothing (b ∷ p) g own e = elim (cases_Bool (is_over own)) [
  | inl over ↦ inr over
  | inr goes ↦ absurd (saying-speaks (b ∷ p) g own goes e)
]

up_over : (p : Plan) (places : List PairPlace) (h : PairHistory) → IsPairConversationOver p [] places h → IsConversationOver p (map sounds places) (up h)
up_over p places h c =
    let long : length (up h) ≡ length h = up_length p h c.spoken.conversation in
    let whole : (p ≡ []) ⊎ ((length (up h) ≡ length (map sounds places)) ⊎ (is_over (up h) ≡ true)) = elim c.whole [
      | inl all ↦ inr (inl (long ∙ all ∙ sym (length-map places sounds)))
      | inr none ↦ elim (over_where_nothing p (gives_up_now (up h)) (up h) (subst (λ d. due p (gives_up_now (up h)) (up h) d ≡ Say.Nothing) (no_down p h c.spoken.conversation) none.primary)) [
        | inl e ↦ inl e
        | inr over ↦ inr (inr over)
      ]
    ] in
    record {
      empty = λ e. no_blocks p h e c.spoken.conversation;
      spoken = record { conversation = up_conversation p h c.spoken.conversation; placed = up_placed p places h c.spoken.conversation c.spoken.placed };
      whole = whole;
    }

-- ---- What is told.

alone_pair : (t : SpokenPair) (own : SpokenTurn) → t.primary ≡ Some own → t.secondary ≡ None → pair_of t ≡ spoken_alone (spoken_of own)
alone_pair t own e f = rw (e, f) refl

told_alone : (p : Plan) (h : PairHistory) → IsPairConversation p [] h → spoken_pairs h ≡ map spoken_alone (spoken_turns (up h))
told_alone p [] c = refl
told_alone p (t ∷ past) c =
    let a = is_alone p past t c.0 in
    let pair : pair_of t ≡ spoken_alone (spoken_of a.own) = alone_pair t a.own a.primary_is a.secondary_is in
    let alone : map spoken_alone (spoken_turns (up (t ∷ past))) ≡ map spoken_alone (spoken_turns (up past)) ++ spoken_alone (spoken_of a.own) ∷ [] =
    ap (λ h. map spoken_alone (spoken_turns h)) (up_more t past a.own a.primary_is) ∙ ap (map spoken_alone) (one_more spoken_of a.own (up past)) ∙ map-append spoken_alone (spoken_turns (up past)) (spoken_of a.own ∷ []) in
    one_more pair_of t past ∙ ap (λ xs. xs ++ pair_of t ∷ []) (told_alone p past c.1) ∙ ap (λ x. map spoken_alone (spoken_turns (up past)) ++ x ∷ []) pair ∙ sym alone

abbrev told_of : List Job → ℕ → Option Outcome → Told
told_of handed counted ending = record { handed = handed; counted = counted; ending = ending }

same_fields : (a b : List Job) (m n : ℕ) (x y : Option Outcome) → a ≡ b → m ≡ n → x ≡ y → told_of a m x ≡ told_of b n y
same_fields a b m n x y e f g = rw (e, f, g) refl

abbrev nothing_told : Told
nothing_told = record { handed = []; counted = 0; ending = Some Outcome.Done }

same_told : (d : Told) → d.handed ≡ [] → d.counted ≡ 0 → d.ending ≡ Some Outcome.Done → d ≡ nothing_told
same_told d a b c = same_fields d.handed [] d.counted 0 d.ending (Some Outcome.Done) a b c

pub without_down_jobs : WithoutDownJobs
without_down_jobs jobs turns spoken u d run =
    let h = run.history in
    let c = run.conversation.conversation in
    let p = plan_of (blocks jobs) in
    let silent : down h ≡ [] = no_down p h c.spoken.conversation in
    record {
      alone = spoken_turns (up h);
      spoken_is = run.spoken_is ∙ told_alone p h c.spoken.conversation;
      run = record {
        history = up h;
        places = map sounds run.places;
        conversation = record {
          told = tells_one turns run.places run.conversation.told;
          conversation = up_over p run.places h c;
          fits = up_fits (blocks jobs) turns h c.spoken.conversation run.conversation.fits;
        };
        spoken_is = refl;
        handed_is = run.up_side.handed_is;
        counted_is = run.up_side.counted_is;
        ending_is = run.up_ending;
      };
      down = same_told d (run.down_side.handed_is ∙ rw silent refl) (run.down_side.counted_is ∙ rw silent refl) run.down_ending;
    }
