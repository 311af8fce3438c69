-- What a sound may come as, whatever its fate.
use Rattle.std.proofs.Common.{◌≡◌, ◌≢◌, ◌⊎◌, inl, inr, Some, refl, sym, ◌∙◌}
use Rattle.std.proofs.lemmas.Option.{same_Some}
use Rattle.bsc_link.specs.declared.sound.Sound.{Sound}
use Rattle.bsc_history.specs.declared.sound_fate.SoundFate.{SoundFate}
use Rattle.bsc_history.specs.Fate.{after_fate, MayBeHeardAs}

-- by cases on what was said: a block never comes as an EOT, a TTD neither as a block nor as an EOT, and any other sound as itself, as noise or
-- as nothing
abbrev pub ComesAs : Sound → Sound → Type 0
ComesAs Sound.Quiet heard = heard ≡ Sound.Quiet
ComesAs Sound.Block heard = heard ≢ Sound.Eot
ComesAs Sound.Ttd heard = (heard ≢ Sound.Block) × (heard ≢ Sound.Eot)
ComesAs said heard = (heard ≡ said) ⊎ ((heard ≡ Sound.Quiet) ⊎ (heard ≡ Sound.Noise))

differs : (x y z : Sound) → Some x ≡ Some y → x ≢ z → y ≢ z
differs x y z e f = λ g. f (same_Some x y e ∙ g)

comes-whole : (said : Sound) → ComesAs said said
comes-whole Sound.Quiet = refl
comes-whole Sound.Block = λ e. cc
comes-whole Sound.Ttd = (λ e. cc, λ e. cc)
comes-whole _ = inl refl

comes-lost : (said : Sound) → ComesAs said Sound.Quiet
comes-lost Sound.Quiet = refl
comes-lost Sound.Block = λ e. cc
comes-lost Sound.Ttd = (λ e. cc, λ e. cc)
comes-lost _ = inr (inl refl)

comes-damaged : (said heard x : Sound) → said ≢ Sound.Quiet → after_fate (SoundFate.Damaged heard) said ≡ Some x → ComesAs said x
comes-damaged Sound.Quiet heard x f e = absurd (f refl)
comes-damaged Sound.Block Sound.Block x f e = cc
comes-damaged Sound.Block Sound.Eot x f e = cc
comes-damaged Sound.Block heard x f e = differs heard x Sound.Eot e (λ g. cc)
comes-damaged Sound.Ttd Sound.Block x f e = cc
comes-damaged Sound.Ttd Sound.Eot x f e = cc
comes-damaged Sound.Ttd heard x f e = (differs heard x Sound.Block e (λ g. cc), differs heard x Sound.Eot e (λ g. cc))
comes-damaged said Sound.Noise x f e = inr (inr (sym (same_Some Sound.Noise x e)))
comes-damaged said Sound.Quiet x f e = inr (inl (sym (same_Some Sound.Quiet x e)))
comes-damaged said heard x f e = cc

comes-after : (fate : SoundFate) (said x : Sound) → after_fate fate said ≡ Some x → ComesAs said x
comes-after fate Sound.Quiet x e = sym (same_Some Sound.Quiet x e)
comes-after SoundFate.Arrives said x e = rw (← same_Some said x e) (comes-whole said)
comes-after SoundFate.Lost said x e = rw (← same_Some Sound.Quiet x e) (comes-lost said)
comes-after (SoundFate.Damaged heard) said x e = comes-damaged said heard x (λ f. cc) e

-- what is lost isn't heard
pub lost-after : (said : Sound) → after_fate SoundFate.Lost said ≡ Some Sound.Quiet
lost-after Sound.Quiet = refl
lost-after _ = refl

pub comes : (said heard : Sound) → MayBeHeardAs said heard → ComesAs said heard
comes said heard (fate, e) = comes-after fate said heard e
