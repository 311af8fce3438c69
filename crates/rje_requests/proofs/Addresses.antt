-- What a text that is read as an address tells.
use Rattle.std.proofs.Common.{◌≡◌, ◌↔◌, Bool, IsTrue, List, ℕ, Result, Ok, Err, is_ok, sym, ap, ◌∙◌, subst}
use Rattle.std.specs.Str.{bytes_eq}
use Rattle.std.specs.Net.Addr.{ipv4_octets}
use Rattle.std.specs.Net.Grammar.{IsDotted, IsIpv4Text, Parses}
use Rattle.std.specs.declared.net.ipv4_addr.Ipv4Addr.{Ipv4Addr}
use Rattle.std.proofs.lemmas.Bool.{false≢true}
use Rattle.std.proofs.lemmas.Slice.Eq.{bytes_eq-Decides}
use Rattle.std.proofs.NetLemmas.Theorems.{IsIpv4Text_unique}
use Rattle.rje_requests.specs.Callers.{IsAddress}

pub address_told : {E : Type 0} (text : List ℕ) (r : Result Ipv4Addr E) (b : Bool) → b ≡ is_ok r → Parses IsIpv4Text text r → IsTrue b ↔ IsAddress text
address_told text (Ok address) b is h = ((λ _. (address, h)), (λ _. is))
address_told text (Err error) b is h = ((λ e. absurd (false≢true (sym is ∙ e))), (λ some. absurd (h some.0 some.1)))

pub text_told : (text : List ℕ) (written address : Ipv4Addr) (b : Bool) → b ≡ bytes_eq (ipv4_octets written) (ipv4_octets address)
    → IsIpv4Text text written → IsTrue b ↔ IsIpv4Text text address
text_told text written address b is h =
    let same = bytes_eq-Decides (ipv4_octets written) (ipv4_octets address) in (
      (λ e. subst (IsDotted text) (same.0 (sym is ∙ e)) h),
      (λ k. is ∙ same.1 (ap ipv4_octets (IsIpv4Text_unique text written address h k))),
    )
