-- Calls, one after another.
use Rattle.std.proofs.Common.{◌≡◌, ℕ, List, [], ◌∷◌, ◌++◌, Result, Ok, Err, OnOk, refl, sym, ap, subst}
use Rattle.rje_store.specs.Disk.{Asked, Call, SyncFolder, call_of}
use Rattle.rje_store.specs.Replacing.{Adds, Each}
use Rattle.rje_store.specs.Inside.Filling.{AddsSync}

-- to put names on disk is one call more
pub sync_added : (P : Call → List Asked → Type 0) (path : List ℕ) (a b : List Asked) → P (SyncFolder path) a → AddsSync path a b → Adds P a b
sync_added P path a b may (asked, made, call) = (asked ∷ [], made, (subst (λ c. P c a) (sym call) may, tt))

-- what holds where a call was done
pub ok_turn : {A E : Type 0} (P Q : Type 0) (r : Result A E) → (P → Q) → OnOk r P → OnOk r Q
ok_turn P Q (Ok _) f p = f p
ok_turn P Q (Err _) f p = tt

-- what each of some calls leaves so holds before each of them, and after them
each_stays : (P : Call → List Asked → Type 0) (S : List Asked → Type 0) → ((asked : Asked) (before : List Asked) → P (call_of asked) before → S before → S (asked ∷ before))
    → (calls before : List Asked) → Each P calls before → S before → Each (λ call b. P call b × S b) calls before × S (calls ++ before)
each_stays P S step [] before each s = (tt, s)
each_stays P S step (asked ∷ calls) before (one, each) s =
    let rest : Each (λ call b. P call b × S b) calls before × S (calls ++ before) = each_stays P S step calls before each s in
    (((one, rest.1), rest.0), step asked (calls ++ before) one rest.1)

pub added_stays : (P : Call → List Asked → Type 0) (S : List Asked → Type 0) → ((asked : Asked) (before : List Asked) → P (call_of asked) before → S before → S (asked ∷ before))
    → (a b : List Asked) → Adds P a b → S a → Adds (λ call before. P call before × S before) a b × S b
added_stays P S step a b (calls, e, each) s =
    let rest : Each (λ call before. P call before × S before) calls a × S (calls ++ a) = each_stays P S step calls a each s in
    ((calls, e, rest.0), subst S (sym e) rest.1)
