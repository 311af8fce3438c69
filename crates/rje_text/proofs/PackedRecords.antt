-- Records that stand behind one another stay what they are when more bytes come after them.
use Rattle.std.proofs.Common.{◌≡◌, ℕ, ◌+◌, ◌<◌, ◌≤◌, ◌^◌, List, [], ◌∷◌, ◌++◌, length, map, take, drop, refl, ap, sym, ◌∙◌, arith}
use Rattle.std.proofs.Common.{Result, Ok, Err}
use Rattle.std.specs.Result.{OnOk, OnErr}
use Rattle.std.specs.List.{All}
use Rattle.std.proofs.lemmas.List.{length-append, length-drop, map-append, drop-append-le, take-append-le, take_all}
use Rattle.std.proofs.lemmas.List.Elements.{All-head, All-tail, All-append, All-push, All-map}
use Rattle.std.proofs.Math.Seq.{drop-append_seam, drop-append-add, take-append_seam}
use Rattle.rje_text.specs.declared.action.Action.{Action}
use Rattle.rje_text.specs.declared.extent.Extent.{Extent}
use Rattle.rje_text.specs.declared.record.Record.{Record}
use Rattle.rje_text.specs.Packed.{IsWithin, record_of_extent, records_of_extents, moved}
use Rattle.rje_text.specs.Records.{record_of_data}

kept_one : (bytes more : List ℕ) (e : Extent) → IsWithin bytes e → record_of_extent (bytes ++ more) e ≡ record_of_extent bytes e
kept_one bytes more e w =
    ap (λ (data' : List ℕ). record_of_data e.action (take e.length data')) (drop-append-le e.start bytes more (omega (arith, w.end)))
    ∙ ap (record_of_data e.action) (take-append-le e.length (drop e.start bytes) more (omega (arith, w.end, length-drop e.start bytes)))

-- with more bytes after them the records are the same
pub kept : (bytes more : List ℕ) (es : List Extent) → All (IsWithin bytes) es → records_of_extents (bytes ++ more) es ≡ records_of_extents bytes es
kept bytes more [] h = refl
kept bytes more (e ∷ es) h =
    ap (λ (r : Record). r ∷ records_of_extents (bytes ++ more) es) (kept_one bytes more e (All-head (IsWithin bytes) e es h))
    ∙ ap (λ (rs : List Record). record_of_extent bytes e ∷ rs) (kept bytes more es (All-tail (IsWithin bytes) e es h))

pub still_within : (bytes more : List ℕ) (es : List Extent) → All (IsWithin bytes) es → All (IsWithin (bytes ++ more)) es
still_within bytes more es h k d l = record { end = omega (arith, (h k d l).end, length-append bytes more); limit = (h k d l).limit }

-- data that are put behind the bytes, as a record
pub pushed_one : (bytes items : List ℕ) (action : Action)
    → record_of_extent (bytes ++ items) (record { start = length bytes; length = length items; action = action }) ≡ record_of_data action items
pushed_one bytes items action =
    ap (λ (data' : List ℕ). record_of_data action (take (length items) data')) (drop-append_seam bytes items)
    ∙ ap (record_of_data action) (take_all (length items) items (omega arith))

pub pushed : (bytes items : List ℕ) (es : List Extent) (action : Action) → All (IsWithin bytes) es
    → records_of_extents (bytes ++ items) (es ++ record { start = length bytes; length = length items; action = action } ∷ [])
    ≡ records_of_extents bytes es ++ record_of_data action items ∷ []
pushed bytes items es action h =
    map-append (record_of_extent (bytes ++ items)) es _
    ∙ ap (λ (rs : List Record). rs ++ record_of_extent (bytes ++ items) (record { start = length bytes; length = length items; action = action }) ∷ []) (kept bytes items es h)
    ∙ ap (λ (r : Record). records_of_extents bytes es ++ r ∷ []) (pushed_one bytes items action)

pub pushed_within : (bytes items : List ℕ) (es : List Extent) (action : Action) → All (IsWithin bytes) es → length items ≤ 144
    → All (IsWithin (bytes ++ items)) (es ++ record { start = length bytes; length = length items; action = action } ∷ [])
pushed_within bytes items es action h l =
    All-push (IsWithin (bytes ++ items)) es _ (still_within bytes items es h) (record { end = omega (arith, length-append bytes items); limit = l })

moved_one : (bytes more : List ℕ) (e : Extent) → record_of_extent (bytes ++ more) (moved (length bytes) e) ≡ record_of_extent more e
moved_one bytes more e = ap (λ (data' : List ℕ). record_of_data e.action (take e.length data')) (drop-append-add bytes more e.start)

all_moved : (bytes more : List ℕ) (es : List Extent) → records_of_extents (bytes ++ more) (map (moved (length bytes)) es) ≡ records_of_extents more es
all_moved bytes more [] = refl
all_moved bytes more (e ∷ es) =
    ap (λ (r : Record). r ∷ records_of_extents (bytes ++ more) (map (moved (length bytes)) es)) (moved_one bytes more e)
    ∙ ap (λ (rs : List Record). record_of_extent more e ∷ rs) (all_moved bytes more es)

-- records that are put behind others
pub appended : (bytes more : List ℕ) (es fs : List Extent) → All (IsWithin bytes) es
    → records_of_extents (bytes ++ more) (es ++ map (moved (length bytes)) fs) ≡ records_of_extents bytes es ++ records_of_extents more fs
appended bytes more es fs h =
    map-append (record_of_extent (bytes ++ more)) es (map (moved (length bytes)) fs)
    ∙ ap (λ (rs : List Record). rs ++ records_of_extents (bytes ++ more) (map (moved (length bytes)) fs)) (kept bytes more es h)
    ∙ ap (λ (rs : List Record). records_of_extents bytes es ++ rs) (all_moved bytes more fs)

pub appended_within : (bytes more : List ℕ) (es fs : List Extent) → All (IsWithin bytes) es → All (IsWithin more) fs
    → All (IsWithin (bytes ++ more)) (es ++ map (moved (length bytes)) fs)
appended_within bytes more es fs h g =
    All-append (IsWithin (bytes ++ more)) es (map (moved (length bytes)) fs) (still_within bytes more es h)
    (All-map (IsWithin (bytes ++ more)) (moved (length bytes)) fs (λ k d l. record { end = omega (arith, (g k d l).end, length-append bytes more); limit = (g k d l).limit }))

-- the places of the extents behind others fit
pub places_fit : (n : ℕ) (more : List ℕ) (fs : List Extent) → All (IsWithin more) fs → n + length more < 2 ^ 64 → All (λ e. n + e.start < 2 ^ 64) fs
places_fit n more fs g h k d l = omega (arith, (g k d l).end, h)

-- what holds anyhow holds after an error
pub after_error : {T E P : Type 0} (r : Result T E) → P → OnErr r P
after_error (Ok x) p = tt
after_error (Err e) p = p

pub after_success : {T E P : Type 0} (r : Result T E) → P → OnOk r P
after_success (Ok x) p = p
after_success (Err e) p = tt

-- what is written over a whole list is what stands there then
pub written_back : (n : ℕ) (old new : List Extent) → n ≡ length old → length new ≡ length old → take n (new ++ drop (length new) old) ≡ new
written_back n old new e f = ap (λ (k : ℕ). take k (new ++ drop (length new) old)) (e ∙ sym f) ∙ take-append_seam new (drop (length new) old)
