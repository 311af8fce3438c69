-- A listing of blocks as it grows.
use Rattle.std.proofs.Common.{◌≡◌, ℕ, ◌+◌, ◌<◌, ◌≤◌, ◌^◌, ◌⊎◌, inl, inr, List, [], ◌∷◌, ◌++◌, length, Option, Some, None, true, false, refl, ap, ap₂, sym, ◌∙◌, subst, arith}
use Rattle.std.specs.Prelude.{option_to_list}
use Rattle.std.specs.List.{AllByRecursion, flat_map}
use Rattle.std.proofs.lemmas.List.{append_assoc, append-nil, length-append}
use Rattle.std.proofs.lemmas.List.Sums.{sum_by-cons}
use Rattle.bsc_codes.specs.declared.block.Block.{Block}
use Rattle.rje_text.specs.declared.mode.Mode.{Mode}
use Rattle.rje_text.specs.declared.mode.Mode.TheVariants.{Normal}
use Rattle.rje_text.specs.declared.select.Select.TheVariants.{Unset}
use Rattle.rje_text.specs.declared.record.Record.{Record}
use Rattle.rje_text.specs.declared.unpacked.Unpacked.{Unpacked}
use Rattle.rje_text.specs.Reading.{IsRead}
use Rattle.rje_text.specs.Cut.{cut}
use Rattle.rje_text.specs.PackFault.{pack_fault, RecordsFit}
use Rattle.rje_text.specs.Packing.{Packing, after_close, block_in_hand, has_room, new_packing, packed, with_record}
use Rattle.rje_text.specs.Laws.{AreRead, CutReadsBack, PackingIsTheCut}
use Rattle.rje_print.specs.BlockLines.{block_line, block_lines, back_line}
use Rattle.rje_print.specs.BlockListing.{record_count, CanAdd, CountsBlock, ListsBlocks}
use Rattle.rje_print.specs.Inside.Piece.{PutsOn}
use Rattle.rje_print.proofs.Printed.{appends_nothing, appends_twice}
use Rattle.std.specs.Io.KnownBytes.{Appends}

-- what the listing has, and what the blocks that are left will give, is the listing of the records
pub record IsListed (all : List Record) (left : List Block) (text : List ℕ) (number : ℕ) (so_far : Option Mode) (count : ℕ) : Type 0 where
  pub lines : text ++ block_lines number left ≡ block_lines 1 (cut Unset Normal all)
  pub us : List Unpacked
  pub read : AreRead so_far left us
  pub first : List Unpacked
  pub all_read : AreRead None (cut Unset Normal all) first
  pub counted : count + record_count us ≡ record_count first
  pub whole : record_count first ≡ length all
  pub small : length all < 2 ^ 64

-- the loop over the records: the blocks that are left are those of the records that are left
pub record IsOnTheWay (all : List Record) (p : Packing) (rest : List Record) (text : List ℕ) (number : ℕ) (so_far : Option Mode) (count : ℕ) : Type 0 where
  pub select : p.select ≡ Unset
  pub mode : p.mode ≡ Normal
  pub sent : AllByRecursion (λ r. pack_fault Unset Normal r ≡ None) rest
  pub listed : IsListed all (packed p rest) text number so_far count

count_first : (u : Unpacked) (us : List Unpacked) → record_count (u ∷ us) ≡ length u.records + record_count us
count_first u us = sum_by-cons (λ v. length v.records) u us

record_count_is : (us : List Unpacked) → record_count us ≡ length (flat_map (λ u. u.records) us)
record_count_is [] = refl
record_count_is (u ∷ us) =
    count_first u us ∙ ap (λ n. length u.records + n) (record_count_is us) ∙ sym (length-append u.records (flat_map (λ v. v.records) us))

pub begun : (all : List Record) (p : Packing) (rest : List Record) (text : List ℕ) (number : ℕ) (so_far : Option Mode) (count : ℕ)
    → CutReadsBack → PackingIsTheCut → RecordsFit Unset Normal all → length all < 2 ^ 64
    → p ≡ new_packing Unset Normal → rest ≡ all → text ≡ [] → number ≡ 1 → so_far ≡ None → count ≡ 0
    → IsOnTheWay all p rest text number so_far count
begun all p rest text number so_far count reads_back packs fits small p_is rest_is text_is number_is so_far_is count_is =
    let (us, read, job) = reads_back Unset Normal all fits in
    let blocks : packed p rest ≡ cut Unset Normal all = ap₂ packed p_is rest_is ∙ packs Unset Normal all in
    let total : record_count us ≡ length all = record_count_is us ∙ ap length job.all in
    record {
      select = ap (λ (v : Packing). v.select) p_is;
      mode = ap (λ (v : Packing). v.mode) p_is;
      sent = subst (AllByRecursion (λ r. pack_fault Unset Normal r ≡ None)) (sym rest_is) fits.sent;
      listed = record {
        lines = ap₂ (λ (xs : List ℕ) (n : ℕ). xs ++ block_lines n (packed p rest)) text_is number_is ∙ ap (block_lines 1) blocks;
        us = us;
        read = subst (λ o. AreRead o (packed p rest) us) (sym so_far_is) (subst (λ bs. AreRead None bs us) (sym blocks) read);
        first = us;
        all_read = read;
        counted = omega (arith, count_is);
        whole = total;
        small = small;
      };
    }

-- what is read of the first block, and of those after it
first_read : (so_far : Option Mode) (b : Block) (bs : List Block) (us : List Unpacked) → AreRead so_far (b ∷ bs) us
    → (u : Unpacked) × (rest : List Unpacked) × (us ≡ u ∷ rest) × IsRead b so_far u × AreRead (Some u.mode) bs rest
first_read so_far b bs [] h = absurd h
first_read so_far b bs (u ∷ us) h = (u, us, refl, h.0, h.1)

module _ (all : List Record) (b : Block) (bs : List Block) (text : List ℕ) (number : ℕ) (so_far : Option Mode) (count : ℕ)
    (h : IsListed all (b ∷ bs) text number so_far count) where
  pub can_add : CanAdd b so_far count
  can_add =
      let (u, rest, us, read, more) = first_read so_far b bs h.us h.read in
      (u, read, omega (arith, h.counted, h.whole, h.small, ap record_count us ∙ count_first u rest))

  same_read : (u v : Unpacked) → IsRead b so_far u → IsRead b so_far v → u ≡ v
  same_read u v g k = same (sym g.0 ∙ k.0)
    where
      same : Some u ≡ Some v → u ≡ v
      same q = cc

  pub added : (later : List ℕ) (after : Option Mode) (more : ℕ) → later ≡ text ++ block_line number b → CountsBlock b so_far after count more
      → IsListed all bs later (number + 1) after more
  added later after more adds counts =
      let (u, rest, us, read, left) = first_read so_far b bs h.us h.read in
      let (v, read_v, after_is, more_is) = counts in
      let same = same_read u v read read_v in
      let mode : after ≡ Some u.mode = after_is ∙ ap (λ (w : Unpacked). Some w.mode) (sym same) in
      let size : length v.records ≡ length u.records = ap (λ (w : Unpacked). length w.records) (sym same) in
      record {
        lines = ap (λ (xs : List ℕ). xs ++ block_lines (number + 1) bs) adds ∙ append_assoc text (block_line number b) (block_lines (number + 1) bs) ∙ h.lines;
        us = rest;
        read = subst (λ o. AreRead o bs rest) (sym mode) left;
        first = h.first;
        all_read = h.all_read;
        counted = omega (arith, h.counted, ap record_count us ∙ count_first u rest, more_is, size);
        whole = h.whole;
        small = h.small;
      }

-- the blocks that are left, as the next record shows them
pub next_blocks : (all : List Record) (p q : Packing) (r : Record) (rest items : List Record) (o : Option Block) (text : List ℕ) (number : ℕ) (so_far : Option Mode) (count : ℕ)
    → IsOnTheWay all p items text number so_far count → items ≡ r ∷ rest → packed p (r ∷ rest) ≡ option_to_list o ++ packed q rest
    → IsListed all (option_to_list o ++ packed q rest) text number so_far count
next_blocks all p q r rest items o text number so_far count h items_are blocks =
    subst (λ bs. IsListed all bs text number so_far count) (ap (packed p) items_are ∙ blocks) h.listed

-- a record that finds the block in hand full goes into the next
pub full_next : (p tried closed : Packing) (r : Record) (rest : List Record) (b : Block) → has_room p r ≡ false → tried ≡ p → b ≡ block_in_hand tried false → closed ≡ after_close tried false
    → packed p (r ∷ rest) ≡ b ∷ packed (with_record closed r) rest
full_next p tried closed r rest b room same block after =
    let block_is : b ≡ block_in_hand p false = block ∙ ap (λ (x : Packing). block_in_hand x false) same in
    let closed_is : closed ≡ after_close p false = after ∙ ap (λ (x : Packing). after_close x false) same in
    rw room (ap₂ (λ (x : Block) (y : Packing). x ∷ packed (with_record y r) rest) (sym block_is) (sym closed_is))

pub sent_first : (r : Record) (rest items : List Record) → items ≡ r ∷ rest → AllByRecursion (λ x. pack_fault Unset Normal x ≡ None) items
    → (pack_fault Unset Normal r ≡ None) × AllByRecursion (λ x. pack_fault Unset Normal x ≡ None) rest
sent_first r rest items e h = subst (AllByRecursion (λ x. pack_fault Unset Normal x ≡ None)) e h

-- where no record is left, the last block is
pub last_block : (all : List Record) (p : Packing) (items : List Record) (b : Block) (text : List ℕ) (number : ℕ) (so_far : Option Mode) (count : ℕ)
    → IsOnTheWay all p items text number so_far count → items ≡ [] → b ≡ block_in_hand p true → IsListed all (b ∷ []) text number so_far count
last_block all p items b text number so_far count h none block =
    subst (λ bs. IsListed all bs text number so_far count) (ap (packed p) none ∙ ap (λ x. x ∷ []) (sym block)) h.listed

-- the listing of all blocks and its last line
pub ended : (all : List Record) (text whole : List ℕ) (number count : ℕ) (so_far : Option Mode) → IsListed all [] text number so_far count
    → whole ≡ text ++ back_line count → ListsBlocks all whole
ended all text whole number count so_far h e =
    let none : h.us ≡ [] = nothing so_far h.us h.read in
    let lines : text ≡ block_lines 1 (cut Unset Normal all) = sym (append-nil text) ∙ h.lines in
    let total : count ≡ record_count h.first = omega (arith, h.counted, ap record_count none) in
    record { us = h.first; read = h.all_read; same = e ∙ ap₂ (λ (xs : List ℕ) (n : ℕ). xs ++ back_line n) lines total }
  where
    nothing : (so_far : Option Mode) (us : List Unpacked) → AreRead so_far [] us → us ≡ []
    nothing so_far [] h = refl
    nothing so_far (u ∷ us) h = absurd h

-- WHAT WAS WRITTEN

-- there are fewer lines than records that were taken, as the first record fills no block
abbrev pub AreFewer : (all rest : List Record) (p : Packing) (lines : ℕ) → Type 0
AreFewer all rest p lines = (lines + length rest + 1 ≤ length all) ⊎ ((lines ≡ 0) × (length p.text ≤ 363) × (length rest ≡ length all))

-- the loop over the records: what was written and what is in hand is the listing so far
pub record IsPrinting (before now : Option (List ℕ)) (all : List Record) (p : Packing) (rest : List Record) (held : List ℕ) (lines : ℕ) (so_far : Option Mode) (count : ℕ) : Type 0 where
  pub sent : List ℕ
  pub written : Appends before now sent
  pub way : IsOnTheWay all p rest (sent ++ held) (lines + 1) so_far count
  pub few : AreFewer all rest p lines

-- what is in hand after what was written, when some of it and of a line was written
pub put_on : (sent more held left line : List ℕ) → more ++ left ≡ held ++ line → (sent ++ more) ++ left ≡ (sent ++ held) ++ line
put_on sent more held left line e = append_assoc sent more left ∙ ap (λ (zs : List ℕ). sent ++ zs) e ∙ sym (append_assoc sent held line)

module _ (before now : Option (List ℕ)) (all : List Record) (p : Packing) (items : List Record) (held : List ℕ) (lines : ℕ) (so_far : Option Mode) (count : ℕ)
    (h : IsPrinting before now all p items held lines so_far count) where
  -- the next record, whose packing gives this block
  module _ (q : Packing) (r : Record) (rest : List Record) (b : Block) (items_are : items ≡ r ∷ rest) (blocks : packed p (r ∷ rest) ≡ b ∷ packed q rest) where
    left : IsListed all (b ∷ packed q rest) (h.sent ++ held) (lines + 1) so_far count
    left = next_blocks all p q r rest items (Some b) (h.sent ++ held) (lines + 1) so_far count h.way items_are blocks

    pub can_print : CanAdd b so_far count
    can_print = can_add all b (packed q rest) (h.sent ++ held) (lines + 1) so_far count left

    fewer : (length p.text ≤ 363 → ⊥) → lines + length rest + 2 ≤ length all
    fewer full = go h.few
      where
        go : AreFewer all items p lines → lines + length rest + 2 ≤ length all
        go (inl less) = omega (arith, less, ap length items_are)
        go (inr first) = absurd (full first.1)

    pub may_count : (length p.text ≤ 363 → ⊥) → length all < 2 ^ 64 → lines + 1 < 2 ^ 64
    may_count full few = omega (arith, fewer full, few)

    pub printed : (now_more : Option (List ℕ)) (held_more : List ℕ) (lines_more : ℕ) (after : Option Mode) (more : ℕ) → q.select ≡ p.select → q.mode ≡ p.mode → (length p.text ≤ 363 → ⊥)
        → PutsOn now now_more held held_more (block_line (lines + 1) b) → lines_more ≡ lines + 1 → CountsBlock b so_far after count more
        → IsPrinting before now_more all q rest held_more lines_more after more
    printed now_more held_more lines_more after more select mode full puts one_more counts =
        subst (λ (n : ℕ). IsPrinting before now_more all q rest held_more n after more) (sym one_more) (record {
          sent = h.sent ++ puts.0;
          written = appends_twice before now now_more h.sent puts.0 h.written puts.1;
          way = record {
            select = select ∙ h.way.select;
            mode = mode ∙ h.way.mode;
            sent = (sent_first r rest items items_are h.way.sent).1;
            listed = added all b (packed q rest) (h.sent ++ held) (lines + 1) so_far count left ((h.sent ++ puts.0) ++ held_more) after more
                (put_on h.sent puts.0 held held_more (block_line (lines + 1) b) puts.2) counts;
          };
          few = inl (omega (arith, fewer full));
        })

  -- where no record is left, the last block
  module _ (b : Block) (none : items ≡ []) (block : b ≡ block_in_hand p true) where
    last : IsListed all (b ∷ []) (h.sent ++ held) (lines + 1) so_far count
    last = last_block all p items b (h.sent ++ held) (lines + 1) so_far count h.way none block

    pub can_print_last : CanAdd b so_far count
    can_print_last = can_add all b [] (h.sent ++ held) (lines + 1) so_far count last

    pub may_count_last : length all < 2 ^ 64 → lines + 1 < 2 ^ 64
    may_count_last few = go h.few
      where
        go : AreFewer all items p lines → lines + 1 < 2 ^ 64
        go (inl less) = omega (arith, less, few)
        go (inr first) = omega (arith, first.0)

    pub printed_all : (now_more now_all : Option (List ℕ)) (held_more : List ℕ) (after : Option Mode) (more : ℕ)
        → PutsOn now now_more held held_more (block_line (lines + 1) b) → CountsBlock b so_far after count more → Appends now_more now_all (held_more ++ back_line more)
        → (text : List ℕ) × ListsBlocks all text × Appends before now_all text
    printed_all now_more now_all held_more after more puts counts end =
        let listed = added all b [] (h.sent ++ held) (lines + 1) so_far count last ((h.sent ++ puts.0) ++ held_more) after more
        (put_on h.sent puts.0 held held_more (block_line (lines + 1) b) puts.2) counts in
        let sent = h.sent ++ puts.0 in (
          sent ++ (held_more ++ back_line more),
          ended all (sent ++ held_more) (sent ++ (held_more ++ back_line more)) (lines + 1 + 1) more after listed (sym (append_assoc sent held_more (back_line more))),
          appends_twice before now_more now_all sent (held_more ++ back_line more) (appends_twice before now now_more h.sent puts.0 h.written puts.1) end,
        )

pub begun_printing : (a : Option (List ℕ)) (all : List Record) (p : Packing) (rest : List Record) (held : List ℕ) (lines : ℕ) (so_far : Option Mode) (count : ℕ)
    → CutReadsBack → PackingIsTheCut → RecordsFit Unset Normal all → length all < 2 ^ 64
    → p ≡ new_packing Unset Normal → rest ≡ all → held ≡ [] → lines ≡ 0 → so_far ≡ None → count ≡ 0
    → IsPrinting a a all p rest held lines so_far count
begun_printing a all p rest held lines so_far count reads_back packs fits small p_is rest_is held_is lines_is so_far_is count_is = record {
  sent = [];
  written = appends_nothing a;
  way = begun all p rest held (lines + 1) so_far count reads_back packs fits small p_is rest_is held_is (omega (arith, lines_is)) so_far_is count_is;
  few = inr (lines_is, omega (arith, ap (λ (v : Packing). length v.text) p_is), ap length rest_is);
}
