use Rattle.std.proofs.Common.{◌≡◌, ◌++◌, List, [], ◌∷◌, length, cond, leb, refl, ap, ap₂}
use Rattle.bsc_codes.specs.declared.block.Block.{Block}
use Rattle.bsc_codes.specs.declared.block.Closing.TheVariants.{Etb}
use Rattle.rje_text.specs.declared.record.Record.{Record}
use Rattle.rje_text.specs.Spelling.{spelling}
use Rattle.rje_text.specs.Cut.{block, cut_behind, cut}
use Rattle.rje_text.specs.Packing.{Packing, new_packing, with_record, after_close, packed}
use Rattle.rje_text.proofs.laws.packing_is_the_cut.Goals as goal
use Rattle.std.proofs.Common.{false}

packed-cut : (p : Packing) (records : List Record) → packed p records ≡ cut_behind p.mode p.text records
packed-cut p [] = refl
packed-cut p (r ∷ rs) =
    ap₂ (λ (xs ys : List Block). cond (leb (length (p.text ++ spelling p.mode r)) 510) xs ys)
    (packed-cut (with_record p r) rs) (ap (λ bs. block p.mode Etb p.text ∷ bs) (packed-cut (with_record (after_close p false) r) rs))

pub returns : goal.returns
unfolding cut
returns c = λ select mode records. packed-cut (new_packing select mode) records
