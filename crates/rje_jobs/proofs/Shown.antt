-- The program's table is what is shown of each byte.
use Rattle.std.proofs.Common.{◌≡◌, ℕ, ◌<◌, get_or, map, refl, ap, ◌∙◌, arith}
use Rattle.std.specs.List.{range_with_len}
use Rattle.std.proofs.lemmas.List.FromFn.{get_or-map-range_with_len}
use Rattle.bsc_codes.specs.CodePage.{ascii_of, page_037}
use Rattle.rje_jobs.specs.declared.ascii.TheConstants.{SHOWN}
use Rattle.rje_jobs.specs.Ascii.{shown}

-- the whole table, computed
table_is : SHOWN ≡ map shown (range_with_len 0 256)
unfolding ascii_of page_037
table_is = refl

-- so each entry is what is shown of its place
pub entry_is : (byte : ℕ) → byte < 256 → get_or SHOWN byte 0 ≡ shown byte
entry_is byte h = ap (λ t. get_or t byte 0) table_is ∙ get_or-map-range_with_len shown 0 256 byte byte 0 h (omega arith)
