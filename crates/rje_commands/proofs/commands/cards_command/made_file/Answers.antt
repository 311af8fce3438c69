use Rattle.std.proofs.Common.{◌≡◌, ℕ, List, [], ◌∷◌, None, refl, subst}
use Rattle.rje_text.specs.declared.mode.Mode.{Mode}
use Rattle.rje_text.specs.declared.select.Select.{Select}
use Rattle.rje_text.specs.declared.record.Record.{Record}
use Rattle.rje_files.specs.declared.job_file.version.FileVersion.TheVariants.{Second}
use Rattle.rje_files.specs.Entry.{entry_of_cards}
use Rattle.rje_files.specs.JobFile.{IsEntryFileOf}
use Rattle.rje_requests.specs.Device.{select_of, writing}
use Rattle.rje_requests.specs.declared.order.CardsOrder.{CardsOrder}
use Rattle.rje_commands.specs.Inside.Commands.{cards_entry, IsMade}
use Rattle.rje_commands.proofs.commands.cards_command.made_file.Goals as goal

-- the file of the job of the cards alone, where nothing is held
alone : (order : CardsOrder) (cards : List Record) (bytes : List ℕ) (select : Select) (mode : Mode) → select ≡ select_of order.device → mode ≡ writing order.device
    → IsEntryFileOf Second (entry_of_cards order.name select mode cards ∷ []) bytes → IsMade None (cards_entry order cards) bytes
alone order cards bytes select mode is writes file =
    let of_device : IsEntryFileOf Second (entry_of_cards order.name (select_of order.device) mode cards ∷ []) bytes =
    subst (λ (select : Select). IsEntryFileOf Second (entry_of_cards order.name select mode cards ∷ []) bytes) is file in (
      [],
      refl,
      subst (λ (mode : Mode). IsEntryFileOf Second (entry_of_cards order.name (select_of order.device) mode cards ∷ []) bytes) writes of_device,
    )

pub returns-in-Ok-clause-file : goal.returns-in-Ok-clause-file
returns-in-Ok-clause-file c =
    rw c.in-None.is (alone c.args.order c.args.cards _ _ _ c.select-select.ensures.selection c.mode-mode.ensures.writing c.in-Ok.ensures.file)
