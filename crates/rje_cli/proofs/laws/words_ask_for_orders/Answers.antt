use Rattle.rje_cli.proofs.CardsWords.{cards_asked}
use Rattle.rje_cli.proofs.FileWords.{blocks_asked, show_asked, check_asked, print_asked, try_asked, monitor_asked}
use Rattle.rje_cli.proofs.ReceiveWords.{receive_asked}
use Rattle.rje_cli.proofs.SendWords.{send_asked}
use Rattle.rje_cli.proofs.StatusWords.{status_asked}
use Rattle.rje_cli.proofs.laws.words_ask_for_orders.Goals as goal

pub returns : goal.returns
returns c = record { blocks = blocks_asked; show = show_asked; check = check_asked; print = print_asked; attempt = try_asked; monitor = monitor_asked; cards = cards_asked; receive = receive_asked; send = send_asked; status = status_asked }
