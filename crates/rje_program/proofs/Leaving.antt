-- What an order leaves of the files is what the words that ask for it do.
use Rattle.std.proofs.Common.{ℕ, List, Option, inl, inr}
use Rattle.rje_requests.specs.declared.order.FileOrder.{FileOrder}
use Rattle.rje_requests.specs.declared.order.Order.TheVariants.{Files}
use Rattle.rje_cli.specs.Asking.{AsksFor}
use Rattle.rje_commands.specs.Commands.{Leaves}
use Rattle.rje_program.specs.Command.{LeavesAsAsked}
use Rattle.rje_store.specs.Store.{FileMap}

pub leaves : (words : List (List ℕ)) (order : FileOrder) (f g : Option FileMap) (input : Option (List ℕ))
    → AsksFor words (Files order) → Leaves order f g input → LeavesAsAsked words f g input
leaves words (FileOrder.Cards order) f g input asked (inl same) = inl same
leaves words (FileOrder.Cards order) f g input asked (inr made) = inr (inl (order, asked, made))
leaves words (FileOrder.Blocks deck) f g input asked same = inl same
leaves words (FileOrder.Show jobs) f g input asked same = inl same
leaves words (FileOrder.Check jobs) f g input asked same = inl same
leaves words (FileOrder.Print jobs) f g input asked same = inl same
leaves words (FileOrder.Try order) f g input asked same = inl same
leaves words (FileOrder.Monitor order) f g input asked same = inl same
leaves words (FileOrder.Take order) f g input asked (inl same) = inl same
leaves words (FileOrder.Take order) f g input asked (inr made) = inr (inr (inl (order, asked, made)))
leaves words (FileOrder.Mark order) f g input asked (inl same) = inl same
leaves words (FileOrder.Mark order) f g input asked (inr made) = inr (inr (inr (order, asked, made)))
