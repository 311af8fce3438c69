use Rattle.std.proofs.Common.{◌≡◌, ◌≢◌, length, get_or, rules, arith}
use Rattle.std.proofs.lemmas.Bool.Decides.{nat_tests}
use Rattle.bsc_check.specs.Check.{check_of}
use Rattle.bsc_frame.specs.Body.{covered}
use Rattle.rje_monitor.proofs.ItemsRead.{check_none, check_two, check_first, check_other}
use Rattle.rje_monitor.proofs.reason.reason_at_check.Goals as goal

pub returns-then-is_empty : goal.returns-then-is_empty
returns-then-is_empty c = λ bytes at. check_none c.args.block.now bytes c.args.rest.now at (grind (arith, nat_tests))

pub returns-then-rest-ne1 : goal.returns-then-rest-ne1
returns-then-rest-ne1 c = λ bytes at. check_two c.args.block.now bytes c.args.rest.now at (grind (arith, nat_tests)) (grind (arith, nat_tests))

pub returns-then-rest-first_of_check : goal.returns-then-rest-first_of_check
returns-then-rest-first_of_check c = λ bytes at.
    let one : length c.args.rest.now ≡ 1 = grind (arith, nat_tests) in
    let same : get_or c.args.rest.now 0 0 ≡ get_or (check_of (covered c.args.block.now.text.items c.args.block.now.closing)) 0 0 = search rules in
    check_first c.args.block.now bytes c.args.rest.now at one same

pub returns-else-rest-first_of_check : goal.returns-else-rest-first_of_check
returns-else-rest-first_of_check c = λ bytes at.
    let one : length c.args.rest.now ≡ 1 = grind (arith, nat_tests) in
    let other : get_or c.args.rest.now 0 0 ≢ get_or (check_of (covered c.args.block.now.text.items c.args.block.now.closing)) 0 0 = search rules in
    check_other c.args.block.now bytes c.args.rest.now at one other
