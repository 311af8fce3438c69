use Rattle.std.proofs.Common.{◌≡◌, ◌+◌, ◌-◌, ◌++◌, true, length, get_or, ap, sym, ◌∙◌, arith}
use Rattle.std.proofs.lemmas.List.{length-drop, get_or-drop, length-take-le}
use Rattle.bsc_codes.specs.Bytes.{DLE}
use Rattle.bsc_frame.specs.Written.{text_without_fill}
use Rattle.bsc_frame.proofs.WrittenRuns.{run_written, dle_written}
use Rattle.bsc_frame.proofs.writer.put_transparent.Goals as goal

pub loop-place-preserved-then-place-text : goal.loop-place-preserved-then-place-text
loop-place-preserved-then-place-text c =
    let text = c.args.text.now in
    let p = c.loop-place.place in
    let n = c.in_front_of_dle-run.result in
    let rest = c.split_at.result.1.now in
    let run = run_written text (c.args.out.now.items ++ text_without_fill true text) c.loop-place.out.items c.append.new.out.items rest c.split_at-in-loop-place.result.0.now p n
    c.loop-place.invariant.written c.split_at.ensures.back c.split_at-in-loop-place.ensures.front c.append.ensures.items c.in_front_of_dle-run.ensures.data c.in_front_of_dle-run.ensures.within in
    let size : length rest ≡ length text - p = ap length c.split_at.ensures.back ∙ length-drop p text in
    let filled : length c.split_at-in-loop-place.result.0.now ≡ n = ap length c.split_at-in-loop-place.ensures.front ∙ length-take-le n rest c.in_front_of_dle-run.ensures.within in
    let dle : get_or text (p + n) 0 ≡ DLE =
    sym (ap (λ xs. get_or xs n 0) c.split_at.ensures.back ∙ get_or-drop p text n 0) ∙ c.in_front_of_dle-run.ensures.at (omega (arith, size, c.if-place-text.true)) in
    record {
      within = omega (arith, c.if-place-text.true);
      written = dle_written text (c.args.out.now.items ++ text_without_fill true text) c.append.new.out.items c.append-then-place-text.new.out.items (p + n) run c.if-place-text.true dle c.append-then-place-text.ensures.items;
      room = omega (arith, filled, c.append.ensures.len, c.append-then-place-text.ensures.len, c.loop-place.invariant.room);
    }

pub loop-place-preserved : goal.loop-place-preserved
loop-place-preserved c =
    let text = c.args.text.now in
    let p = c.loop-place.place in
    let n = c.in_front_of_dle-run.result in
    let rest = c.split_at.result.1.now in
    let size : length rest ≡ length text - p = ap length c.split_at.ensures.back ∙ length-drop p text in
    let filled : length c.split_at-in-loop-place.result.0.now ≡ n = ap length c.split_at-in-loop-place.ensures.front ∙ length-take-le n rest c.in_front_of_dle-run.ensures.within in
    record {
      within = omega (arith, size, c.in_front_of_dle-run.ensures.within, c.loop-place.invariant.within);
      written = run_written text (c.args.out.now.items ++ text_without_fill true text) c.loop-place.out.items c.append.new.out.items rest c.split_at-in-loop-place.result.0.now p n
          c.loop-place.invariant.written c.split_at.ensures.back c.split_at-in-loop-place.ensures.front c.append.ensures.items c.in_front_of_dle-run.ensures.data c.in_front_of_dle-run.ensures.within;
      room = omega (arith, filled, c.append.ensures.len, c.loop-place.invariant.room);
    }
