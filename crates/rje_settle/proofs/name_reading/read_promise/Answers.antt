use Rattle.rje_settle.specs.Names.{place_text}
use Rattle.rje_settle.proofs.NameTexts.{behind_is}
use Rattle.rje_settle.proofs.name_reading.read_promise.Goals as goal

pub returns-in_default-read_place : goal.returns-in_default-read_place
returns-in_default-read_place c p can is e =
    let behind = behind_is c.args.text.now c.in-Some.receipt p.receipt c.in-Some.behind.now (place_text p.place) c.in-Some.ensures.0 can c.in-Some.ensures.1 e in
    c.in_default-read_place.ensures p.place is behind
