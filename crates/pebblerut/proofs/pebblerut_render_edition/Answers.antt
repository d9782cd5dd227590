-- What is done in place is what is promised, and nothing is done after it. Assumes nothing.
use Rattle.render_record.specs.RecordAnswer.{record_answer, InPlace}
use Rattle.pebblerut.proofs.pebblerut_render_edition.Goals as goal
use Rattle.pebblerut.proofs.pebblerut_render_edition.Goals.{After-in_place}

abbrev Named : After-in_place → Type 0
Named c =
    let a = c.args in
    let r = c.in_place in
    InPlace (record_answer a.edition a.bytes.now a.out.now a.h.now) r.result r.new.h r.new.out r.new.left_peak r.new.right_peak

named : (c : After-in_place) → Named c
named c = c.in_place.ensures

exits : ((c : After-in_place) → Named c) → goal.returns
exits by_name c = by_name (goal.at.returns c).After-in_place

pub returns : goal.returns
returns = exits named
