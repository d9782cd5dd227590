-- It is the other at edition 1. Assumes nothing.
use Rattle.render_record.specs.RecordAnswer.{record_answer, InPlace}
use Rattle.pebblerut.proofs.pebblerut_render.Goals as goal
use Rattle.pebblerut.proofs.pebblerut_render.Goals.{After-pebblerut_render_edition}

abbrev Named : After-pebblerut_render_edition → Type 0
Named c =
    let a = c.args in
    let r = c.pebblerut_render_edition in
    InPlace (record_answer 1 a.bytes.now a.out.now a.h.now) r.result r.new.h r.new.out r.new.left_peak r.new.right_peak

named : (c : After-pebblerut_render_edition) → Named c
named c = c.pebblerut_render_edition.ensures

exits : ((c : After-pebblerut_render_edition) → Named c) → goal.returns
exits by_name c = by_name (goal.at.returns c).After-pebblerut_render_edition

pub returns : goal.returns
returns = exits named
