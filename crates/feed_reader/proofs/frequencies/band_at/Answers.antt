use Rattle.std.proofs.lemmas.Result.{err_from_is_err_and}
use Rattle.feed_reader.proofs.BandLemmas.{band-first, band-good, band-second, band-third}
use Rattle.feed_reader.proofs.frequencies.band_at.Goals as goal

pub returns-in_err-trip-clause-refused : goal.returns-in_err-trip-clause-refused
returns-in_err-trip-clause-refused c =
    let p = err_from_is_err_and c.from_residual.result c.from_residual.ensures.1 in
    rw (p.1, p.2) (band-first c.args.trips.now c.args.sheet.now.rows c.args.row c.in_err-trip.field-0.0 c.in_err-trip.ensures.refused)

pub returns-in_err-fields-clause-refused : goal.returns-in_err-fields-clause-refused
returns-in_err-fields-clause-refused c =
    let p = err_from_is_err_and c.from_residual-in_err-fields.result c.from_residual-in_err-fields.ensures.1 in
    rw (p.1, p.2) (band-second c.args.trips.now c.args.sheet.now.rows c.args.row c.in_err-fields.field-0.0 c.in_ok-trip.ensures.faultless c.in_err-fields.ensures.refused)

pub returns-in_err-headway-clause-refused : goal.returns-in_err-headway-clause-refused
returns-in_err-headway-clause-refused c =
    let p = err_from_is_err_and c.from_residual-in_err-headway.result c.from_residual-in_err-headway.ensures.1 in
    rw (p.1, p.2) (band-third c.args.trips.now c.args.sheet.now.rows c.args.row c.in_err-headway.field-0.0 c.in_ok-trip.ensures.faultless c.in_ok-fields.ensures.faultless c.in_err-headway.ensures.refused)

pub returns-clause-faultless : goal.returns-clause-faultless
returns-clause-faultless c = band-good c.args.trips.now c.args.sheet.now.rows c.args.row c.in_ok-trip.ensures.faultless c.in_ok-fields.ensures.faultless c.in_ok-headway.ensures.faultless
