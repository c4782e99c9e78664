use Rattle.certificate.proofs.FormWrongBytes.{wrong_byte_leaves, nothing_after_end}
use Rattle.certificate.proofs.FormRowBegins.{within_line_begins, end_begins}
use Rattle.certificate.proofs.FormPlaces.{place_is, leaves_there, one_place}
use Rattle.certificate.proofs.places.places_are_of_the_form.Goals as goal

pub returns : goal.returns
returns c = record {
  within_line = within_line_begins;
  wrong_byte = wrong_byte_leaves;
  after_end = λ draft byte kept last. (end_begins draft kept last, nothing_after_end draft byte kept last);
  place = place_is;
  text_leaves_there = leaves_there;
  one_place = one_place;
}
