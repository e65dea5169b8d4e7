use Rattle.std.proofs.Common.{◌≡◌, true, length}
use Rattle.std.specs.Char.{is_ascii_digit}
use Rattle.std.specs.List.{list_all}
use Rattle.std.specs.Str.Parse.{digits_value, digits_value_after}
use Rattle.mw_frames.proofs.keys.number_of.Given as goal

abbrev pub invariant-digits : goal.invariant-digits
invariant-digits l = record {
  digits : list_all is_ascii_digit l.left ≡ true;
  more : digits_value_after 10 l.number l.left ≡ digits_value 10 l.digits;
}

abbrev pub decreases-digits : goal.decreases-digits
decreases-digits l = length l.left
