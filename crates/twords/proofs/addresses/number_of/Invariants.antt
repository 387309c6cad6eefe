use Rattle.std.proofs.Common.{◌≡◌, ◌<◌, ◌^◌, take, true}
use Rattle.std.specs.List.{list_all}
use Rattle.std.specs.Str.Parse.{digits_value}
use Rattle.twords.specs.Addresses.{is_hexadecimal}
use Rattle.twords.proofs.addresses.number_of.Given as goal

-- the digits so far are hexadecimal, and the value is what they write
abbrev pub invariant-loop-digit : goal.invariant-loop-digit
invariant-loop-digit l =
    (list_all is_hexadecimal (take l.digit-index l.digits) ≡ true)
    × (l.value ≡ digits_value 16 (take l.digit-index l.digits)) × (l.value < 16 ^ l.digit-index)
