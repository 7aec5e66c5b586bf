use Rattle.std.proofs.Common.{◌≡◌, drop}
use Rattle.read_field.specs.Decimal.{value}
use Rattle.read_field.proofs.value.Given as goal

-- What the digits so far make goes on to the whole number.
abbrev pub invariant-loop-digit : goal.invariant-loop-digit
invariant-loop-digit l = value l.value (drop l.digit-index l.digits) ≡ value 0 l.digits
