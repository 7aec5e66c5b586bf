use Rattle.std.proofs.Common.{◌≡◌, ◌+◌, take, drop}
use Rattle.read_field.specs.Parts.{more}
use Rattle.read_field.specs.Raw.{total, fields_by}
use Rattle.read_field.proofs.fields.Given as goal

-- The numbers so far, and those still to be read, are all; what lies behind is as it was.
abbrev pub invariant-loop-field : goal.invariant-loop-field
invariant-loop-field l =
    (more (take l.k l.values) (fields_by (drop l.field-index l.fields) l.rest) ≡ fields_by l.fields l.s)
    × (l.k + total (drop l.field-index l.fields) ≡ total l.fields)
    × (drop l.k l.values ≡ drop l.k l.initial.values)
