use Rattle.std.proofs.Common.{◌≡◌, ◌-◌, ◌++◌, length, take, drop, replicate}
use Rattle.read_field.specs.Parts.{more, numbers}
use Rattle.read_field.specs.Raw.{read_over}
use Rattle.read_field.proofs.numbers.Given as goal

-- The numbers so far, and those still to be read, are all; so it is with what the places hold.
abbrev pub invariant-loop-place : goal.invariant-loop-place
invariant-loop-place l =
    (more (take l.place-index l.places) (numbers (replicate (length l.initial.places - l.place-index) l.limit) l.rest) ≡ numbers (replicate (length l.initial.places) l.limit) l.s)
    × (take l.place-index l.places ++ read_over l.limit (drop l.place-index l.places) l.rest ≡ read_over l.limit l.initial.places l.s)
