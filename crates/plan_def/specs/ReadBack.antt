-- The lines of a plan read again from the outputs that they lie in (Outputs).
use Rattle.std.specs.Prelude.{cond, List, ℕ, eqb, get_or, drop}
use Rattle.records.specs.Records.{records}
use Rattle.item.specs.Items.{decode}
use Rattle.cut_def.specs.Refs.{Ref}
use Rattle.cut_def.specs.Edits.{Edit, put, delete}
use Rattle.plan_def.specs.Plans.{Add, Write}

-- an edit is a byte, 1 for put and 2 for delete, and a record; of a delete only the key is looked at, as in `items_after`
unfoldable pub edit_in : List ℕ → Edit
edit_in s = cond (eqb (get_or s 0 0) 1) (put (decode (drop 1 s))) (delete (decode (drop 1 s)).key)

unfoldable pub ref_in : List ℕ → Ref
ref_in s = record { start = get_or s 0 0; offset = get_or s 1 0 }

unfoldable pub add_in : List ℕ → Add
add_in s = record { start = get_or s 0 0; length = get_or s 1 0; key = get_or s 2 0 }

unfoldable pub write_in : List ℕ → Write
write_in s = record { key = get_or s 0 0; at = get_or s 1 0; first = get_or s 2 0; end = get_or s 3 0 }

-- all lines of an output
abbrev pub edits_in : List ℕ → List Edit
edits_in s = records edit_in 71 s

abbrev pub refs_in : List ℕ → List Ref
refs_in s = records ref_in 2 s

abbrev pub adds_in : List ℕ → List Add
adds_in s = records add_in 3 s
