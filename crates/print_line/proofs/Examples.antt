-- Lines computed: those of document 01, and each form that it names.
use mathlib.Core.Path.{◌≡◌, refl}
use mathlib.Core.Bool.{true, false}
use mathlib.Core.List.{[], ◌∷◌}
use Rattle.read_field.specs.Words.{bytes as text}
use Rattle.print_field.specs.Text.{digits, decimal, joined}
use Rattle.print_field.specs.Fields.{spaced, field, pair}
use Rattle.cut_def.specs.Edits.{delete}
use Rattle.print_line.specs.Lines.{
  number_line,
  nothing_line,
  refused_line,
  fault_line,
  plan_line,
  delete_line,
  edit_line,
  ref_line,
  share_line,
  unref_line,
  release_line,
  add_line,
  write_line,
}

others :
    plan_line 16384 12288 false
    ∷ plan_line 1 2 true
    ∷ edit_line (delete 4096)
    ∷ share_line (record { start = 1048576; offset = 0 })
    ∷ unref_line (record { start = 1; offset = 2 })
    ∷ release_line (record { start = 3; offset = 4 })
    ∷ add_line (record { start = 1; length = 2; key = 3 })
    ∷ write_line (record { key = 1; at = 2; first = 3; end = 4 })
    ∷ nothing_line
    ∷ refused_line 26
    ∷ fault_line 0
    ∷ []
    ≡ text "(plan (size 16384) (bytes 12288) (prealloc 0))\n"
    ∷ text "(plan (size 1) (bytes 2) (prealloc 1))\n"
    ∷ text "(delete (key 4096))\n"
    ∷ text "(share (at 1048576) (ref 0))\n"
    ∷ text "(unref (at 1) (ref 2))\n"
    ∷ text "(release (at 3) (ref 4))\n"
    ∷ text "(add (at 1) (len 2) (key 3))\n"
    ∷ text "(write (key 1) (at 2) (zero 3 4))\n"
    ∷ text "(nothing)\n"
    ∷ text "(refused 26)\n"
    ∷ text "(line 0)\n"
    ∷ []
unfolding digits decimal joined spaced field pair number_line plan_line delete_line ref_line add_line write_line
others = refl
