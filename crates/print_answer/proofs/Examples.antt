-- Whole answers, computed: the printed example of document 01 (P1), and the order of all parts.
use mathlib.Core.Path.{◌≡◌, refl}
use mathlib.Core.Bool.{false}
use mathlib.Core.List.{[], ◌∷◌, map}
use Prim.Native.Nat.{ℕ}
use Rattle.read_field.specs.Words.{bytes as text}
use Rattle.print_field.specs.Text.{digits, decimal, joined}
use Rattle.print_field.specs.Fields.{spaced, field, pair, unless_zero}
use Rattle.item.specs.Items.{Fields}
use Rattle.cut_def.specs.Edits.{put, delete}
use Rattle.request.specs.Answers.{plan, nothing, refused}
use Rattle.plan_def.specs.Plans.{Plan}
use Rattle.print_line.specs.Lines.{number_line, plan_line, delete_line, ref_line, add_line, write_line}
use Rattle.print_field.specs.Puts.{item_fields, added_fields, put_line}
use Rattle.print_answer.specs.Printed.{printed, plan_lines}

-- what a punch leaves of the example's item
left : (key position length : ℕ) → Fields
left key position length =
    record {
      file = 257;
      key_type = 108;
      key = key;
      generation = 0;
      ram = 0;
      compression = 0;
      encryption = 0;
      other = 0;
      kind = 1;
      extent_start = 1048576;
      extent_length = 16384;
      position = position;
      length = length;
    }

punched : Plan
punched =
    record {
      edits = put (left 0 0 4096) ∷ put (left 8192 8192 8192) ∷ [];
      shares = record { start = 1048576; offset = 0 } ∷ [];
      unrefs = [];
      releases = [];
      adds = [];
      writes = [];
      size = 16384;
      bytes = 12288;
      prealloc = false;
    }

p1 : printed (plan punched) ≡ text "(plan (size 16384) (bytes 12288) (prealloc 0))\n" ∷ text "(put (key 0) (kind 1) (extent 1048576 16384) (window 0 4096))\n" ∷ text "(put (key 8192) (kind 1) (extent 1048576 16384) (window 8192 8192))\n" ∷ text "(share (at 1048576) (ref 0))\n" ∷ []
unfolding digits decimal joined spaced field pair unless_zero plan_line item_fields added_fields put_line ref_line plan_lines printed left punched
p1 = refl

-- a plan with a line of each sort
each : Plan
each =
    record {
      edits = delete 0 ∷ [];
      shares = record { start = 1; offset = 2 } ∷ [];
      unrefs = record { start = 3; offset = 4 } ∷ [];
      releases = record { start = 5; offset = 6 } ∷ [];
      adds = record { start = 7; length = 8; key = 9 } ∷ [];
      writes = record { key = 1; at = 2; first = 3; end = 4 } ∷ [];
      size = 0;
      bytes = 0;
      prealloc = false;
    }

order :
    map printed (plan each ∷ nothing ∷ refused 9 ∷ [])
    ≡ (text "(plan (size 0) (bytes 0) (prealloc 0))\n"
    ∷ text "(delete (key 0))\n"
    ∷ text "(share (at 1) (ref 2))\n"
    ∷ text "(unref (at 3) (ref 4))\n"
    ∷ text "(release (at 5) (ref 6))\n"
    ∷ text "(add (at 7) (len 8) (key 9))\n"
    ∷ text "(write (key 1) (at 2) (zero 3 4))\n"
    ∷ [])
    ∷ (text "(nothing)\n" ∷ [])
    ∷ (text "(refused 9)\n" ∷ [])
    ∷ []
unfolding digits decimal joined spaced field pair number_line plan_line delete_line ref_line add_line write_line plan_lines printed each
order = refl
