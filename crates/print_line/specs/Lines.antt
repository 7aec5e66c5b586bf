-- The lines that extplan prints (document 01, "extplan").
use Rattle.std.specs.Prelude.{Bool, cond, List, [], ◌∷◌, ℕ}
use Rattle.read_field.specs.Words.{bytes as text}
use Rattle.print_field.specs.Text.{joined}
use Rattle.print_field.specs.Fields.{spaced, field, pair, end}
use Rattle.cut_def.specs.Refs.{Ref}
use Rattle.cut_def.specs.Edits.{Edit, put, delete}
use Rattle.plan_def.specs.Plans.{Add, Write}
use Rattle.print_field.specs.Puts.{put_line}

-- ---- answers without a plan, and input that can't be read

-- "(nothing)"
abbrev pub nothing_line : List ℕ
nothing_line = text "(nothing)\n"

-- "(refused N)", "(line N)": a word and a number
unfoldable pub number_line : List ℕ → ℕ → List ℕ
number_line word n = joined (word ∷ spaced n ∷ end ∷ [])

abbrev pub refused_line : ℕ → List ℕ
refused_line n = number_line (text "(refused") n

abbrev pub fault_line : ℕ → List ℕ
fault_line n = number_line (text "(line") n

-- ---- a plan's lines

-- a mark is 0 or 1
abbrev pub mark : Bool → ℕ
mark b = cond b 1 0

-- "(plan (size 16384) (bytes 12288) (prealloc 0))"
unfoldable pub plan_line : (size bytes : ℕ) → (prealloc : Bool) → List ℕ
plan_line size bytes prealloc =
    joined (text "(plan" ∷ field (text "size") size ∷ field (text "bytes") bytes ∷ field (text "prealloc") (mark prealloc) ∷ end ∷ [])

-- "(delete (key N))"
unfoldable pub delete_line : ℕ → List ℕ
delete_line key = joined (text "(delete" ∷ field (text "key") key ∷ end ∷ [])

abbrev pub edit_line : Edit → List ℕ
edit_line (put f) = put_line f
edit_line (delete k) = delete_line k

-- "(share (at 1048576) (ref 0))", "`unref` and `release` with the fields of `share`"
unfoldable pub ref_line : List ℕ → Ref → List ℕ
ref_line word r = joined (word ∷ field (text "at") r.start ∷ field (text "ref") r.offset ∷ end ∷ [])

abbrev pub share_line : Ref → List ℕ
share_line r = ref_line (text "(share") r

abbrev pub unref_line : Ref → List ℕ
unref_line r = ref_line (text "(unref") r

abbrev pub release_line : Ref → List ℕ
release_line r = ref_line (text "(release") r

-- "(add (at N) (len N) (key N))"
unfoldable pub add_line : Add → List ℕ
add_line a = joined (text "(add" ∷ field (text "at") a.start ∷ field (text "len") a.length ∷ field (text "key") a.key ∷ end ∷ [])

-- "(write (key N) (at N) (zero FIRST END))"
unfoldable pub write_line : Write → List ℕ
write_line w = joined (text "(write" ∷ field (text "key") w.key ∷ field (text "at") w.at ∷ pair (text "zero") w.first w.end ∷ end ∷ [])
