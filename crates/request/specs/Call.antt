-- For the code only: refusals 1 to 4 of what a call is lent, as the code has it.
use Rattle.std.specs.Prelude.{Bool, List, ℕ}
use Rattle.request.specs.declared.File.{File}
use Rattle.request.specs.declared.Lent.{Lent}
use Rattle.request.specs.Lent.{lent, lent2}

abbrev pub lent_in : Lent → ℕ
lent_in l = lent l.volume l.file l.list.now l.shared.now l.table.now

-- of a clone, whose destination is lent
abbrev pub lent2_in : Lent → (src : File) → (own : Bool) → (source : List ℕ) → ℕ
lent2_in l src own source = lent2 l.volume l.file src own l.list.now l.shared.now source l.table.now
