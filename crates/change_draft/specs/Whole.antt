-- For the code only: a change with the holes that it fills.
use Rattle.change_def.specs.declared.Fill.{Fill}
use Rattle.change_def.specs.Changes.{Change}
use Rattle.change_def.specs.Sweep.{filled_of}
use Rattle.change_ground.specs.Lent.{items_in}
use Rattle.change_lay.specs.declared.Begun.{Begun}

abbrev pub filled : Begun → Fill → Change
filled b w = filled_of b.range w (items_in b.base)
