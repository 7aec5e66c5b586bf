use Rattle.std.proofs.Common.{◌≡◌, ◌∙◌, ap, sym, Bool, ◌&&◌, map}
use Rattle.records.specs.Stages.{unless, every, pairs}
use Rattle.table.specs.Rows.{rows}
use Rattle.plan_def.specs.ReadBack.{add_in}
use Rattle.apply_clear.specs.Clear.{add_alone, adds_apart}
use Rattle.apply_clear.proofs.Clear.{fits_told}
use Rattle.apply_clear.proofs.adds_refusal.Goals.{then-each_fits, else-each_fits}
use Rattle.apply_clear.proofs.adds_refusal.Goals as goal

pub returns : goal.returns
returns c =
    let gone = c.args.m.counts.gone.now in
    let rs = rows c.args.m.table.numbers.now in
    let cs = c.as_chunks.result.0.now in
    let apart = pairs adds_apart (map add_in cs) in
    let q : c.if-each_fits.check ≡ (every (add_alone gone rs) (map add_in cs) && apart) =
    elim c.if-each_fits.branch [
      | then-each_fits w ↦ w.check-is ∙ w.are_adds_apart.ensures ∙ ap (λ (b : Bool). b && apart) (sym w.if-each_fits.true ∙ c.each_fits.ensures)
      | else-each_fits w ↦ w.check-is ∙ w.if-each_fits.false ∙ ap (λ (b : Bool). b && apart) (sym w.if-each_fits.false ∙ c.each_fits.ensures)
    ] in
    c.check.ensures ∙ ap (λ (b : Bool). unless b 3) (fits_told gone rs c.args.adds.now cs _ c.as_chunks.ensures.front q)
