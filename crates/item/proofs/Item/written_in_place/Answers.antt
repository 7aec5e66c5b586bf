use Rattle.std.proofs.Common.{◌≡◌, length, ap, ◌∙◌, rules}
use Rattle.item.specs.Items.{Fields, fields, with_numbers, written_in_place}
use Rattle.item.proofs.Laws.{reads_self, with_generation}
use Rattle.item.proofs.Item.written_in_place.Goals as goal

pub returns : goal.returns
returns c = let k = c.of_kind.result in
    let h : length k.«data» ≡ 53 = search (rules, c.of_kind.type_inv) in
    (with_generation k _ (fields k) c.args.generation (reads_self k h) c.ranges.generation.fits c.with_num.ensures).told
    ∙ ap (λ (f : Fields). with_numbers f f.file f.key c.args.generation f.kind f.position f.length) c.of_kind.ensures
    ∙ ap (λ (f : Fields). written_in_place f f.key c.args.generation f.position f.length) c.windowed.ensures
