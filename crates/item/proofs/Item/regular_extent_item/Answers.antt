use Rattle.item.proofs.Laws.{regular-item}
use Rattle.item.proofs.Item.regular_extent_item.Goals as goal

pub returns : goal.returns
returns c = regular-item c.args.file c.args.key c.args.generation c.args.start c.args.length _ _ _ _ _ _ _ c.ranges.generation.fits c.ranges.start.fits c.ranges.length.fits
    c.zeros.ensures
    c.with_num.ensures
    c.with_num-2.ensures
    c.with_num-3.ensures
    c.with_num-4.ensures
    c.with_num-5.ensures
    c.with_num-6.ensures
