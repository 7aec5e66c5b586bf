use Rattle.std.proofs.Common.{rules, ◌≡◌, ◌/◌, length, ap, ◌∙◌, sym}
use Rattle.std.specs.Simd.{first_chunks}
use Rattle.std.proofs.lemmas.List.Sorted.{IsPartitionPoint-from_clause}
use Rattle.item.specs.Items.{decode}
use Rattle.item.proofs.Laws.{item-decode}
use Rattle.cut_segment.proofs.Halves.{arrays-parted, point-leading}
use Rattle.cut_segment.proofs.leading.Goals as goal

pub returns : goal.returns
unfolding decode
returns g c = λ p t a. (let s = c.args.list.now in
    let e : c.as_chunks.result.0.now ≡ first_chunks 70 (length s / 70) s = c.as_chunks.ensures.front in
    let l : length (first_chunks 70 (length s / 70) s) ≡ length s / 70 = sym (ap length e) ∙ c.as_chunks.ensures.front_len in
    let k = (rw e at c.partition_point.ensures.partitioned) in
    point-leading p s _ l (rw e at c.partition_point.ensures.bound) (IsPartitionPoint-from_clause (λ r. p (decode r)) _ _ k (arrays-parted p s a l) (λ a r f' k. search (rules, t, item-decode))))
