-- What the calls of this crate's functions ask for and give. Assumes nothing.
use mathlib.Core.Path.{◌≡◌, ap, ap₂, ◌∙◌, sym}
use mathlib.Core.Bool.{true}
use mathlib.Core.List.{List, ◌++◌, map}
use Prim.Native.Nat.{ℕ, ◌+◌, ◌<◌, ◌≤◌, ◌^◌}
use native.Mathlib.Omega.{arith}
use lib.ListN.{length}
use Rattle.records.specs.Stages.{every, pairs}
use Rattle.item.specs.Items.{Fields, items, ranged}
use Rattle.lists.specs.Lists.{rises}
use Rattle.lists.proofs.Laws.{Kept}
use Rattle.cut_def.specs.Pieces.{Piece, items_of, insert_all, built, counted_bytes}
use Rattle.cut_def.specs.Raw.{replaced}
use Rattle.cut_def.specs.Edits.{edits}
use Rattle.cut_def.proofs.Inserts.{fresh}
use Rattle.cut_segment.specs.declared.remade.Remade.{Remade}
use Rattle.cut_segment.specs.Remade.{taken_of, made_of}
use Rattle.ref_def.specs.Drops.{releases, unrefs}
use Rattle.ref_def.proofs.Drops.{leaves-items}
use Rattle.plan_def.specs.Plans.{Write}
use Rattle.plan_def.specs.Outputs.{edit_bytes, ref_numbers}
use Rattle.plan_lines.specs.Lines.{Laid}
use Rattle.plan_lines.proofs.Loops.{laid_same}
use Rattle.drop_lines.specs.declared.Cut.{Cut}
use Rattle.drop_lines.specs.Dropped.{drops_in}
use Rattle.change_def.specs.Rewrites.{write_in_place}
use Rattle.change_def.specs.Preallocs.{piece_limit}
use Rattle.change_def.proofs.Preallocs.{limit_whole}
use Rattle.change_ground.specs.Lent.{items_in, rows_in}
use Rattle.change_rewrites.specs.Raw.{Writable}
use Rattle.change_segment.specs.declared.Places.{Places}
use Rattle.change_segment.specs.Raw.{MadeOf, Ready}
use Rattle.change_segment.specs.Sides.{places_at, middle, joined_pieces, after_pieces, cut_of, compared_of, shares_of, bytes_of, writes_of}
use Rattle.change_segment.proofs.Sides.{each_sides, writes-sides}
use Rattle.change_segment.proofs.Planned.{ready, writable, shares-same, unrefs-same, releases-same, after_same}
use Rattle.change_segment.proofs.Edited.{part-rises, edits-same, bytes_same, bytes_below, after_kept}
use Rattle.change_lay.specs.declared.Begun.{Begun}
use Rattle.change_lay.specs.declared.Started.{Started}
use Rattle.change_lay.specs.Laid.{Pieced, ground_of, change_in, plan_at, after_at, new_pieces, edits_at, RefsLaid, EditsLaid}

module _ (b : Begun) where
  abbrev fs : List Fields
  fs = items_in b.base

  abbrev shared : List ℕ
  shared = b.base.leaves.shared.now

  -- what a segment of it is made with
  pub ready_now : b.base.volume.generation + 1 < 2 ^ 64 → Ready b.base.volume b.range b.parts
  ready_now n = ready b.base.volume b.base.file b.range b.parts b.base.leaves.list.records.now shared (rows_in b.base) b.parting b.fair n

  -- ---- references

  module _ (k : Cut) (e : k ≡ cut_of b.range b.parts) (m : Remade) (made : MadeOf (joined_pieces b.base.volume b.range b.parts fs) b.range.lo b.range.hi 4 b.base.leaves.list m) where
    list_is : items m.list.records.now ≡ fs
    list_is = ap (λ l. items l.records.now) made.list

    pub refs-laid :
        (at : Places) (x y z : ℕ) (s u r s' u' r' : List ℕ)
        → Laid ref_numbers 2 0 (shares_of k (items m.list.records.now) m.segment (made_of m)) s x s'
        → Laid ref_numbers 2 0 (compared_of k (made_of m) (taken_of m) ++ unrefs (rows_in b.base) (drops_in k fs shared)) u y u'
        → Laid ref_numbers 2 0 (releases (rows_in b.base) (drops_in k fs shared)) r z r'
        → RefsLaid (plan_at b at) (record { shares = x; unrefs = y; releases = z }) s u r s' u' r'
    refs-laid at x y z s u r s' u' r' ls lu lr =
        let b' = b.base in
        let ps : List ℕ = places_at b.range b.parts at.front at.back in
        let l : length shared ≡ length fs = b'.leaves.one_each in
        let o : m.segment.from ≤ m.segment.to = m.good.order in
        let i = made.made.same in
        record {
          shares =
              laid_same ref_numbers 2 0 _ _ s x s'
              (shares-same b'.volume b'.file b.range b.parts fs shared (rows_in b') b.parting l m.segment (made_of m) o i piece_limit ps
              ∙ ap₂ (λ (q : Cut) (f : List Fields). shares_of q f m.segment (made_of m)) (sym e) (sym list_is)) ls;
          unrefs =
              laid_same ref_numbers 2 0 _ _ u y u'
              (unrefs-same b'.volume b'.file b.range b.parts fs shared (rows_in b') b.parting l m.segment (made_of m) o i piece_limit ps
              ∙ ap₂ (λ (q : Cut) (f : List Fields). compared_of q (made_of m) (middle f m.segment) ++ unrefs (rows_in b') (drops_in q fs shared)) (sym e) (sym list_is)) lu;
          releases =
              laid_same ref_numbers 2 0 _ _ r z r'
              (releases-same b'.volume b'.file b.range b.parts fs shared (rows_in b') b.parting piece_limit ps ∙ ap (λ (q : Cut). releases (rows_in b') (drops_in q fs shared)) (sym e)) lr;
        }

  -- ---- edits and bytes

  module _ (at : Places) (m : Remade) (made : MadeOf (after_pieces b.base.volume b.base.file b.range b.parts at.front at.back fs) b.range.lo b.range.hi 6 b.base.leaves.list m) where
    abbrev after : List Piece
    after = after_at b at

    abbrev segment : List Fields
    segment = made_of m

    list_now : items m.list.records.now ≡ fs
    list_now = ap (λ l. items l.records.now) made.list

    same : replaced fs m.segment.from m.segment.to segment ≡ after
    same = made.made.same ∙ sym (after_same b.base.volume b.base.file b.range b.parts fs shared (rows_in b.base) b.parting b.base.leaves.one_each piece_limit at.front at.back)

    before_same : Kept b.base.file.number fs
    before_same = rw (leaves-items fs shared b.base.leaves.one_each) at b.fair.sound.kept

    kept_now : Kept b.base.file.number (items_of after) × (every ranged (items_of after) ≡ true)
    kept_now = after_kept (ground_of b) (change_in b) b.fair piece_limit (omega arith) (limit_whole b.base.volume.sector b.fair.sound.sector) (places_at b.range b.parts at.front at.back)

    kept_pieces : Kept b.base.file.number (items_of (replaced fs m.segment.from m.segment.to segment))
    kept_pieces = rw same kept_now.0

    module _ (ys : List Fields) (h : Pieced fs (items_of after) ys) where
      news : every (fresh (items_of (replaced fs m.segment.from m.segment.to segment))) ys ≡ true
      news = rw same h.news

      pub rising : (pairs rises ys ≡ true) × (pairs rises (items_of (insert_all ys (map built segment))) ≡ true)
      rising = (h.rise, part-rises fs m.segment segment b.base.file.number kept_pieces ys h.rise news)

    pub below : bytes_of (items m.list.records.now) m.segment segment < 2 ^ 64
    below = rw list_now (bytes_below fs m.segment segment b.base.file.number kept_pieces (rw same kept_now.1))

    pub edits-laid :
        (numbers : List ℕ) (h : Pieced fs (items_of after) (new_pieces b numbers)) (n x : ℕ) (e e' : List ℕ)
        → Laid (edit_bytes b.base.file.number) 71 0 (edits (taken_of m) (insert_all (new_pieces b numbers) (map built segment))) e n e'
        → x ≡ bytes_of (items m.list.records.now) m.segment segment
        → EditsLaid b.base.file.number (edits_at b at numbers) (plan_at b at).bytes (record { edits = n; bytes = x }) e e'
    edits-laid numbers h n x e e' l q =
        let ys : List Fields = new_pieces b numbers in
        record {
          edits =
              laid_same (edit_bytes b.base.file.number) 71 0 _ _ e n e'
              (ap (λ (l : List Fields). edits l (insert_all ys after)) (leaves-items fs shared b.base.leaves.one_each)
              ∙ ap (λ (ps : List Piece). edits fs (insert_all ys ps)) (sym same)
              ∙ edits-same fs m.segment segment b.base.file.number kept_pieces before_same m.good.order ys h.rise h.olds (news ys h)
              ∙ ap (λ (f : List Fields). edits (middle f m.segment) (insert_all ys (map built segment))) (sym list_now)) l;
          bytes = q ∙ ap (λ (f : List Fields). bytes_of f m.segment segment) list_now ∙ sym (bytes_same fs m.segment segment) ∙ ap (λ (ps : List Piece). counted_bytes (items_of ps)) same;
        }

-- ---- writes

module _ (s : Started) where
  pub can_write : Writable s.begun.parts.front × Writable s.begun.parts.back
  can_write =
      let b = s.begun in
      writable b.base.volume b.base.file b.range b.parts b.base.leaves.list.records.now b.base.leaves.shared.now (rows_in b.base) b.parting b.fair s.written

  pub writes-same : (at : Places) → (plan_at s.begun at).writes ≡ writes_of s.begun.range s.begun.parts at.front at.back
  writes-same at =
      let b = s.begun in
      ap₂ (λ (l m : List Write). l ++ m) (each_sides (ground_of b) b.range b.base.file.size b.parts b.parting write_in_place)
      (writes-sides (ground_of b) b.range b.base.file.size b.parts b.parting piece_limit at.front at.back)
