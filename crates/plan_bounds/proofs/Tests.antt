-- The tests of widths and what they say. Assumes nothing.
use mathlib.Core.Path.{◌≡◌, refl}
use mathlib.Core.Bool.{Bool, true, ◌&&◌}
use Prim.Native.Nat.{ℕ, ◌<◌, ◌^◌}
use native.Mathlib.Omega.{arith}
use lib.Dec.{eqb, ltb}
use borrow.Author.Tests.{ltb-true, lt-ltb, eqb-true}
use mathlib.Core.Logic.{⊎_elim}
use mathlib.Core.List.{List}
use Rattle.endian.specs.Le.{room, Bytes}
use Rattle.records.proofs.Tests.{both_left, both_right, either}
use Rattle.item.specs.Items.{Fields, Sound, ranged, decode}
use Rattle.item.proofs.Runs.{decode-sound}
use Rattle.lists.specs.Lists.{item_sound}
use Rattle.cut_def.proofs.Kept.{fine}
use Rattle.plan_bounds.specs.Widths.{data_fits, fields_fit}

-- ---- the data

pub record Data (f : Fields) : Type 0 where
  pub generation : f.generation < 2 ^ 64
  pub ram : f.ram < 2 ^ 64
  pub compression : f.compression < 256
  pub encryption : f.encryption < 256
  pub other : f.other < 65536
  pub start : f.extent_start < 2 ^ 64
  pub length : f.extent_length < 2 ^ 64

pub data_facts : (f : Fields) → data_fits f ≡ true → Data f
data_facts f h =
    let g : Bool = ltb f.generation (2 ^ 64) in
    let r : Bool = ltb f.ram (2 ^ 64) in
    let c : Bool = ltb f.compression 256 in
    let e : Bool = ltb f.encryption 256 in
    let o : Bool = ltb f.other 65536 in
    let s : Bool = ltb f.extent_start (2 ^ 64) in
    let l : Bool = ltb f.extent_length (2 ^ 64) in
    let a = both_left (g && r) ((c && (e && o)) && (s && l)) h in
    let b = both_right (g && r) ((c && (e && o)) && (s && l)) h in
    let m = both_left (c && (e && o)) (s && l) b in
    let n = both_right (c && (e && o)) (s && l) b in
    record {
      generation = ltb-true f.generation (2 ^ 64) (both_left g r a);
      ram = ltb-true f.ram (2 ^ 64) (both_right g r a);
      compression = ltb-true f.compression 256 (both_left c (e && o) m);
      encryption = ltb-true f.encryption 256 (both_left e o (both_right c (e && o) m));
      other = ltb-true f.other 65536 (both_right e o (both_right c (e && o) m));
      start = ltb-true f.extent_start (2 ^ 64) (both_left s l n);
      length = ltb-true f.extent_length (2 ^ 64) (both_right s l n);
    }

pub data_fit : (f : Fields) → Data f → data_fits f ≡ true
data_fit f d =
    rw (lt-ltb f.generation (2 ^ 64) d.generation, lt-ltb f.ram (2 ^ 64) d.ram, lt-ltb f.compression 256 d.compression, lt-ltb f.encryption 256 d.encryption, lt-ltb f.other 65536 d.other, lt-ltb f.extent_start (2 ^ 64) d.start, lt-ltb f.extent_length (2 ^ 64) d.length) refl

-- ---- all of an item of a well_kept_lem list of kinds 1 and 2

pub fields_fit_lem : (file : ℕ) (f : Fields) → file < 2 ^ 64 → item_sound file f ≡ true → ranged f ≡ true → data_fits f ≡ true → fields_fit f ≡ true
fields_fit_lem file f h s r d =
    let n = fine file f s r in
    let a = n.own in
    let k : f.kind < 256 = ⊎_elim (λ e. let x = eqb-true f.kind 1 e in omega arith) (λ e. let x = eqb-true f.kind 2 e in omega arith) (either (eqb f.kind 1) (eqb f.kind 2) r) in
    rw (lt-ltb f.file (2 ^ 64) (omega arith), lt-ltb f.key_type 256 (omega (arith, n.typed)), lt-ltb f.key (2 ^ 64) (omega (arith, n.range.ends)), lt-ltb f.kind 256 k, lt-ltb f.position (2 ^ 64) (omega (arith, n.range.fits)), lt-ltb f.length (2 ^ 64) (omega (arith, n.range.fits))) d

pub fields-sound : (f : Fields) → fields_fit f ≡ true → Sound f
unfolding room
fields-sound f h =
    let a : Bool = ltb f.file (2 ^ 64) in
    let b : Bool = ltb f.key_type 256 in
    let c : Bool = ltb f.key (2 ^ 64) in
    let k : Bool = ltb f.kind 256 in
    let p : Bool = ltb f.position (2 ^ 64) in
    let l : Bool = ltb f.length (2 ^ 64) in
    let x = both_left (a && (b && (c && k))) ((p && l) && data_fits f) h in
    let y = both_right (a && (b && (c && k))) ((p && l) && data_fits f) h in
    let x' = both_right a (b && (c && k)) x in
    let x'' = both_right b (c && k) x' in
    let z = both_left (p && l) (data_fits f) y in
    let d = data_facts f (both_right (p && l) (data_fits f) y) in
    record {
      file = ltb-true f.file (2 ^ 64) (both_left a (b && (c && k)) x);
      key_type = ltb-true f.key_type 256 (both_left b (c && k) x');
      key = ltb-true f.key (2 ^ 64) (both_left c k x'');
      generation = d.generation;
      ram = d.ram;
      compression = d.compression;
      encryption = d.encryption;
      other = d.other;
      kind = ltb-true f.kind 256 (both_right c k x'');
      extent_start = d.start;
      extent_length = d.length;
      position = ltb-true f.position (2 ^ 64) (both_left p l z);
      length = ltb-true f.length (2 ^ 64) (both_right p l z);
    }

-- what is read from bytes fits
pub read_fits : (s : List ℕ) → Bytes s → fields_fit (decode s) ≡ true
unfolding room
read_fits s b =
    let f : Fields = decode s in
    let w = decode-sound s b in
    rw (lt-ltb f.file (2 ^ 64) w.file, lt-ltb f.key_type 256 w.key_type, lt-ltb f.key (2 ^ 64) w.key, lt-ltb f.kind 256 w.kind, lt-ltb f.position (2 ^ 64) w.position, lt-ltb f.length (2 ^ 64) w.length)
    (data_fit f (record { generation = w.generation; ram = w.ram; compression = w.compression; encryption = w.encryption; other = w.other; start = w.extent_start; length = w.extent_length }))

-- parts of the test
pub fit_data : (f : Fields) → fields_fit f ≡ true → data_fits f ≡ true
fit_data f h =
    let a : Bool = ltb f.file (2 ^ 64) && (ltb f.key_type 256 && (ltb f.key (2 ^ 64) && ltb f.kind 256)) in
    let b : Bool = ltb f.position (2 ^ 64) && ltb f.length (2 ^ 64) in
    both_right b (data_fits f) (both_right a (b && data_fits f) h)
