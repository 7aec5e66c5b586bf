-- Back to front: the last of the records in front and of what is put, one by one. Assumes nothing.
use mathlib.Core.Path.{◌≡◌, refl, ap, ap₂, ◌∙◌, sym}
use mathlib.Core.Bool.{Bool, true, false, cond}
use mathlib.Core.List.{List, [], ◌∷◌, ◌++◌, map, flat_map, map-append, append_assoc, append-nil}
use Prim.Native.Nat.{ℕ, suc, ◌+◌, ◌-◌, ◌*◌, ◌/◌, ◌≤◌, ◌<◌}
use native.Mathlib.Omega.{arith}
use native.Mathlib.Nat.{add-zero}
use lib.Dec.{eqb, leb, ltb}
use lib.ListN.{length, get_or, take, drop, set, length-append, length-take, length-map, take-append-drop}
use lib.Seq.{take-suc, take-take, take-set-le, get_or-take}
use borrow.Author.Tests.{ltb-true, leb-true, lt-ltb, le-leb, le-ltb}
use Rattle.cut_def.proofs.Mappings.{items_kept}
use Rattle.std.specs.List.{count_by}
use Rattle.std.proofs.lemmas.List.Recursion.{is_count_by}
use Rattle.records.specs.Stages.{every, pairs}
use Rattle.records.proofs.Tests.{both_left, both_right, every_map}
use Rattle.records.proofs.Lists.{every_append, every_one, every_flat, pairs_parts, flat_append}
use Rattle.item.specs.declared.Item.{Item}
use Rattle.item.specs.Items.{Fields, fields, item_of, decode, items, encode}
use Rattle.item.proofs.Laws.{item-decode, items-length, items_at}
use Rattle.lists.specs.Lists.{rises}
use Rattle.cut_def.specs.Pieces.{Piece, built, kept, items_of, insert, insert_all}
use Rattle.cut_def.specs.Edits.{Edit, put, delete, key_of, put_of}
use Rattle.cut_def.proofs.Kept.{every-insert_all}
use Rattle.cut_def.proofs.Inserts.{insert_all-length}
use Rattle.item.proofs.Widths.{length-encode}
use Rattle.apply_def.specs.Apply.{edits_rise}
use Rattle.plan_def.specs.ReadBack.{edit_in}
use Rattle.apply_def.specs.Buffers.{Same}
use Rattle.apply_def.proofs.Buffers.{same_self, same-put, drop-set}
use Rattle.apply_walk.proofs.Merge.{put_read, delete_read}
use Rattle.apply_items.specs.Passes.{IsPut, puts_in, merged, Filling}

-- ---- one more at the end

insert_last : (x : Fields) (ps : List Piece) → every (λ (f : Fields). leb f.key x.key) (items_of ps) ≡ true → insert x ps ≡ ps ++ built x ∷ []
unfolding insert every
insert_last x [] h = refl
insert_last x (p ∷ ps) h =
    let t : Fields → Bool = λ f. leb f.key x.key in
    rw (le-ltb x.key p.item.key (leb-true p.item.key x.key (both_left (t p.item) (every t (items_of ps)) h))) (ap (λ (l : List Piece). p ∷ l) (insert_last x ps (both_right (t p.item) (every t (items_of ps)) h)))

insert_all_snoc : (xs : List Fields) (x : Fields) (ps : List Piece) → insert_all (xs ++ x ∷ []) ps ≡ insert x (insert_all xs ps)
unfolding insert_all
insert_all_snoc [] x ps = refl
insert_all_snoc (y ∷ xs) x ps = insert_all_snoc xs x (insert y ps)

-- new ones before the last
insert-within : (x : Fields) (ps : List Piece) (p : Piece) → x.key < p.item.key → insert x (ps ++ p ∷ []) ≡ insert x ps ++ p ∷ []
unfolding insert
insert-within x [] p h = rw (lt-ltb x.key p.item.key h) refl
insert-within x (q ∷ ps) p h = go (ltb x.key q.item.key) (insert-within x ps p h)
  where
    go : (b : Bool) → insert x (ps ++ p ∷ []) ≡ insert x ps ++ p ∷ [] → cond b (built x ∷ q ∷ (ps ++ p ∷ [])) (q ∷ insert x (ps ++ p ∷ [])) ≡ cond b (built x ∷ q ∷ ps) (q ∷ insert x ps) ++ p ∷ []
    go true i = refl
    go false i = ap (λ (l : List Piece). q ∷ l) i

insert_all-within : (xs : List Fields) (ps : List Piece) (p : Piece) → every (λ (x : Fields). ltb x.key p.item.key) xs ≡ true → insert_all xs (ps ++ p ∷ []) ≡ insert_all xs ps ++ p ∷ []
unfolding insert_all every
insert_all-within [] ps p h = refl
insert_all-within (x ∷ xs) ps p h =
    let t : Fields → Bool = λ x. ltb x.key p.item.key in
    ap (insert_all xs) (insert-within x ps p (ltb-true x.key p.item.key (both_left (t x) (every t xs) h))) ∙ insert_all-within xs (insert x ps) p (both_right (t x) (every t xs) h)

-- ---- what is put

puts_snoc : (es : List Edit) (e : Edit) → puts_in (es ++ e ∷ []) ≡ puts_in es ++ put_of e
unfolding flat_map
puts_snoc es e = flat_append put_of es (e ∷ []) ∙ ap (λ (l : List Fields). puts_in es ++ l) (append-nil (put_of e))

-- all edits before a key: so is what they put
puts-below : (k : ℕ) (es : List Edit) → every (λ (e : Edit). ltb (key_of e) k) es ≡ true → every (λ (x : Fields). ltb x.key k) (puts_in es) ≡ true
puts-below k es h = every_flat (λ (e : Edit). ltb (key_of e) k) put_of (λ (x : Fields). ltb x.key k) one es h
  where
    one : (e : Edit) → ltb (key_of e) k ≡ true → every (λ (x : Fields). ltb x.key k) (put_of e) ≡ true
    one (put x) h = every_one (λ (x : Fields). ltb x.key k) x h
    one (delete n) h = unfold every in refl

-- the last of a rising list has the largest key
last_edit : (es : List Edit) (e : Edit) → pairs edits_rise (es ++ e ∷ []) ≡ true → every (λ (a : Edit). ltb (key_of a) (key_of e)) es ≡ true
unfolding every
last_edit es e r = every_map (λ (a : Edit). every (edits_rise a) (e ∷ [])) (λ (a : Edit). ltb (key_of a) (key_of e)) (λ a h. both_left (edits_rise a e) true h) es (pairs_parts edits_rise es (e ∷ []) r).2

last_old : (fs : List Fields) (f : Fields) → pairs rises (fs ++ f ∷ []) ≡ true → every (λ (a : Fields). ltb a.key f.key) fs ≡ true
unfolding every
last_old fs f r = every_map (λ (a : Fields). every (rises a) (f ∷ [])) (λ (a : Fields). ltb a.key f.key) (λ a h. both_left (rises a f) true h) fs (pairs_parts rises fs (f ∷ []) r).2

-- ---- the merge from its end

merged-delete : (fs : List Fields) (es : List Edit) (k : ℕ) → merged fs (es ++ delete k ∷ []) ≡ merged fs es
merged-delete fs es k = ap (λ (xs : List Fields). items_of (insert_all xs (map kept fs))) (puts_snoc es (delete k) ∙ append-nil (puts_in es))

items_snoc : (ps : List Piece) (p : Piece) → items_of (ps ++ p ∷ []) ≡ items_of ps ++ p.item ∷ []
items_snoc ps p = map-append (λ (q : Piece). q.item) ps (p ∷ [])

merged-put : (fs : List Fields) (es : List Edit) (x : Fields) → every (λ (f : Fields). leb f.key x.key) fs ≡ true → pairs edits_rise (es ++ put x ∷ []) ≡ true → merged fs (es ++ put x ∷ []) ≡ merged fs es ++ x ∷ []
merged-put fs es x h r =
    let t : Fields → Bool = λ f. leb f.key x.key in
    let ps : List Piece = insert_all (puts_in es) (map kept fs) in
    let a : every t (puts_in es) ≡ true = every_map (λ (f : Fields). ltb f.key x.key) t (λ f l. let m = ltb-true f.key x.key l in le-leb f.key x.key (omega arith)) (puts_in es) (puts-below x.key es (last_edit es (put x) r)) in
    ap (λ (xs : List Fields). items_of (insert_all xs (map kept fs))) (puts_snoc es (put x))
    ∙ ap items_of (insert_all_snoc (puts_in es) x (map kept fs) ∙ insert_last x ps (every-insert_all t (puts_in es) (map kept fs) a (rw (items_kept fs) h)))
    ∙ items_snoc ps (built x)

merged-old : (fs : List Fields) (f : Fields) (es : List Edit) → every (λ (x : Fields). ltb x.key f.key) (puts_in es) ≡ true → merged (fs ++ f ∷ []) es ≡ merged fs es ++ f ∷ []
merged-old fs f es h =
    ap (λ (ps : List Piece). items_of (insert_all (puts_in es) ps)) (map-append kept fs (f ∷ []))
    ∙ ap items_of (insert_all-within (puts_in es) (map kept fs) (kept f) h)
    ∙ items_snoc (insert_all (puts_in es) (map kept fs)) (kept f)

pub merged-length : (fs : List Fields) (es : List Edit) → length (merged fs es) ≡ length fs + length (puts_in es)
merged-length fs es =
    length-map (insert_all (puts_in es) (map kept fs)) (λ (p : Piece). p.item)
    ∙ omega (arith, insert_all-length (puts_in es) (map kept fs), length-map fs kept)

-- ---- a put of f, the last edit that is left

module _ (whole : List Fields) (left : List Edit) (f : Fields) (before : List ℕ) (olds : List Fields) (i skip : ℕ) (list : List ℕ) (e : length (puts_in left) ≡ skip) (p : Filling whole (left ++ put f ∷ []) before olds i list) where
  abbrev xs : List Fields
  xs = items list

  abbrev w : ℕ
  w = i + skip

  abbrev end : ℕ
  end = i + length (puts_in (left ++ put f ∷ []))

  long : length xs ≡ length before / 70
  long = items-length list ∙ ap (λ (m : ℕ). m / 70) p.same.long

  more : end ≡ suc w
  more = let m = ap length (puts_snoc left (put f)) ∙ length-append (puts_in left) (f ∷ []) in omega (arith, m, e)

  inside : w < length xs
  inside = omega (arith, p.room, more, long)

  back_one : (g : Fields) → drop w (set xs w g) ≡ g ∷ drop end xs
  back_one g = drop-set xs w g inside ∙ ap (λ (m : ℕ). g ∷ drop m xs) (sym more)

  same_now : (g : Fields) (list' : List ℕ) → IsPut w g list list' → Same 70 before list'
  same_now g list' x = same-put 70 (omega arith) before list list' (encode g) w p.same (length-encode g) (omega (arith, inside, long)) x.bytes

  -- it comes behind all records in front
  pub slide_put : every (λ (g : Fields). leb g.key f.key) (take i olds) ≡ true → (list' : List ℕ) → IsPut w f list list' → Filling whole left before olds i list'
  slide_put h list' x =
      record {
        rise = p.rise;
        news = (pairs_parts edits_rise left (put f ∷ []) p.news).0;
        room = omega (arith, p.room, more, e);
        most = p.most;
        same = same_now f list' x;
        front = ap (take i) x.those ∙ take-set-le i xs w f (omega arith) ∙ p.front;
        behind =
            ap (λ (m : ℕ). merged (take i olds) left ++ drop (i + m) (items list')) e
            ∙ ap (λ (l : List Fields). merged (take i olds) left ++ l) (ap (drop w) x.those ∙ back_one f)
            ∙ sym (append_assoc (merged (take i olds) left) (f ∷ []) (drop end xs))
            ∙ ap (λ (l : List Fields). l ++ drop end xs) (sym (merged-put (take i olds) left f h p.news))
            ∙ p.behind;
      }

  -- there are none
  pub none_past : i ≤ 0 → every (λ (g : Fields). leb g.key f.key) (take i olds) ≡ true
  unfolding every
  none_past h = let z : i ≡ 0 = omega arith in rw z refl

  -- the last of them
  module _ (some : 0 < i) (o : Item) (y : o ≡ item_of (drop ((i - 1) * 70) list)) where
    abbrev m : ℕ
    m = i - 1

    abbrev g : Fields
    g = fields o

    abbrev es : List Edit
    es = left ++ put f ∷ []

    g_at : get_or xs m g ≡ g
    g_at = items_at list m g (omega (arith, some, inside, items-length list)) ∙ sym (item-decode o _ y)

    g_old : g ≡ get_or olds m g
    g_old = sym g_at ∙ sym (get_or-take i xs m g (omega (arith, some))) ∙ ap (λ (l : List Fields). get_or l m g) p.front ∙ get_or-take i olds m g (omega (arith, some))

    olds_snoc : take i olds ≡ take m olds ++ g ∷ []
    olds_snoc =
        let n : i ≡ suc m = omega (arith, some) in
        ap (λ (i : ℕ). take i olds) n ∙ take-suc olds m g (omega (arith, p.most, some)) ∙ ap (λ (h : Fields). take m olds ++ h ∷ []) (sym g_old)

    -- does not come behind it: so none does
    pub last_before : g.key ≤ f.key → every (λ (a : Fields). leb a.key f.key) (take i olds) ≡ true
    last_before h =
        let r : pairs rises (take m olds ++ g ∷ []) ≡ true = rw olds_snoc at (pairs_parts rises (take i olds) (drop i olds) (rw (take-append-drop i olds) p.rise)).0 in
        rw olds_snoc (every_append (λ (a : Fields). leb a.key f.key) (take m olds) (g ∷ []) (every_map (λ (a : Fields). ltb a.key g.key) (λ (a : Fields). leb a.key f.key) (λ a t. let z = ltb-true a.key g.key t in le-leb a.key f.key (omega arith)) (take m olds) (last_old (take m olds) g r)) (every_one (λ (a : Fields). leb a.key f.key) g (le-leb g.key f.key h)))

    -- does
    module _ (past : f.key < g.key) where
      below : every (λ (x : Fields). ltb x.key g.key) (puts_in es) ≡ true
      below = puts-below g.key es (every_append (λ (e : Edit). ltb (key_of e) g.key) left (put f ∷ []) (every_map (λ (a : Edit). ltb (key_of a) f.key) (λ (a : Edit). ltb (key_of a) g.key) (λ a h. let z = ltb-true (key_of a) f.key h in lt-ltb (key_of a) g.key (omega arith)) left (last_edit left (put f) p.news)) (every_one (λ (e : Edit). ltb (key_of e) g.key) (put f) (lt-ltb f.key g.key past)))

      pub slide_old : (list' : List ℕ) → IsPut w g list list' → Filling whole es before olds m list'
      slide_old list' x =
          let last : m + length (puts_in es) ≡ w = omega (arith, more, some) in
          record {
            rise = p.rise;
            news = p.news;
            room = omega (arith, p.room);
            most = omega (arith, p.most);
            same = same_now g list' x;
            front =
                ap (take m) x.those
                ∙ take-set-le m xs w g (omega arith)
                ∙ sym (take-take m i xs (omega arith))
                ∙ ap (take m) p.front
                ∙ take-take m i olds (omega arith);
            behind =
                ap (λ (n : ℕ). merged (take m olds) es ++ drop n (items list')) last
                ∙ ap (λ (l : List Fields). merged (take m olds) es ++ l) (ap (drop w) x.those ∙ back_one g)
                ∙ sym (append_assoc (merged (take m olds) es) (g ∷ []) (drop end xs))
                ∙ ap (λ (l : List Fields). l ++ drop end xs) (sym (ap (λ (l : List Fields). merged l es) olds_snoc ∙ merged-old (take m olds) g es below))
                ∙ p.behind;
          }

-- ---- the last of the lines that are left

module _ (lines rest : List (List ℕ)) (c : List ℕ) (e : lines ≡ rest ++ c ∷ []) where
  lines_snoc : map edit_in lines ≡ map edit_in rest ++ edit_in c ∷ []
  lines_snoc = ap (map edit_in) e ∙ map-append edit_in rest (c ∷ [])

  pub put_snoc : true ≡ eqb (get_or c 0 0) 1 → (f : Fields) → f ≡ decode (drop 1 c) → map edit_in lines ≡ map edit_in rest ++ put f ∷ []
  put_snoc x f r = lines_snoc ∙ ap (λ (d : Edit). map edit_in rest ++ d ∷ []) (put_read c (sym x) ∙ ap put (sym r))

  pub put-more : true ≡ eqb (get_or c 0 0) 1 → length (puts_in (map edit_in lines)) ≡ length (puts_in (map edit_in rest)) + 1
  put-more x = ap length (ap puts_in (put_snoc x _ refl) ∙ puts_snoc (map edit_in rest) (put _)) ∙ length-append (puts_in (map edit_in rest)) (_ ∷ [])

  module _ (x : false ≡ eqb (get_or c 0 0) 1) where
    delete_snoc : map edit_in lines ≡ map edit_in rest ++ delete (decode (drop 1 c)).key ∷ []
    delete_snoc = lines_snoc ∙ ap (λ (d : Edit). map edit_in rest ++ d ∷ []) (delete_read c (sym x))

    delete_same : puts_in (map edit_in lines) ≡ puts_in (map edit_in rest)
    delete_same = ap puts_in delete_snoc ∙ puts_snoc (map edit_in rest) (delete _) ∙ append-nil (puts_in (map edit_in rest))

    pub fill_delete : (whole : List Fields) (before : List ℕ) (olds : List Fields) (i skip : ℕ) (list : List ℕ) → Filling whole (map edit_in lines) before olds i list × (length (puts_in (map edit_in lines)) ≡ skip)
        → Filling whole (map edit_in rest) before olds i list × (length (puts_in (map edit_in rest)) ≡ skip)
    fill_delete whole before olds i skip list p = (
      record {
        rise = p.0.rise;
        news = (pairs_parts edits_rise (map edit_in rest) (delete _ ∷ []) (rw delete_snoc at p.0.news)).0;
        room = rw delete_same at p.0.room;
        most = p.0.most;
        same = p.0.same;
        front = p.0.front;
        behind = rw delete_same at p.0.behind;
      },
      rw delete_same at p.1,
    )

-- ---- the start and the end

module _ (before : List ℕ) (n puts : ℕ) (es : List Edit) (h : n + puts ≤ length before / 70) (e : puts ≡ length (puts_in es)) where
  abbrev olds_in : List Fields
  olds_in = take n (items before)

  pub fill_start : pairs rises olds_in ≡ true → pairs edits_rise es ≡ true → Filling (merged olds_in es ++ drop (n + puts) (items before)) es before olds_in n before
  fill_start r s =
      let f : take n olds_in ≡ olds_in = take-take n n (items before) (omega arith) in
      record {
        rise = r;
        news = s;
        room = omega arith;
        most = omega (arith, length-take n (items before), items-length before);
        same = same_self 70 (omega arith) before;
        front = sym f;
        behind = ap₂ (λ (x : List Fields) (k : ℕ). merged x es ++ drop (n + k) (items before)) f (sym e);
      }

pub fill_done : (whole : List Fields) (left : List Edit) (before : List ℕ) (olds : List Fields) (i : ℕ) (list : List ℕ) → Filling whole left before olds i list → left ≡ [] → items list ≡ whole
unfolding flat_map insert_all
fill_done whole left before olds i list p z =
    let b : merged (take i olds) [] ++ drop (i + 0) (items list) ≡ whole = rw z at p.behind in
    let m : merged (take i olds) [] ≡ take i olds = items_kept (take i olds) in
    sym (take-append-drop i (items list))
    ∙ ap₂ (λ (x : List Fields) (k : ℕ). x ++ drop k (items list)) p.front (sym (add-zero i))
    ∙ ap (λ (x : List Fields). x ++ drop (i + 0) (items list)) (sym m)
    ∙ b

-- ---- how many are put

-- a line puts a record
abbrev pub puts-one : List ℕ → Bool
puts-one s = eqb (get_or s 0 0) 1

puts_cons : (t : List ℕ) (es : List Edit) → length (puts_in (edit_in t ∷ es)) ≡ cond (puts-one t) (1 + length (puts_in es)) (length (puts_in es))
unfolding flat_map edit_in
puts_cons t es = go (puts-one t)
  where
    go : (b : Bool) → length (puts_in (cond b (put (decode (drop 1 t))) (delete (decode (drop 1 t)).key) ∷ es)) ≡ cond b (1 + length (puts_in es)) (length (puts_in es))
    go true = omega arith
    go false = refl

pub puts_counted : (lines : List (List ℕ)) → count_by puts-one lines ≡ length (puts_in (map edit_in lines))
unfolding flat_map
puts_counted lines = sym (is_count_by (λ (cs : List (List ℕ)). length (puts_in (map edit_in cs))) puts-one refl (λ c cs. puts_cons c (map edit_in cs)) lines)
