-- The box and the lists between the first and the last part of a step: the requested address a has left and hasn't joined.
use Rattle.std.specs.Prelude.{◌≡◌, ◌||◌, ℕ, ◌+◌, ◌≤◌, ◌<◌, length, take, drop}
use Rattle.std.proofs.Common.{sym, ◌∙◌, arith, length-append}
use Rattle.std.proofs.Math.Path.{ap, subst}
use Rattle.std.proofs.Math.Bool.{true, false, cond}
use mathlib.Core.List.{List, [], ◌∷◌, ◌++◌}
use Rattle.std.proofs.Math.Option.{some}
use Rattle.std.proofs.Math.Dec.{eqb}
use Rattle.paper.specs.Cache.{Hashing, AddressRow, BlockRow, Stepped, held, row_of, without_address, cached}
use Rattle.paper.specs.KeyedLaws.{by-test, by-option, either, clash, or_cases, or_left, or_right, eqb→≡, eqb-self, eqb_swap, All, all_map}
use Rattle.paper.specs.KeyedLaws.{all_without, has-without-other, distinct_without, find_none}
use Rattle.paper.specs.Sound.{Sound, DirtyCached}
use Rattle.paper.proofs.SoundLaws.{length-copied, length-without-le}
use Rattle.arc.specs.Policy.{Ran}
use Rattle.arc.specs.Arc.{Sizes, base_numbers, Lists, is_in, on_top, row_out, evicted, listed, t1b1, t2b2, t1b3, b1b3, b2b3, b1_out, b2_out, b3_out}
use Rattle.arc.specs.Arc.{b1_evicted, b2_evicted, b3_evicted}
use Rattle.arc.specs.Tally.{tally, count, tally-append, tally-some, tally-distinct, tally-without-self, tally-without-other, length_without}
use Rattle.arc.specs.Tally.{tally-first, length-first, in-drop}
use Rattle.arc.specs.ArcMid.{Mid, OutlastsOut, TopCached, named, total}

module _ {F X : Type 0} (H : Hashing F X) (Z : Sizes) (a : ℕ) where
  -- the lists change, and name the same addresses as often; T1 and T2 get none
  pub mid-lists : (l : Lists) (t : Ran F X Lists) → ((x : ℕ) → named x l ≡ named x t.kept) → total l ≡ total t.kept
      → ((x : ℕ) → on_top l x ≡ true → on_top t.kept x ≡ true) → l.p ≤ Z.C
      → Mid H Z a t → Mid H Z a (record { kept = l; stepped = t.stepped })
  mid-lists l t n c o p h =
      record {
        sound = h.sound;
        absent = h.absent;
        names = λ x. h.names x ∙ sym (n x);
        counted = h.counted ∙ sym c;
        top = all_map (TopCached H t.kept t.stepped.box.used) (TopCached H l t.stepped.box.used) (λ r y e. y (o r.address e))
            t.stepped.box.rows h.top;
        p_low = p;
      }

  moved-names : (x : ℕ) (from to : List ℕ) → count x (drop 1 from) + count x (to ++ take 1 from) ≡ count x from + count x to
  moved-names x from to = let e = tally-first (λ z. z) x from in let f = tally-append (λ z. z) x to (take 1 from) in omega (arith, e, f)

  moved-total : (from to : List ℕ) → length (drop 1 from) + length (to ++ take 1 from) ≡ length from + length to
  moved-total from to = let e = length-first (λ (z : ℕ). z) from in let f = length-append to (take 1 from) in omega (arith, e, f)

  less-left : (l : Lists) (x : ℕ) → (is_in x (drop 1 l.T1) || is_in x l.T2) ≡ true → on_top l x ≡ true
  less-left l x h =
      either (or_cases (is_in x (drop 1 l.T1)) (is_in x l.T2) h) (λ e. or_left (is_in x l.T1) (is_in x l.T2) (in-drop x l.T1 e))
      (λ e. or_right (is_in x l.T1) (is_in x l.T2) e)

  less-right : (l : Lists) (x : ℕ) → (is_in x l.T1 || is_in x (drop 1 l.T2)) ≡ true → on_top l x ≡ true
  less-right l x h =
      either (or_cases (is_in x l.T1) (is_in x (drop 1 l.T2)) h) (λ e. or_left (is_in x l.T1) (is_in x l.T2) e)
      (λ e. or_right (is_in x l.T1) (is_in x l.T2) (in-drop x l.T2 e))

  pub mid-t1b1 : (t : Ran F X Lists) → Mid H Z a t → Mid H Z a (listed H t1b1 t)
  mid-t1b1 t h = let l = t.kept in mid-lists (t1b1 l) t
      (λ x. let e = moved-names x l.T1 l.B1 in omega (arith, e)) (let e = moved-total l.T1 l.B1 in omega (arith, e)) (less-left l) h.p_low h

  pub mid-t2b2 : (t : Ran F X Lists) → Mid H Z a t → Mid H Z a (listed H t2b2 t)
  mid-t2b2 t h = let l = t.kept in mid-lists (t2b2 l) t
      (λ x. let e = moved-names x l.T2 l.B2 in omega (arith, e)) (let e = moved-total l.T2 l.B2 in omega (arith, e)) (less-right l) h.p_low h

  pub mid-t1b3 : (t : Ran F X Lists) → Mid H Z a t → Mid H Z a (listed H t1b3 t)
  mid-t1b3 t h = let l = t.kept in mid-lists (t1b3 l) t
      (λ x. let e = moved-names x l.T1 l.B3 in omega (arith, e)) (let e = moved-total l.T1 l.B3 in omega (arith, e)) (less-left l) h.p_low h

  pub mid-b1b3 : (t : Ran F X Lists) → Mid H Z a t → Mid H Z a (listed H b1b3 t)
  mid-b1b3 t h = let l = t.kept in mid-lists (b1b3 l) t
      (λ x. let e = moved-names x l.B1 l.B3 in omega (arith, e)) (let e = moved-total l.B1 l.B3 in omega (arith, e)) (λ x e. e) h.p_low h

  pub mid-b2b3 : (t : Ran F X Lists) → Mid H Z a t → Mid H Z a (listed H b2b3 t)
  mid-b2b3 t h = let l = t.kept in mid-lists (b2b3 l) t
      (λ x. let e = moved-names x l.B2 l.B3 in omega (arith, e)) (let e = moved-total l.B2 l.B3 in omega (arith, e)) (λ x e. e) h.p_low h

module _ {F X : Type 0} (H : Hashing F X) (Z : Sizes) (a : ℕ) (G : Stepped F X → Type 0) (g_out : OutlastsOut H Z a G) where
  abbrev pub Both : Ran F X Lists → Type 0
  Both t = Mid H Z a t × G t.stepped

  -- the oldest of a list is evicted
  pub mid-evict : (xs : List ℕ) (l : Lists) (t : Ran F X Lists) → ((x : ℕ) → named x t.kept ≡ count x (take 1 xs) + named x l)
      → total t.kept ≡ length (take 1 xs) + total l
      → ((x : ℕ) → on_top l x ≡ true → on_top t.kept x ≡ true) → l.p ≤ Z.C → Both t → Both (record { kept = l; stepped = evicted H xs t.stepped })
  unfolding evicted row_out
  mid-evict [] l t n c o p h = (mid-lists H Z a l t (λ x. let e = n x in omega (arith, e)) (omega (arith, c)) o p h.0, h.1)
  mid-evict (x ∷ xs) l t n c o p h =
      let s = t.stepped.box in
      let m = h.0 in
      let so = m.sound in
      let here : tally (λ r. r.address) x s.rows ≡ 1 + named x l = m.names x ∙ n x ∙ ap (λ c. cond c 1 0 + named x l) (eqb-self x) in
      let most = tally-distinct (λ r. r.address) x s.rows so.addresses in
      let heldx : held x s.rows ≡ true = tally-some (λ r. r.address) x s.rows (omega (arith, here)) in
      let nota : eqb a x ≡ false = by-test (eqb a x) (λ e. clash heldx (rw (← eqb→≡ a x e) m.absent)) (λ e. e) in
      let rest = length_without (λ (r : AddressRow F). r.address) x s.rows in
      by-option (row_of x s.rows)
      (λ e. clash heldx (find_none eqb (λ r. r.address) x s.rows e))
      (λ r e. rw e (
        record {
          sound = record {
            addresses = distinct_without eqb (λ r. r.address) x s.rows so.addresses;
            below = all_without eqb (λ r. r.address) (λ r. r.address < Z.P) x s.rows so.below;
            few = (let fw = so.few in omega (arith, fw, length-without-le eqb (λ (r : AddressRow F). r.address) x s.rows));
            fingerprints = so.fingerprints;
            slots = so.slots;
            dirty_cached = all_without eqb (λ r. r.address) (DirtyCached H s.used) x s.rows so.dirty_cached;
            flash_length = so.flash_length;
            disk_length = length-copied H (λ f. true) (r ∷ []) s.used s.flash s.disk ∙ so.disk_length;
          };
          absent = by-test (held a (without_address x s.rows))
              (λ y. clash (has-without-other eqb (λ r. r.address) eqb (λ r. r.address) a x s.rows y) m.absent) (λ y. y);
          names = λ y. by-test (eqb x y)
              (λ q. subst (λ z. tally (λ r. r.address) z (without_address x s.rows) ≡ named z l) (eqb→≡ x y q)
              (tally-without-self (λ (r : AddressRow F). r.address) x s.rows ∙ (omega (arith, here, most))))
              (λ q. tally-without-other (λ (r : AddressRow F). r.address) x y s.rows q ∙ m.names y
              ∙ (let z = n y ∙ ap (λ c. cond c 1 0 + named y l) (eqb_swap x y q) in omega (arith, z)));
          counted = (let mc = m.counted in omega (arith, rest, here, most, mc, c));
          top = all_without eqb (λ r. r.address) (TopCached H l s.used) x s.rows
              (all_map (TopCached H t.kept s.used) (TopCached H l s.used) (λ r y z. y (o r.address z)) s.rows m.top);
          p_low = p;
        },
        g_out t.stepped x r so m.absent e nota h.1,
      ))

  out-names : (x : ℕ) (l : List ℕ) → count x l ≡ count x (take 1 l) + count x (drop 1 l)
  out-names x l = sym (tally-first (λ z. z) x l)

  out-total : (l : List ℕ) → length l ≡ length (take 1 l) + length (drop 1 l)
  out-total l = sym (length-first (λ (z : ℕ). z) l)

  pub mid-b1_out : (t : Ran F X Lists) → Both t → Both (b1_evicted H t)
  mid-b1_out t h = let l = t.kept in mid-evict l.B1 (b1_out l) t (λ x. let e = out-names x l.B1 in omega (arith, e))
      (let e = out-total l.B1 in omega (arith, e)) (λ x e. e) h.0.p_low h

  pub mid-b2_out : (t : Ran F X Lists) → Both t → Both (b2_evicted H t)
  mid-b2_out t h = let l = t.kept in mid-evict l.B2 (b2_out l) t (λ x. let e = out-names x l.B2 in omega (arith, e))
      (let e = out-total l.B2 in omega (arith, e)) (λ x e. e) h.0.p_low h

  pub mid-b3_out : (t : Ran F X Lists) → Both t → Both (b3_evicted H t)
  mid-b3_out t h = let l = t.kept in mid-evict l.B3 (b3_out l) t (λ x. let e = out-names x l.B3 in omega (arith, e))
      (let e = out-total l.B3 in omega (arith, e)) (λ x e. e) h.0.p_low h
