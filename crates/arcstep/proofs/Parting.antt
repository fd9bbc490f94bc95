-- The requested address leaves and joins, by what the code finds. Assumes nothing.
use mathlib.Core.Path.{◌≡◌, refl, sym, ap, ◌∙◌}
use mathlib.Core.Bool.{Bool, true, false, cond}
use mathlib.Core.List.{List, [], ◌∷◌}
use Prim.Native.Nat.{ℕ, ◌+◌, ◌≤◌, ◌<◌}
use native.Mathlib.Omega.{arith}
use lib.Dec.{eqb}
use lib.ListN.{length-append}
use Rattle.tables.specs.Records.{address_row, address_bytes}
use Rattle.tables.specs.Operations.{row_added}
use Rattle.paper.specs.KeyedLaws.{All, all_append, all_map, Distinct, distinct_without}
use Rattle.paper.specs.Cache.{Seat, AddressRow, Box, newest, without_address}
use Rattle.paper.specs.Engine.{Fixed}
use Rattle.paper.specs.Lent.{bit}
use Rattle.paper.specs.Layout.{Addrs}
use Rattle.arc.specs.Arc.{Lists, Was, is_in, left, with_p, new_p, parted, joined, join_t1, join_t2, to_t2}
use Rattle.arc.specs.Tally.{tally, count, tally-distinct, tally-some, tally-has}
use Rattle.arc.specs.ArcMid.{named}
use Rattle.arc.specs.ArcLent.{end_to_end, list_bytes}
use Rattle.arc.proofs.ArcLentLaws.{named_end, in-below, all_in}
use Rattle.arc.specs.ArcStep.{ArcSound}
use Rattle.arc.proofs.ArcStepLaws.{mid-parted}
use Rattle.arclists.specs.declared.ListSizes.{ListSizes}
use Rattle.arclists.specs.declared.ListName.{ListName}
use Rattle.arclists.specs.Holding.{Holds, with_last}
use Rattle.parts.specs.declared.BoxRecord.{BoxRecord}
use Rattle.parts.specs.Rep.{Rep, engine}
use Rattle.parts.specs.MoveLaws.{pushed}
use Rattle.arcstep.specs.declared.Running.{Running}
use Rattle.arcstep.specs.Runs.{Within, Runs, Stands, Small, sizes_for, joins}

-- the names of rows of different addresses on the disk are small
module _ (P : ℕ) (most : P ≤ 65536) (rows : List (AddressRow (Fixed 32))) (l : Lists) (ds : Distinct eqb (λ r. r.address) rows)
    (below : All (λ r. r.address < P) rows) (names : (x : ℕ) → tally (λ r. r.address) x rows ≡ named x l) where
  named-below : (x : ℕ) → 1 ≤ named x l → x < 65536
  named-below x h = let e = names x in
      let b = in-below P x rows below (tally-some (λ (r : AddressRow (Fixed 32)). r.address) x rows (omega (arith, e, h))) in omega (arith, b, most)

  each : (xs : List ℕ) → ((x : ℕ) → count x xs ≤ named x l) → All (λ x. x < 65536) xs
  each xs h =
      all_map (λ x. is_in x xs ≡ true) (λ x. x < 65536) (λ x e. let k = tally-has (λ z. z) x xs e in let n = h x in named-below x (omega (arith, k, n))) xs (all_in xs)

  pub small_of : Small l
  small_of =
      record {
        t1 = each l.T1 (λ x. omega arith);
        t2 = each l.T2 (λ x. omega arith);
        b1 = each l.B1 (λ x. omega arith);
        b2 = each l.B2 (λ x. omega arith);
        b3 = each l.B3 (λ x. omega arith);
        single = λ x. (let e = names x in let d = tally-distinct (λ (r : AddressRow (Fixed 32)). r.address) x rows ds in omega (arith, e, d));
      }

-- sizes with another p
abbrev pub with_new_p : ListSizes → ℕ → ListSizes
with_new_p s n = record { t1 = s.t1; t2 = s.t2; b1 = s.b1; b2 = s.b2; b3 = s.b3; p = n; cached = s.cached; extra = s.extra }

module _ (b : BoxRecord) (s : ListSizes) (disk flash addrs blocks lists : List ℕ) (l : Lists) (x : Box (Fixed 32) (Fixed b.size))
    (h : Rep b disk flash addrs blocks x) (k : Holds b.rows s lists l) (so : ArcSound (engine b) (sizes_for b s) l x) where
  pub before_small : Small l
  before_small = small_of b.blocks h.rows_are.small x.rows l so.sound.addresses so.sound.below so.names

  pub once-named : (a : ℕ) → count a (end_to_end l) ≤ 1
  once-named a = let e = named_end a l in let n = before_small.single a in omega (arith, e, n)

  parted-names : (a : ℕ) (w : Was) (y : ℕ) → tally (λ r. r.address) y (without_address a x.rows) ≡ named y (with_p (new_p s.cached w l) (left a l))
  unfolding parted
  parted-names a w y = (mid-parted (engine b) (sizes_for b s) l x a w so).names y

  pub part-runs : (a : ℕ) (w : Was) (held : ℕ) (r : ListSizes) (addrs' lists' : List ℕ) (p : ℕ)
      → Addrs b.blocks b.rows held addrs' (without_address a x.rows) → Holds b.rows r lists' (left a l) → p ≡ new_p s.cached w l
      → Runs b (record { held = held; sizes = with_new_p r p; flashed = 0; primary = 0 }) disk flash addrs' blocks lists'
      (parted (engine b) s.cached l x a w)
  unfolding parted list_bytes
  part-runs a w held r addrs' lists' p ha kl ep =
      record {
        box = record { rows_are = ha; blocks-are = h.blocks-are; flash-is = h.flash-is; disk-is = h.disk-is };
        apart = distinct_without eqb (λ (r : AddressRow (Fixed 32)). r.address) a x.rows so.sound.addresses;
        once = so.sound.fingerprints;
        names = record {
          sized = record {
            t1-is = kl.sized.t1-is;
            t2-is = kl.sized.t2-is;
            b1-is = kl.sized.b1-is;
            b2-is = kl.sized.b2-is;
            b3-is = kl.sized.b3-is;
            p-is = ep;
          };
          bytes = kl.bytes;
          room = kl.room;
        };
        low = small_of b.blocks h.rows_are.small (without_address a x.rows) (with_p (new_p s.cached w l) (left a l))
            (distinct_without eqb (λ (r : AddressRow (Fixed 32)). r.address) a x.rows so.sound.addresses) ha.below (parted-names a w);
        flashed = refl;
        primary = refl;
      }

module _ (b : BoxRecord) (t : Running) (disk flash addrs blocks lists : List ℕ) (R : Within b) (h : Runs b t disk flash addrs blocks lists R) where
  pub join_stands : (a : ℕ) (f : Fixed 32) (w : Bool) (z : Seat) (was : Was) (g addrs' lists' : List ℕ) (s : ListSizes) → f.0 ≡ g → a < b.blocks → t.held < b.rows
      → addrs' ≡ row_added t.held (address_bytes (address_row a g (bit w) z)) addrs
      → Holds b.rows s lists' (cond (to_t2 (engine b) was) (join_t2 a R.kept) (join_t1 a R.kept))
      → Stands b (record { held = t.held + 1; sizes = s; flashed = t.flashed; primary = t.primary }) disk flash addrs' blocks lists'
      (joined (engine b) a f w z was R)
  unfolding joined
  join_stands a f w z was g addrs' lists' s ef la lh ea k =
      let rows = R.stepped.box.rows in
      record {
        box = record {
          rows_are = record {
            count = length-append rows (newest a f w z ∷ []) ∙ ap (λ (n : ℕ). n + 1) h.box.rows_are.count;
            few = omega (arith, lh);
            below = all_append (λ (r : AddressRow (Fixed 32)). r.address < b.blocks) rows (newest a f w z ∷ []) h.box.rows_are.below (la, tt);
            small = h.box.rows_are.small;
            is = ea ∙ ap (λ (y : List ℕ). row_added t.held (address_bytes (address_row a y (bit w) z)) addrs) (sym ef)
                ∙ pushed b.blocks b.rows t.held addrs rows h.box.rows_are lh a f w z;
          };
          blocks-are = h.box.blocks-are;
          flash-is = h.box.flash-is;
          disk-is = h.box.disk-is;
        };
        names = k;
        flashed = h.flashed;
        primary = h.primary;
      }

-- the list that the address joined
pub joined-to : {m : ℕ} {s : ListSizes} {t : List ℕ} (l : Lists) (a : ℕ) (b : Bool) (x : ListName) → x ≡ joins b → Holds m s t (with_last x a l)
    → Holds m s t (cond b (join_t2 a l) (join_t1 a l))
joined-to l a true x e h = rw e at h
joined-to l a false x e h = rw e at h
