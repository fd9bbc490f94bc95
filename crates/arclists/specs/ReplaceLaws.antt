-- The oldest names, and which list the replacement takes from. Assumes nothing.
use Rattle.std.specs.Prelude.{◌≡◌, Bool, true, false, ◌&&◌, cond, List, [], ◌∷◌, ◌++◌, ℕ, ◌*◌, ◌≤◌, ◌<◌, eqb, length, drop, get_or}
use Rattle.std.proofs.Math.Path.{refl}
use Rattle.std.proofs.Common.{sym, ap, ap₂, ◌∙◌, arith}
use borrow.Author.Tests.{lt-ltb, le-ltb}
use Rattle.tables.specs.Rows.{le4}
use Rattle.arc.specs.Arc.{Lists, is_nil, takes_t1}
use Rattle.arc.proofs.ArcEndsLaws.{get_seam}
use Rattle.arclists.specs.declared.ListSizes.{ListSizes}
use Rattle.arclists.specs.declared.ListName.{ListName}
use Rattle.arclists.specs.Holding.{total, Sized, Holds, Low, names_of, size_of, start_of}
use Rattle.arc.proofs.ArcLentLaws.{words-at}
use Rattle.arclists.specs.LeaveLaws.{read_back}
use Rattle.arclists.specs.MoveLaws.{some_of, before, after, lies, size-is, start-is, resized-by}

-- the oldest of a list is read at its first place
pub name_of : (x : ListName) {m : ℕ} {s : ListSizes} {t : List ℕ} {l : Lists} → Holds m s t l → Low l → (i r : ℕ) → i ≡ start_of x s → r ≡ le4 t (i * 4)
    → 1 ≤ size_of x s → names_of x l ≡ r ∷ drop 1 (names_of x l)
name_of x {m} {s} {t} {l} h low i r ei er g =
    let z = h.sized in
    let b = (resized-by x 0 s).within in
    let o = some_of (names_of x l) (omega (arith, g, size-is x z)) in
    let e : r ≡ o.first
    = er ∙ sym (words-at (total s) t i (omega (arith, ei, g, b)))
    ∙ ap₂ {C = ℕ} (λ w j. get_or w j 0) (read_back h low (total s) refl ∙ lies x l ∙ ap (λ u. before x l ++ (u ++ after x l)) o.is) (ei ∙ start-is x z)
    ∙ get_seam (before x l) (o.more ++ after x l) o.first in
    o.is ∙ ap₂ {C = List ℕ} (λ u v. u ∷ v) (sym e) (sym (ap (drop 1) o.is))

-- an empty list
pub nil-yes : (n : ℕ) (xs : List ℕ) → n ≡ length xs → n ≡ 0 → is_nil xs ≡ true
nil-yes n [] e z = refl
nil-yes n (x ∷ xs) e z = absurd (omega (arith, e, z))

pub nil-no : (n : ℕ) (xs : List ℕ) → n ≡ length xs → 1 ≤ n → is_nil xs ≡ false
nil-no n [] e z = absurd (omega (arith, e, z))
nil-no n (x ∷ xs) e z = refl

-- which list the replacement takes from
module _ {s : ListSizes} {l : Lists} (z : Sized s l) where
  pub no-t1 : (b2 : Bool) → s.t1 ≡ 0 → false ≡ takes_t1 b2 l
  unfolding takes_t1
  no-t1 b2 e = rw (nil-yes s.t1 l.T1 z.t1-is e) refl

  pub no-t2 : (b2 : Bool) → 1 ≤ s.t1 → s.t2 ≡ 0 → true ≡ takes_t1 b2 l
  unfolding takes_t1
  no-t2 b2 g e = rw (nil-no s.t1 l.T1 z.t1-is g, nil-yes s.t2 l.T2 z.t2-is e) refl

  pub above-p : (b2 : Bool) → 1 ≤ s.t1 → 1 ≤ s.t2 → s.p < s.t1 → true ≡ takes_t1 b2 l
  unfolding takes_t1
  above-p b2 g k e =
      rw (nil-no s.t1 l.T1 z.t1-is g, nil-no s.t2 l.T2 z.t2-is k, lt-ltb l.p (length l.T1) (omega (arith, e, z.t1-is, z.p-is))) refl

  pub below-p : (b2 : Bool) → 1 ≤ s.t1 → 1 ≤ s.t2 → s.t1 ≤ s.p → b2 && eqb s.t1 s.p ≡ takes_t1 b2 l
  unfolding takes_t1
  below-p b2 g k e =
      rw (
        nil-no s.t1 l.T1 z.t1-is g,
        nil-no s.t2 l.T2 z.t2-is k,
        le-ltb l.p (length l.T1) (omega (arith, e, z.t1-is, z.p-is)),
        z.t1-is,
        z.p-is,
      ) refl

-- by a test that is known
module _ {m : ℕ} {r : ListSizes} {t : List ℕ} (b : Bool) (x y : Lists) where
  pub cond_yes : b ≡ true → Holds m r t x → Holds m r t (cond b x y)
  cond_yes e h = rw e h

  pub cond_no : b ≡ false → Holds m r t y → Holds m r t (cond b x y)
  cond_no e h = rw e h
