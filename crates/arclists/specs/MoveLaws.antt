-- The five lists end to end; a move of Algorithm 3 is one rotation of the addresses, and the sizes follow. Assumes nothing.
use Rattle.std.specs.Prelude.{◌≡◌, refl, List, [], ◌∷◌, ◌++◌, ℕ, ◌+◌, ◌-◌, ◌≤◌, ◌<◌, length, take, drop}
use Rattle.std.proofs.Common.{sym, ap, ap₂, ◌∙◌, subst, append-nil, append_assoc, arith, length-append, length-drop}
use Rattle.tables.specs.Rows.{remove_at}
use Rattle.arc.specs.Arc.{Lists, t1b1, t2b2, t1b3, b1b3, b2b3, b1_out, b2_out, b3_out, join_t1, join_t2}
use Rattle.arc.specs.Tally.{first_one, length_none}
use Rattle.arc.specs.ArcLent.{list_bytes, end_to_end}
use Rattle.arc.proofs.ArcLentLaws.{total-end}
use Rattle.arc.specs.ArcEnds.{insert_at, rotated}
use Rattle.arc.proofs.ArcEndsLaws.{
  remove_seam,
  insert_seam,
  rotate-seam,
  end-t1b1,
  end-t2b2,
  end-t1b3,
  end-b1b3,
  end-b2b3,
  end-b1_out,
  end-b2_out,
  end-b3_out,
  end-join_t1,
  end-join_t2,
}
use Rattle.arclists.specs.declared.ListSizes.{ListSizes}
use Rattle.arclists.specs.declared.ListName.{ListName}
use Rattle.arclists.specs.declared.ListName.TheVariants.{T1, T2, B1, B2, B3}
use Rattle.arclists.specs.Listed.{listed, Rotates, Removes, Inserts}
use Rattle.arclists.specs.ListedLaws.{lists-listed}
use Rattle.arclists.specs.Holding.{total, Sized, Holds, Kept, names_of, size_of, start_of, rank, with_names, with_size, out_of, less_of, with_last, moved}

-- a list with an oldest
pub record Some (xs : List ℕ) : Type 0 where
  pub first : ℕ
  pub more : List ℕ
  pub is : xs ≡ first ∷ more

pub some_of : (xs : List ℕ) → 1 ≤ length xs → Some xs
some_of [] h = absurd (omega (arith, h))
some_of (x ∷ xs) h = record { first = x; more = xs; is = refl }

pub total-is : (s : ListSizes) (l : Lists) → Sized s l → length (end_to_end l) ≡ total s
total-is s l h = total-end l ∙ omega (arith, h.t1-is, h.t2-is, h.b1-is, h.b2-is, h.b3-is)

-- the paper's moves, leavings and joinings
pub is-t1b1 : (l : Lists) → moved T1 B1 l ≡ t1b1 l
is-t1b1 l = refl

pub is-t2b2 : (l : Lists) → moved T2 B2 l ≡ t2b2 l
is-t2b2 l = refl

pub is-t1b3 : (l : Lists) → moved T1 B3 l ≡ t1b3 l
is-t1b3 l = refl

pub is-b1b3 : (l : Lists) → moved B1 B3 l ≡ b1b3 l
is-b1b3 l = refl

pub is-b2b3 : (l : Lists) → moved B2 B3 l ≡ b2b3 l
is-b2b3 l = refl

pub is-b1_out : (l : Lists) → out_of B1 l ≡ b1_out l
is-b1_out l = refl

pub is-b2_out : (l : Lists) → out_of B2 l ≡ b2_out l
is-b2_out l = refl

pub is-b3_out : (l : Lists) → out_of B3 l ≡ b3_out l
is-b3_out l = refl

pub is-join_t1 : (a : ℕ) (l : Lists) → with_last T1 a l ≡ join_t1 a l
is-join_t1 a l = refl

pub is-join_t2 : (a : ℕ) (l : Lists) → with_last T2 a l ≡ join_t2 a l
is-join_t2 a l = refl

-- an empty list loses nothing, and nothing of it comes to another
none-goes : (xs : List ℕ) → length xs ≡ 0 → drop 1 xs ≡ xs
none-goes xs h = let z = length_none xs h in ap (drop 1) z ∙ sym z

none-comes : (xs ys : List ℕ) → length xs ≡ 0 → ys ++ take 1 xs ≡ ys
none-comes xs ys h = ap (λ x. ys ++ take 1 x) (length_none xs h) ∙ append-nil ys

-- the addresses before a list, and those after it
abbrev pub before : ListName → Lists → List ℕ
before T1 l = []
before T2 l = l.T1
before B1 l = l.T1 ++ l.T2
before B2 l = l.T1 ++ (l.T2 ++ l.B1)
before B3 l = l.T1 ++ (l.T2 ++ (l.B1 ++ l.B2))

abbrev pub after : ListName → Lists → List ℕ
after T1 l = l.T2 ++ (l.B1 ++ (l.B2 ++ l.B3))
after T2 l = l.B1 ++ (l.B2 ++ l.B3)
after B1 l = l.B2 ++ l.B3
after B2 l = l.B3
after B3 l = []

pub laid : (x : ListName) (xs : List ℕ) (l : Lists) → end_to_end (with_names x xs l) ≡ before x l ++ (xs ++ after x l)
laid T1 xs l = refl
laid T2 xs l = refl
laid B1 xs l = simp append_assoc
laid B2 xs l = simp append_assoc
laid B3 xs l = simp (append_assoc, append-nil)

-- the same addresses in a list leave all as it is
same-names : (x : ListName) (l : Lists) → with_names x (names_of x l) l ≡ l
same-names T1 l = refl
same-names T2 l = refl
same-names B1 l = refl
same-names B2 l = refl
same-names B3 l = refl

pub lies : (x : ListName) (l : Lists) → end_to_end l ≡ before x l ++ (names_of x l ++ after x l)
lies x l = sym (ap end_to_end (same-names x l)) ∙ laid x (names_of x l) l

-- the sizes, list by list
pub size-is : (x : ListName) {s : ListSizes} {l : Lists} → Sized s l → size_of x s ≡ length (names_of x l)
size-is T1 z = z.t1-is
size-is T2 z = z.t2-is
size-is B1 z = z.b1-is
size-is B2 z = z.b2-is
size-is B3 z = z.b3-is

pub start-is : (x : ListName) {s : ListSizes} {l : Lists} → Sized s l → start_of x s ≡ length (before x l)
start-is T1 z = refl
start-is T2 z = z.t1-is
start-is B1 {s} {l} z = omega (arith, length-append l.T1 l.T2, z.t1-is, z.t2-is)
start-is B2 {s} {l} z = omega (arith, length-append l.T1 (l.T2 ++ l.B1), length-append l.T2 l.B1, z.t1-is, z.t2-is, z.b1-is)
start-is B3 {s} {l} z =
    omega (
      arith,
      length-append l.T1 (l.T2 ++ (l.B1 ++ l.B2)),
      length-append l.T2 (l.B1 ++ l.B2),
      length-append l.B1 l.B2,
      z.t1-is,
      z.t2-is,
      z.b1-is,
      z.b2-is,
    )

sized-with : (x : ListName) (n : ℕ) (xs : List ℕ) {s : ListSizes} {l : Lists} → Sized s l → n ≡ length xs → Sized (with_size x n s) (with_names x xs l)
sized-with T1 n xs z e = record { t1-is = e; t2-is = z.t2-is; b1-is = z.b1-is; b2-is = z.b2-is; b3-is = z.b3-is; p-is = z.p-is }
sized-with T2 n xs z e = record { t1-is = z.t1-is; t2-is = e; b1-is = z.b1-is; b2-is = z.b2-is; b3-is = z.b3-is; p-is = z.p-is }
sized-with B1 n xs z e = record { t1-is = z.t1-is; t2-is = z.t2-is; b1-is = e; b2-is = z.b2-is; b3-is = z.b3-is; p-is = z.p-is }
sized-with B2 n xs z e = record { t1-is = z.t1-is; t2-is = z.t2-is; b1-is = z.b1-is; b2-is = e; b3-is = z.b3-is; p-is = z.p-is }
sized-with B3 n xs z e = record { t1-is = z.t1-is; t2-is = z.t2-is; b1-is = z.b1-is; b2-is = z.b2-is; b3-is = e; p-is = z.p-is }

-- another size of one list
pub record Resized (x : ListName) (n : ℕ) (s : ListSizes) : Type 0 where
  pub total-is : total (with_size x n s) + size_of x s ≡ total s + n
  pub kept : Kept (with_size x n s) s
  pub within : start_of x s + size_of x s ≤ total s

pub resized-by : (x : ListName) (n : ℕ) (s : ListSizes) → Resized x n s
resized-by T1 n s = record { total-is = omega arith; kept = (refl, refl); within = omega arith }
resized-by T2 n s = record { total-is = omega arith; kept = (refl, refl); within = omega arith }
resized-by B1 n s = record { total-is = omega arith; kept = (refl, refl); within = omega arith }
resized-by B2 n s = record { total-is = omega arith; kept = (refl, refl); within = omega arith }
resized-by B3 n s = record { total-is = omega arith; kept = (refl, refl); within = omega arith }

-- the addresses between two lists
abbrev between : ListName → ListName → Lists → List ℕ
between T1 B1 l = l.T2
between T1 B2 l = l.T2 ++ l.B1
between T1 B3 l = l.T2 ++ (l.B1 ++ l.B2)
between T2 B2 l = l.B1
between T2 B3 l = l.B1 ++ l.B2
between B1 B3 l = l.B2
between x y l = []

-- x comes before y
record Apart (x y : ListName) : Type 0 where
  pub both : (xs ys : List ℕ) (l : Lists) → end_to_end (with_names y ys (with_names x xs l)) ≡ before x l ++ (xs ++ (between x y l ++ (ys ++ after y l)))
  pub before-is : (l : Lists) → before y l ≡ before x l ++ (names_of x l ++ between x y l)
  pub other : (xs : List ℕ) (l : Lists) → names_of y (with_names x xs l) ≡ names_of y l
  pub same-size : (n : ℕ) (s : ListSizes) → size_of y (with_size x n s) ≡ size_of y s
  pub further : (s : ListSizes) → start_of x s + size_of x s ≤ start_of y s

apart : (x y : ListName) → rank x < rank y → Apart x y
apart T1 T1 h = absurd (omega (arith, h))
apart T1 T2 h = record {
  both = λ xs ys l. refl;
  before-is = λ l. simp (append_assoc, append-nil);
  other = λ xs l. refl;
  same-size = λ n s. refl;
  further = λ s. omega arith;
}
apart T1 B1 h = record {
  both = λ xs ys l. refl;
  before-is = λ l. refl;
  other = λ xs l. refl;
  same-size = λ n s. refl;
  further = λ s. omega arith;
}
apart T1 B2 h = record {
  both = λ xs ys l. simp (append_assoc, append-nil);
  before-is = λ l. refl;
  other = λ xs l. refl;
  same-size = λ n s. refl;
  further = λ s. omega arith;
}
apart T1 B3 h = record {
  both = λ xs ys l. simp (append_assoc, append-nil);
  before-is = λ l. refl;
  other = λ xs l. refl;
  same-size = λ n s. refl;
  further = λ s. omega arith;
}
apart T2 T1 h = absurd (omega (arith, h))
apart T2 T2 h = absurd (omega (arith, h))
apart T2 B1 h = record {
  both = λ xs ys l. refl;
  before-is = λ l. simp (append_assoc, append-nil);
  other = λ xs l. refl;
  same-size = λ n s. refl;
  further = λ s. omega arith;
}
apart T2 B2 h = record {
  both = λ xs ys l. refl;
  before-is = λ l. refl;
  other = λ xs l. refl;
  same-size = λ n s. refl;
  further = λ s. omega arith;
}
apart T2 B3 h = record {
  both = λ xs ys l. simp (append_assoc, append-nil);
  before-is = λ l. refl;
  other = λ xs l. refl;
  same-size = λ n s. refl;
  further = λ s. omega arith;
}
apart B1 T1 h = absurd (omega (arith, h))
apart B1 T2 h = absurd (omega (arith, h))
apart B1 B1 h = absurd (omega (arith, h))
apart B1 B2 h = record {
  both = λ xs ys l. simp (append_assoc, append-nil);
  before-is = λ l. simp (append_assoc, append-nil);
  other = λ xs l. refl;
  same-size = λ n s. refl;
  further = λ s. omega arith;
}
apart B1 B3 h = record {
  both = λ xs ys l. simp (append_assoc, append-nil);
  before-is = λ l. simp (append_assoc, append-nil);
  other = λ xs l. refl;
  same-size = λ n s. refl;
  further = λ s. omega arith;
}
apart B2 T1 h = absurd (omega (arith, h))
apart B2 T2 h = absurd (omega (arith, h))
apart B2 B1 h = absurd (omega (arith, h))
apart B2 B2 h = absurd (omega (arith, h))
apart B2 B3 h = record {
  both = λ xs ys l. simp (append_assoc, append-nil);
  before-is = λ l. simp (append_assoc, append-nil);
  other = λ xs l. refl;
  same-size = λ n s. refl;
  further = λ s. omega arith;
}
apart B3 T1 h = absurd (omega (arith, h))
apart B3 T2 h = absurd (omega (arith, h))
apart B3 B1 h = absurd (omega (arith, h))
apart B3 B2 h = absurd (omega (arith, h))
apart B3 B3 h = absurd (omega (arith, h))

pub others : (x y : ListName) (xs : List ℕ) (l : Lists) → rank x < rank y → names_of y (with_names x xs l) ≡ names_of y l
others x y xs l h = (apart x y h).other xs l

pub ends-later : (x y : ListName) (s : ListSizes) → rank x < rank y → start_of x s + size_of x s ≤ start_of y s
ends-later x y s h = (apart x y h).further s

-- an empty list has no oldest
pub none-out : (x : ListName) (l : Lists) → length (names_of x l) ≡ 0 → out_of x l ≡ l
none-out x l e = ap (λ u. with_names x u l) (none-goes (names_of x l) e) ∙ same-names x l

pub moved-total : (x y : ListName) (s : ListSizes) → rank x < rank y → 1 ≤ size_of x s
    → total (with_size y (size_of y (less_of x s) + 1) (less_of x s)) ≡ total s
moved-total x y s h g =
    let a = (resized-by x (size_of x s - 1) s).total-is in
    let b = (resized-by y (size_of y (less_of x s) + 1) (less_of x s)).total-is in
    omega (arith, a, b, g)

pub moved-kept : (x y : ListName) (n k : ℕ) (s : ListSizes) → Kept (with_size y n (with_size x k s)) s
moved-kept x y n k s =
    let a = (resized-by x k s).kept in
    let b = (resized-by y n (with_size x k s)).kept in
    (b.0 ∙ a.0, b.1 ∙ a.1)

-- the first goes, the rest stays
one_less : (n : ℕ) (xs : List ℕ) → n ≡ length xs → n - 1 ≡ length (drop 1 xs)
one_less n xs e = omega (arith, e, length-drop 1 xs)

one_more : (n : ℕ) (xs ys : List ℕ) → n ≡ length ys → 1 ≤ length xs → n + 1 ≡ length (ys ++ take 1 xs)
one_more n xs ys e h = omega (arith, e, length-append ys (take 1 xs), first_one xs h)

module _ {m : ℕ} {s : ListSizes} {t : List ℕ} {l : Lists} (h : Holds m s t l) where
  rotate-to : (t' : List ℕ) (l' : Lists) (i' i j k : ℕ) → Rotates i j t t' → j < total s
      → i' ≡ i → k ≡ j → end_to_end l' ≡ rotated i' k (end_to_end l) → t' ≡ list_bytes m l'
  rotate-to t' l' i' i j k f g d e q =
      let n = total-is s l h.sized in
      f m (end_to_end l) (omega (arith, n, g)) (omega (arith, n, h.room)) (h.bytes ∙ lists-listed m l)
      ∙ ap (listed m) (sym (q ∙ ap₂ {C = List ℕ} (λ x y. rotated x y (end_to_end l)) d e)) ∙ sym (lists-listed m l')

  remove-to : (t' : List ℕ) (l' : Lists) (i n k : ℕ) → Removes i n t t' → n ≡ total s → k ≡ i
      → end_to_end l' ≡ remove_at (end_to_end l) k → t' ≡ list_bytes m l'
  remove-to t' l' i n k f en e q =
      let z = total-is s l h.sized in
      f m (end_to_end l) (z ∙ sym en) (omega (arith, en, h.room)) (h.bytes ∙ lists-listed m l)
      ∙ ap (listed m) (sym (q ∙ ap (remove_at (end_to_end l)) e)) ∙ sym (lists-listed m l')

  insert-to : (t' : List ℕ) (l' : Lists) (a i n k : ℕ) → total s < m → Inserts i n a t t' → n ≡ total s → k ≡ i
      → end_to_end l' ≡ insert_at k a (end_to_end l) → t' ≡ list_bytes m l'
  insert-to t' l' a i n k more f en e q =
      f m (end_to_end l) (total-is s l h.sized ∙ sym en) (omega (arith, en, more)) (h.bytes ∙ lists-listed m l)
      ∙ ap (listed m) (sym (q ∙ ap (λ x. insert_at x a (end_to_end l)) e)) ∙ sym (lists-listed m l')

-- the same addresses in other brackets
regroup : (pre w mid ys f post : List ℕ) → (pre ++ ((f ++ w) ++ mid)) ++ (ys ++ post) ≡ pre ++ (f ++ ((w ++ (mid ++ ys)) ++ post))
regroup pre w mid ys f post = simp append_assoc

moved-group : (pre w mid ys f post : List ℕ) → pre ++ (w ++ (mid ++ ((ys ++ f) ++ post))) ≡ pre ++ ((w ++ (mid ++ ys)) ++ (f ++ post))
moved-group pre w mid ys f post = simp append_assoc

last-group : (pre xs f post : List ℕ) → pre ++ ((xs ++ f) ++ post) ≡ (pre ++ xs) ++ (f ++ post)
last-group pre xs f post = simp append_assoc

-- the lists end to end when the oldest of x has become the newest of y, has left, or another address has joined: for any lists
any-moved : (x y : ListName) (p : Apart x y) (l : Lists) (o : Some (names_of x l))
    → end_to_end (moved x y l)
    ≡ rotated (length (before x l)) (length (before x l ++ (o.more ++ (between x y l ++ names_of y l)))) (end_to_end l)
any-moved x y p l o =
    let w = o.more in
    let pre = before x l in
    let mid = between x y l in
    let ys = names_of y l in
    let post = after y l in
    let whole : end_to_end l ≡ pre ++ (o.first ∷ ((w ++ (mid ++ ys)) ++ post))
    = lies y l ∙ ap (λ u. u ++ (ys ++ post)) (p.before-is l ∙ ap (λ u. pre ++ (u ++ mid)) o.is)
    ∙ regroup pre w mid ys (o.first ∷ []) post in
    p.both (drop 1 (names_of x l)) (ys ++ take 1 (names_of x l)) l
    ∙ ap (λ u. pre ++ (drop 1 u ++ (mid ++ ((ys ++ take 1 u) ++ post)))) o.is
    ∙ moved-group pre w mid ys (o.first ∷ []) post
    ∙ sym (ap (rotated (length pre) (length (pre ++ (w ++ (mid ++ ys))))) whole ∙ rotate-seam pre (w ++ (mid ++ ys)) post o.first)

any-out : (x : ListName) (l : Lists) (o : Some (names_of x l)) → end_to_end (out_of x l) ≡ remove_at (end_to_end l) (length (before x l))
any-out x l o =
    let pre = before x l in
    let post = after x l in
    laid x (drop 1 (names_of x l)) l ∙ ap (λ u. pre ++ (drop 1 u ++ post)) o.is
    ∙ sym (ap (λ u. remove_at u (length pre)) (lies x l ∙ ap (λ u. pre ++ (u ++ post)) o.is) ∙ remove_seam pre (o.more ++ post) o.first)

any-last : (x : ListName) (a : ℕ) (l : Lists) → end_to_end (with_last x a l) ≡ insert_at (length (before x l ++ names_of x l)) a (end_to_end l)
any-last x a l =
    let pre = before x l in
    let xs = names_of x l in
    let post = after x l in
    laid x (xs ++ (a ∷ [])) l ∙ last-group pre xs (a ∷ []) post
    ∙ sym (ap (insert_at (length (pre ++ xs)) a) (lies x l ∙ sym (append_assoc pre xs post)) ∙ insert_seam (pre ++ xs) post a)

-- .. by the paper's own theorem where the move, the leaving or the joining is one of Algorithm 3's
end-moved : (x y : ListName) (p : Apart x y) (l : Lists) (o : Some (names_of x l))
    → end_to_end (moved x y l)
    ≡ rotated (length (before x l)) (length (before x l ++ (o.more ++ (between x y l ++ names_of y l)))) (end_to_end l)
end-moved T1 B1 p l o = end-t1b1 l o.first o.more o.is
end-moved T1 B3 p l o = end-t1b3 l o.first o.more o.is ∙ ap (λ u. rotated 0 (length (o.more ++ u)) (end_to_end l)) (simp append_assoc)
end-moved T2 B2 p l o = end-t2b2 l o.first o.more o.is
end-moved B1 B3 p l o = end-b1b3 l o.first o.more o.is
end-moved B2 B3 p l o = end-b2b3 l o.first o.more o.is
end-moved x y p l o = any-moved x y p l o

end-out : (x : ListName) (l : Lists) (o : Some (names_of x l)) → end_to_end (out_of x l) ≡ remove_at (end_to_end l) (length (before x l))
end-out B1 l o = end-b1_out l o.first o.more o.is
end-out B2 l o = end-b2_out l o.first o.more o.is
end-out B3 l o = end-b3_out l o.first o.more o.is
end-out x l o = any-out x l o

end-last : (x : ListName) (a : ℕ) (l : Lists) → end_to_end (with_last x a l) ≡ insert_at (length (before x l ++ names_of x l)) a (end_to_end l)
end-last T1 a l = end-join_t1 a l
end-last T2 a l = end-join_t2 a l
end-last x a l = any-last x a l

module _ {m : ℕ} {s : ListSizes} {t : List ℕ} {l : Lists} (h : Holds m s t l) where
  -- x's oldest to y; nothing moves where there is none
  pub holds-moved : (x y : ListName) → rank x < rank y → {t' : List ℕ} (i j : ℕ) → i ≡ start_of x s → j ≡ start_of y s + size_of y s - 1 → 1 ≤ size_of x s
      → Rotates i j t t' → Holds m (with_size y (size_of y (less_of x s) + 1) (less_of x s)) t' (moved x y l)
  holds-moved x y q {t'} i j ei ej g f =
      let z = h.sized in
      let p = apart x y q in
      let n = size-is x z in
      let o = some_of (names_of x l) (omega (arith, g, n)) in
      let w = o.more in
      let pre = before x l in
      let mid = between x y l in
      let ys = names_of y l in
      let r = sized-with x (size_of x s - 1) (drop 1 (names_of x l)) z (one_less (size_of x s) (names_of x l) n) in
      let k : length (pre ++ (w ++ (mid ++ ys))) ≡ j
      = omega (
        arith,
        ej,
        length-append pre (w ++ (mid ++ ys)),
        length-append w (mid ++ ys),
        length-append mid ys,
        start-is y z,
        size-is y z,
        ap length (p.before-is l),
        length-append pre (names_of x l ++ mid),
        length-append (names_of x l) mid,
        ap length o.is,
      ) in
      let far = p.further s in
      let b = (resized-by y 0 s).within in
      record {
        sized = sized-with y (size_of y (less_of x s) + 1) (ys ++ take 1 (names_of x l)) r
            (one_more (size_of y (less_of x s)) (names_of x l) ys (p.same-size (size_of x s - 1) s ∙ size-is y z) (omega (arith, g, n)));
        bytes = rotate-to h t' (moved x y l) (length pre) i j (length (pre ++ (w ++ (mid ++ ys)))) f (omega (arith, g, ej, far, b))
            (sym (start-is x z) ∙ sym ei) k (end-moved x y p l o);
        room = let e = moved-total x y s q g in omega (arith, e, h.room);
      }

  pub holds-moved-none : (x y : ListName) → rank x < rank y → size_of x s ≡ 0 → Holds m s t (moved x y l)
  holds-moved-none x y q e =
      let n : length (names_of x l) ≡ 0 = sym (size-is x h.sized) ∙ e in
      let d = none-out x l n in
      let w : moved x y l ≡ l
      = ap₂ {C = Lists} (λ u v. with_names y u v) (none-comes (names_of x l) (names_of y l) n) d ∙ same-names y l in
      subst (λ u. Holds m s t u) (sym w) h

  -- x's oldest leaves
  pub holds-out : (x : ListName) {t' : List ℕ} (i n : ℕ) → i ≡ start_of x s → n ≡ total s → 1 ≤ size_of x s → Removes i n t t'
      → Holds m (less_of x s) t' (out_of x l)
  holds-out x {t'} i n ei en g f =
      let z = h.sized in
      let k = size-is x z in
      let o = some_of (names_of x l) (omega (arith, g, k)) in
      record {
        sized = sized-with x (size_of x s - 1) (drop 1 (names_of x l)) z (one_less (size_of x s) (names_of x l) k);
        bytes = remove-to h t' (out_of x l) i n (length (before x l)) f en (sym (start-is x z) ∙ sym ei) (end-out x l o);
        room = let e = (resized-by x (size_of x s - 1) s).total-is in omega (arith, e, h.room);
      }

  -- an address joins x
  pub holds-last : (x : ListName) (a : ℕ) → total s < m → {t' : List ℕ} (i n : ℕ) → i ≡ start_of x s + size_of x s → n ≡ total s → Inserts i n a t t'
      → Holds m (with_size x (size_of x s + 1) s) t' (with_last x a l)
  holds-last x a more {t'} i n ei en f =
      let z = h.sized in
      let k = size-is x z in
      record {
        sized = sized-with x (size_of x s + 1) (names_of x l ++ (a ∷ [])) z (omega (arith, k, length-append (names_of x l) (a ∷ [])));
        bytes = insert-to h t' (with_last x a l) a i n (length (before x l ++ names_of x l)) more f en
            (omega (arith, ei, k, start-is x z, length-append (before x l) (names_of x l))) (end-last x a l);
        room = let e = (resized-by x (size_of x s + 1) s).total-is in omega (arith, e, more);
      }
