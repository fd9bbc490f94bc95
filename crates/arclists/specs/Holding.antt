-- When sizes and lent bytes are those of D-ARC's lists. Assumes nothing.
use Rattle.std.specs.Prelude.{◌≡◌, cond, Option, None, Some, List, [], ◌∷◌, ◌++◌, ℕ, ◌+◌, ◌-◌, ◌^◌, ◌≤◌, ◌<◌, ltb, length, take, drop}
use Rattle.arc.specs.Arc as Arc
use Rattle.arc.specs.Arc.{Lists}
use Rattle.paper.specs.KeyedLaws.{All}
use Rattle.arc.specs.ArcLent.{list_bytes, end_to_end, ListRecord}
use Rattle.arclists.specs.declared.ListSizes.{ListSizes}
use Rattle.arclists.specs.declared.ListName.{ListName}
use Rattle.arclists.specs.declared.ListName.TheVariants.{T1, T2, B1, B2, B3}

abbrev pub total : ListSizes → ℕ
total s = s.t1 + s.t2 + s.b1 + s.b2 + s.b3

-- other sizes of the lists, and the rest as it is
abbrev pub resized : ListSizes → (t1 t2 b1 b2 b3 : ℕ) → ListSizes
resized s t1 t2 b1 b2 b3 = record { t1 = t1; t2 = t2; b1 = b1; b2 = b2; b3 = b3; p = s.p; cached = s.cached; extra = s.extra }

-- "the record has their sizes and the number p": they are those of the lists
pub record Sized (s : ListSizes) (l : Lists) : Type 0 where
  pub t1-is : s.t1 ≡ length l.T1
  pub t2-is : s.t2 ≡ length l.T2
  pub b1-is : s.b1 ≡ length l.B1
  pub b2-is : s.b2 ≡ length l.B2
  pub b3-is : s.b3 ≡ length l.B3
  pub p-is : s.p ≡ l.p

-- .. and so are the bytes, in which m addresses have room
pub record Holds (m : ℕ) (s : ListSizes) (t : List ℕ) (l : Lists) : Type 0 where
  pub sized : Sized s l
  pub bytes : t ≡ list_bytes m l
  pub room : total s ≤ m

-- the numbers that stay
abbrev pub Kept : ListSizes → ListSizes → Type 0
Kept r s = (r.cached ≡ s.cached) × (r.extra ≡ s.extra)

-- the addresses of a list, its size, and the place of its first address
abbrev pub names_of : ListName → Lists → List ℕ
names_of T1 l = l.T1
names_of T2 l = l.T2
names_of B1 l = l.B1
names_of B2 l = l.B2
names_of B3 l = l.B3

abbrev pub size_of : ListName → ListSizes → ℕ
size_of T1 s = s.t1
size_of T2 s = s.t2
size_of B1 s = s.b1
size_of B2 s = s.b2
size_of B3 s = s.b3

abbrev pub start_of : ListName → ListSizes → ℕ
start_of T1 s = 0
start_of T2 s = s.t1
start_of B1 s = s.t1 + s.t2
start_of B2 s = s.t1 + s.t2 + s.b1
start_of B3 s = s.t1 + s.t2 + s.b1 + s.b2

-- which list comes before which, end to end
abbrev pub rank : ListName → ℕ
rank T1 = 0
rank T2 = 1
rank B1 = 2
rank B2 = 3
rank B3 = 4

-- other addresses in a list, another size of it, and the rest as it is
abbrev pub with_names : ListName → List ℕ → Lists → Lists
with_names T1 xs l = record { T1 = xs; T2 = l.T2; B1 = l.B1; B2 = l.B2; B3 = l.B3; p = l.p }
with_names T2 xs l = record { T1 = l.T1; T2 = xs; B1 = l.B1; B2 = l.B2; B3 = l.B3; p = l.p }
with_names B1 xs l = record { T1 = l.T1; T2 = l.T2; B1 = xs; B2 = l.B2; B3 = l.B3; p = l.p }
with_names B2 xs l = record { T1 = l.T1; T2 = l.T2; B1 = l.B1; B2 = xs; B3 = l.B3; p = l.p }
with_names B3 xs l = record { T1 = l.T1; T2 = l.T2; B1 = l.B1; B2 = l.B2; B3 = xs; p = l.p }

abbrev pub with_size : ListName → ℕ → ListSizes → ListSizes
with_size T1 n s = resized s n s.t2 s.b1 s.b2 s.b3
with_size T2 n s = resized s s.t1 n s.b1 s.b2 s.b3
with_size B1 n s = resized s s.t1 s.t2 n s.b2 s.b3
with_size B2 n s = resized s s.t1 s.t2 s.b1 n s.b3
with_size B3 n s = resized s s.t1 s.t2 s.b1 s.b2 n

-- "B1's oldest, or B2's if B1 is empty, is evicted first", "B3's oldest is evicted": a list without its oldest, and the sizes then; `out_of B1 l` is
-- the paper's `b1_out l`, and so on
abbrev pub out_of : ListName → Lists → Lists
out_of x l = with_names x (drop 1 (names_of x l)) l

abbrev pub less_of : ListName → ListSizes → ListSizes
less_of x s = with_size x (size_of x s - 1) s

-- ".. and joins one last": an address becomes the newest of a list; `with_last T1 a l` is the paper's `join_t1 a l`
abbrev pub with_last : ListName → ℕ → Lists → Lists
with_last x a l = with_names x (names_of x l ++ (a ∷ [])) l

-- "move LRU from" a list "to" a later one: `moved T1 B1 l` is the paper's `t1b1 l`, and so on
abbrev pub moved : ListName → ListName → Lists → Lists
moved x y l = with_names y (names_of y l ++ take 1 (names_of x l)) (out_of x l)

-- "which list it was is remembered", as the paper has it
abbrev pub was_of : Option ListName → Arc.Was
was_of (Some T1) = Arc.in_t1
was_of (Some T2) = Arc.in_t2
was_of (Some B1) = Arc.in_b1
was_of (Some B2) = Arc.in_b2
was_of (Some B3) = Arc.in_b3
was_of None = Arc.unheld

-- which list a place is in, by the running sums of the sizes
unfoldable pub which_at : ListSizes → ℕ → Option ListName
which_at s i =
    cond (ltb i s.t1) (Some T1)
    (cond (ltb i (s.t1 + s.t2)) (Some T2)
    (cond (ltb i (s.t1 + s.t2 + s.b1)) (Some B1)
    (cond (ltb i (s.t1 + s.t2 + s.b1 + s.b2)) (Some B2)
    (cond (ltb i (s.t1 + s.t2 + s.b1 + s.b2 + s.b3)) (Some B3) None))))

-- the sizes without an address of that list
abbrev pub left_sizes : Option ListName → ListSizes → ListSizes
left_sizes (Some x) s = less_of x s
left_sizes None s = s

-- each address fits in four bytes
abbrev pub Low : Lists → Type 0
Low l = All (λ a. a < 2 ^ 32) (end_to_end l)

-- the sizes and p as the record has them
abbrev pub rec_of : ListSizes → ListRecord
rec_of s = record { t1 = s.t1; t2 = s.t2; b1 = s.b1; b2 = s.b2; b3 = s.b3; p = s.p }

-- a box with this C and this X; the check of the lists looks at no more of it
abbrev pub Limits : Arc.Sizes → ListSizes → Type 0
Limits Z s = (Z.C ≡ s.cached) × (Z.X ≡ s.extra)

abbrev pub limits_of : ListSizes → Arc.Sizes
limits_of s = record { B = 0; P = 0; C = s.cached; X = s.extra; label = []; t = 0 }
