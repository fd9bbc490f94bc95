-- What the functions of `tables` find and leave, in the paper's rows. Assumes nothing.
use Rattle.std.specs.Prelude.{◌≡◌, refl, Bool, true, false, not, ◌&&◌, List, [], ◌∷◌, ◌++◌, map, ℕ, suc, ◌≤◌, ◌<◌, ◌+◌, eqb, length, None, Option, Some, is_none, unwrap_or, is_some}
use Rattle.std.proofs.Common.{sym, ap, ap₂, ◌∙◌, zero-add, arith, length-append}
use Rattle.std.proofs.lemmas.List.{length-map}
use Rattle.tables.specs.Rows.{rows}
use Rattle.tables.specs.Find.{find_from, has_address, has_fingerprint, caches, same}
use Rattle.tables.specs.Index.{unknown_in}
use Rattle.tables.specs.Records.{address_bytes, block_bytes, free_row, read_address, read_block}
use Rattle.tables.specs.Records as R
use Rattle.tables.proofs.OperationLaws.{map-++}
use Rattle.tables.specs.ShiftLaws.{length-zeros}
use Rattle.table_laws.specs.Written.{address-address, address-print, block-print, block-used, held-rows, block-rows}
use Rattle.paper.specs.Keyed.{has}
use Rattle.paper.specs.KeyedLaws.{All, by-test, eqb→≡, eqb-self, eqb_swap}
use Rattle.paper.specs.Cache.{AddressRow, BlockRow, known, cached}
use Rattle.paper.specs.Engine.{Fixed, comparing}
use Rattle.paper.specs.Lent.{held_row, used_row}
use Rattle.paper.specs.Index.{index_where}
use Rattle.paper.proofs.IndexLaws.{index-none, index-map}
use Rattle.paper.specs.LentLaws.{table_rows}
use Rattle.paper.proofs.LentLaws.{held-wide, table-wide, table-length}
use Rattle.paper.specs.Layout.{addresses_of, blocks_of, Addrs, Blocks}

-- a row's bytes
abbrev pub addr_bytes : AddressRow (Fixed 32) → List ℕ
addr_bytes r = address_bytes (held_row r)

abbrev pub used_bytes : BlockRow (Fixed 32) → List ℕ
used_bytes u = block_bytes (used_row u)

abbrev pub free_bytes : ℕ → List ℕ
free_bytes k = block_bytes (free_row k)

map-map : {A B C : Type 0} (f : B → C) (g : A → B) (l : List A) → map f (map g l) ≡ map (λ x. f (g x)) l
map-map f g [] = refl
map-map {C = C} f g (x ∷ xs) = ap {B = List C} (λ l. f (g x) ∷ l) (map-map f g xs)

pub length-blocks : (free : List ℕ) (used : List (BlockRow (Fixed 32))) → length (map free_bytes free ++ map used_bytes used) ≡ length free + length used
length-blocks free used = length-append (map free_bytes free) (map used_bytes used) ∙ ap₂ ◌+◌ (length-map free free_bytes) (length-map used used_bytes)

-- the rows of the two tables
pub rows-addrs : (P m n : ℕ) (t : List ℕ) (l : List (AddressRow (Fixed 32))) → Addrs P m n t l → rows n t ≡ map addr_bytes l
unfolding addresses_of
rows-addrs P m n t l h = ap (rows n) h.is ∙ held-rows m (map held_row l) (held-wide l) n (length-map l held_row ∙ h.count) ∙ map-map address_bytes held_row l

pub rows-blocks : (d : ℕ) (t : List ℕ) (free : List ℕ) (used : List (BlockRow (Fixed 32))) → Blocks d t free used
    → rows d t ≡ map free_bytes free ++ map used_bytes used
unfolding blocks_of
rows-blocks d t free used h =
    ap (rows d) h.is ∙ block-rows (table_rows free used) (table-wide free used) d (table-length free used ∙ h.count)
    ∙ map-++ block_bytes (map free_row free) (map used_row used) ∙ ap₂ {C = List (List ℕ)} ◌++◌ (map-map block_bytes free_row free) (map-map block_bytes used_row used)

-- ---- searches

pub placed-index : {A : Type 0} (p : A → Bool) (k : ℕ) (l : List A) → unwrap_or (find_from p k l) (k + length l) ≡ k + index_where p l
unfolding find_from index_where
placed-index p k [] = refl
placed-index p k (x ∷ xs) =
    by-test (p x) (λ e. rw e (omega arith))
    (λ e. rw e ((let z : k + suc (length xs) ≡ suc k + length xs = omega arith in ap (unwrap_or (find_from p (suc k) xs)) z) ∙ placed-index p (suc k) xs
    ∙ omega arith))

pub placed_first : {A : Type 0} (p : A → Bool) (l : List A) → unwrap_or (find_from p 0 l) (length l) ≡ index_where p l
placed_first p l = ap (unwrap_or (find_from p 0 l)) (sym (zero-add (length l))) ∙ placed-index p 0 l ∙ zero-add (index_where p l)

eqb_comm : (m n : ℕ) → eqb m n ≡ eqb n m
eqb_comm m n = by-test (eqb m n) (λ e. e ∙ sym (ap (λ (k : ℕ). eqb n k) (eqb→≡ m n e) ∙ eqb-self n)) (λ e. e ∙ sym (eqb_swap m n e))

pub same-is : (x y : List ℕ) → same x y ≡ same y x
unfolding same
same-is [] [] = refl
same-is [] (b ∷ y) = refl
same-is (a ∷ x) [] = refl
same-is (a ∷ x) (b ∷ y) = ap₂ {C = Bool} ◌&&◌ (eqb_comm a b) (same-is x y)

has-addr : (a P : ℕ) → P ≤ 65536 → (r : AddressRow (Fixed 32)) → r.address < P → has_address a (addr_bytes r) ≡ eqb a r.address
has-addr a P hp r h = ap (λ (k : ℕ). eqb k a) (address-address (held_row r) (omega arith)) ∙ eqb_comm r.address a

pub fp-of : (r : AddressRow (Fixed 32)) → (read_address (addr_bytes r)).fingerprint ≡ r.fingerprint.0
fp-of r = address-print (held_row r) r.fingerprint.1

pub has-fp : (g : List ℕ) (f : Fixed 32) → f.0 ≡ g → (r : AddressRow (Fixed 32)) → has_fingerprint g (addr_bytes r) ≡ comparing.same f r.fingerprint
has-fp g f e r = ap (λ (x : List ℕ). same x g) (fp-of r) ∙ same-is r.fingerprint.0 g ∙ ap (λ (x : List ℕ). same x r.fingerprint.0) (sym e)

pub fp-used : (u : BlockRow (Fixed 32)) → (read_block (used_bytes u)).fingerprint ≡ u.fingerprint.0
fp-used u = block-print (used_row u) u.fingerprint.1

pub flag-used : (u : BlockRow (Fixed 32)) → (read_block (used_bytes u)).used ≡ 1
flag-used u = block-used (used_row u) u.fingerprint.1

pub flag-free : (k : ℕ) → (read_block (free_bytes k)).used ≡ 0
flag-free k = block-used (free_row k) (length-zeros 32)

has-used : (g : List ℕ) (f : Fixed 32) → f.0 ≡ g → (u : BlockRow (Fixed 32)) → caches g (used_bytes u) ≡ comparing.same f u.fingerprint
has-used g f e u =
    ap (λ (k : ℕ). eqb k 1 && same (read_block (used_bytes u)).fingerprint g) (flag-used u)
    ∙ ap (λ (x : List ℕ). same x g) (fp-used u) ∙ same-is u.fingerprint.0 g ∙ ap (λ (x : List ℕ). same x u.fingerprint.0) (sym e)

pub absent-is : (f : Option ℕ) → is_none f ≡ not (is_some f)
absent-is (Some i) = refl
absent-is None = refl

found-has : {K A : Type 0} (same : K → K → Bool) (key : A → K) (k : K) (p : List ℕ → Bool) (f : A → List ℕ) → ((x : A) → p (f x) ≡ same k (key x))
    → (j : ℕ) (l : List A) → is_some (find_from p j (map f l)) ≡ has same key k l
unfolding find_from
found-has same key k p f e j [] = refl
found-has same key k p f e j (x ∷ xs) = rw (e x) (by-test (same k (key x)) (λ y. rw y refl) (λ y. rw y (found-has same key k p f e (suc j) xs)))

pub used-has : (g : List ℕ) (q : Fixed 32) → q.0 ≡ g → (j : ℕ) (l : List (BlockRow (Fixed 32)))
    → is_some (find_from (caches g) j (map used_bytes l)) ≡ cached (comparing) q l
used-has g q eq j l = found-has comparing.same (λ u. u.fingerprint) q (caches g) used_bytes (has-used g q eq) j l

none_free : (g : List ℕ) (l : List ℕ) → All (λ x. caches g x ≡ false) (map free_bytes l)
none_free g [] = tt
none_free g (k ∷ ks) = (ap (λ (n : ℕ). eqb n 1 && same (read_block (free_bytes k)).fingerprint g) (flag-free k), none_free g ks)

pub all_any : {A : Type 0} (l : List A) → All (λ x. Unit {0}) l
all_any [] = tt
all_any (x ∷ xs) = (tt, all_any xs)

-- find_address, find_fingerprint, find_cached
pub addr-index : (P m n : ℕ) (t : List ℕ) (l : List (AddressRow (Fixed 32))) → Addrs P m n t l → (a : ℕ) (f : Option ℕ)
    → find_from (has_address a) 0 (rows n t) ≡ f → unwrap_or f n ≡ index_where (λ x. eqb a x.address) l
addr-index P m n t l h a f e =
    ap (λ (y : Option ℕ). unwrap_or y n) (sym e ∙ ap (find_from (has_address a) 0) (rows-addrs P m n t l h))
    ∙ ap (unwrap_or (find_from (has_address a) 0 (map addr_bytes l))) (sym (length-map l addr_bytes ∙ h.count))
    ∙ placed_first (has_address a) (map addr_bytes l)
    ∙ index-map addr_bytes (has_address a) (λ x. eqb a x.address) (λ r. r.address < P) (has-addr a P h.small) l h.below

pub block-index : (d : ℕ) (t : List ℕ) (free : List ℕ) (used : List (BlockRow (Fixed 32))) → Blocks d t free used → (g : List ℕ) (q : Fixed 32) → q.0 ≡ g
    → (f : Option ℕ) → find_from (caches g) 0 (rows d t) ≡ f
    → unwrap_or f d ≡ length free + index_where (λ u. comparing.same q u.fingerprint) used
block-index d t free used h g q eq f e =
    ap (λ (y : Option ℕ). unwrap_or y d) (sym e ∙ ap (find_from (caches g) 0) (rows-blocks d t free used h))
    ∙ ap (unwrap_or (find_from (caches g) 0 (map free_bytes free ++ map used_bytes used))) (sym (length-blocks free used ∙ h.count))
    ∙ placed_first (caches g) (map free_bytes free ++ map used_bytes used)
    ∙ index-none (caches g) (map free_bytes free) (map used_bytes used) (none_free g free)
    ∙ ap₂ ◌+◌ (length-map free free_bytes) (index-map used_bytes (caches g) (λ u. comparing.same q u.fingerprint) (λ r. Unit {0})
    (λ r u. has-used g q eq r) used (all_any used))

pub fp-known : (P m n : ℕ) (t : List ℕ) (l : List (AddressRow (Fixed 32))) → Addrs P m n t l → (g : List ℕ) (q : Fixed 32) → q.0 ≡ g → (f : Option ℕ)
    → find_from (has_fingerprint g) 0 (rows n t) ≡ f → is_some f ≡ known (comparing) q l
fp-known P m n t l h g q eq f e =
    ap is_some (sym e ∙ ap (find_from (has_fingerprint g) 0) (rows-addrs P m n t l h))
    ∙ found-has comparing.same (λ r. r.fingerprint) q (has_fingerprint g) addr_bytes (has-fp g q eq) 0 l

-- a used block row's fingerprint is that of none of the rows l
row-unknown : (l : List (AddressRow (Fixed 32))) (u : BlockRow (Fixed 32))
    → unknown_in (map addr_bytes l) (used_bytes u) ≡ not (known comparing u.fingerprint l)
row-unknown l u =
    let g = (read_block (used_bytes u)).fingerprint in
    ap (λ (k : ℕ). eqb k 1 && is_none (find_from (has_fingerprint g) 0 (map addr_bytes l))) (flag-used u)
    ∙ absent-is (find_from (has_fingerprint g) 0 (map addr_bytes l))
    ∙ ap not (found-has comparing.same (λ r. r.fingerprint) u.fingerprint (has_fingerprint g) addr_bytes (has-fp g u.fingerprint (sym (fp-used u))) 0 l)

-- the first such row
pub unknown-first : (l : List (AddressRow (Fixed 32))) (d : ℕ) (bt : List ℕ) (used : List (BlockRow (Fixed 32))) → Blocks d bt [] used
    → unwrap_or (find_from (unknown_in (map addr_bytes l)) 0 (rows d bt)) d ≡ index_where (λ u. not (known comparing u.fingerprint l)) used
unknown-first l d bt used hb =
    let p = unknown_in (map addr_bytes l) in
    ap (λ (r : List (List ℕ)). unwrap_or (find_from p 0 r) d) (rows-blocks d bt [] used hb)
    ∙ ap (unwrap_or (find_from p 0 (map used_bytes used))) (sym (length-blocks [] used ∙ hb.count))
    ∙ placed_first p (map used_bytes used)
    ∙ index-map used_bytes p (λ u. not (known comparing u.fingerprint l)) (λ u. Unit {0}) (λ u y. row-unknown l u) used (all_any used)

-- the rows xs in front do not pass
found-past : {A : Type 0} (p : A → Bool) (xs ys : List A) (b : Bool) → All (λ x. p x ≡ false) xs → ((i : ℕ) → is_some (find_from p i ys) ≡ b) → (j : ℕ)
    → is_some (find_from p j (xs ++ ys)) ≡ b
unfolding find_from
found-past p [] ys b q f j = f j
found-past p (x ∷ xs) ys b q f j = rw q.0 (found-past p xs ys b q.1 f (suc j))

pub fp-cached : (d : ℕ) (t : List ℕ) (free : List ℕ) (used : List (BlockRow (Fixed 32))) → Blocks d t free used → (g : List ℕ) (q : Fixed 32) → q.0 ≡ g
    → is_some (find_from (caches g) 0 (rows d t)) ≡ cached (comparing) q used
fp-cached d t free used h g q eq =
    ap (λ (l : List (List ℕ)). is_some (find_from (caches g) 0 l)) (rows-blocks d t free used h)
    ∙ found-past (caches g) (map free_bytes free) (map used_bytes used) (cached (comparing) q used) (none_free g free) (λ i. used-has g q eq i used) 0
