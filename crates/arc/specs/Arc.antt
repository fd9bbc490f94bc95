-- D-ARC: the lists beside the tables, the subroutines of Algorithm 3, and the step of one request (Algorithm 2). Each definition under its sentence of U5.
-- Assumes nothing.
use Rattle.std.specs.Prelude.{Bool, true, false, not, ◌&&◌, ◌||◌, cond, List, [], ◌∷◌, ◌++◌, ℕ, zero, suc, ◌+◌, ◌-◌, ◌/◌, eqb, leb, ltb, length, take, drop}
use Rattle.std.proofs.Math.Option.{Option, none, some}
use Rattle.paper.specs.Keyed.{has, without}
use Rattle.paper.specs.Cache.{Numbers, Hashing, Seat, AddressRow, BlockRow, Box, Request, Stepped, Taken, newest, block_row, row_of, without_address, cached}
use Rattle.paper.specs.Cache.{without_block, slot_of, copied, copies, oldest_unknown, taken_used, stored}
use Rattle.arc.specs.Policy.{Ran, Policy}

-- The numbers of a D-ARC box: B and P as in the base. "Its own opening call takes C (cached blocks, its d) and X (extra addresses); its m is
-- 2 × C + X."
pub record Sizes : Type 0 where
  pub B : ℕ
  pub P : ℕ
  pub C : ℕ
  pub X : ℕ
  -- U6: the office label
  pub label : List ℕ
  -- U8: "a limit t from 1 to m"
  pub t : ℕ

abbrev pub m_of : Sizes → ℕ
m_of Z = Z.C + Z.C + Z.X

-- the base's numbers of it
abbrev pub base_numbers : Sizes → Numbers
base_numbers Z = record { B = Z.B; P = Z.P; m = m_of Z; d = Z.C; label = Z.label; t = Z.t }

-- "Beside the tables .. lie its lists T1, T2, B1, B2, B3, oldest first", "and the number p, first 0"
pub record Lists : Type 0 where
  pub T1 : List ℕ
  pub T2 : List ℕ
  pub B1 : List ℕ
  pub B2 : List ℕ
  pub B3 : List ℕ
  pub p : ℕ

abbrev pub no_lists : Lists
no_lists = record { T1 = []; T2 = []; B1 = []; B2 = []; B3 = []; p = 0 }

abbrev pub is_in : ℕ → List ℕ → Bool
is_in a l = has eqb (λ x. x) a l

abbrev pub out : ℕ → List ℕ → List ℕ
out a l = without eqb (λ x. x) a l

abbrev pub is_nil : List ℕ → Bool
is_nil [] = true
is_nil (x ∷ xs) = false

-- "which list it was is remembered"
pub data Was : Type 0 where
  in_t1 in_t2 in_b1 in_b2 in_b3 unheld : Was

unfoldable pub list_of : ℕ → Lists → Was
list_of a l =
    cond (is_in a l.T1) in_t1
    (cond (is_in a l.T2) in_t2
    (cond (is_in a l.B1) in_b1
    (cond (is_in a l.B2) in_b2
    (cond (is_in a l.B3) in_b3 unheld))))

abbrev pub was_b2 : Was → Bool
was_b2 in_t1 = false
was_b2 in_t2 = false
was_b2 in_b1 = false
was_b2 in_b2 = true
was_b2 in_b3 = false
was_b2 unheld = false

-- "the requested address leaves its list first"; by a write invalidate too
abbrev pub left : ℕ → Lists → Lists
left a l = record { T1 = out a l.T1; T2 = out a l.T2; B1 = out a l.B1; B2 = out a l.B2; B3 = out a l.B3; p = l.p }

-- "move LRU from T1 to B1", and so on: the oldest of a list, if there is one, becomes the newest of another
abbrev pub t1b1 : Lists → Lists
t1b1 l = record { T1 = drop 1 l.T1; T2 = l.T2; B1 = l.B1 ++ take 1 l.T1; B2 = l.B2; B3 = l.B3; p = l.p }

abbrev pub t2b2 : Lists → Lists
t2b2 l = record { T1 = l.T1; T2 = drop 1 l.T2; B1 = l.B1; B2 = l.B2 ++ take 1 l.T2; B3 = l.B3; p = l.p }

abbrev pub t1b3 : Lists → Lists
t1b3 l = record { T1 = drop 1 l.T1; T2 = l.T2; B1 = l.B1; B2 = l.B2; B3 = l.B3 ++ take 1 l.T1; p = l.p }

abbrev pub b1b3 : Lists → Lists
b1b3 l = record { T1 = l.T1; T2 = l.T2; B1 = drop 1 l.B1; B2 = l.B2; B3 = l.B3 ++ take 1 l.B1; p = l.p }

abbrev pub b2b3 : Lists → Lists
b2b3 l = record { T1 = l.T1; T2 = l.T2; B1 = l.B1; B2 = drop 1 l.B2; B3 = l.B3 ++ take 1 l.B2; p = l.p }

-- the oldest of a list is evicted
abbrev pub b1_out : Lists → Lists
b1_out l = record { T1 = l.T1; T2 = l.T2; B1 = drop 1 l.B1; B2 = l.B2; B3 = l.B3; p = l.p }

abbrev pub b2_out : Lists → Lists
b2_out l = record { T1 = l.T1; T2 = l.T2; B1 = l.B1; B2 = drop 1 l.B2; B3 = l.B3; p = l.p }

abbrev pub b3_out : Lists → Lists
b3_out l = record { T1 = l.T1; T2 = l.T2; B1 = l.B1; B2 = l.B2; B3 = drop 1 l.B3; p = l.p }

-- ".. and joins one last": the newest of T1, or of T2
abbrev pub join_t1 : ℕ → Lists → Lists
join_t1 a l = record { T1 = l.T1 ++ (a ∷ []); T2 = l.T2; B1 = l.B1; B2 = l.B2; B3 = l.B3; p = l.p }

abbrev pub join_t2 : ℕ → Lists → Lists
join_t2 a l = record { T1 = l.T1; T2 = l.T2 ++ (a ∷ []); B1 = l.B1; B2 = l.B2; B3 = l.B3; p = l.p }

abbrev pub with_p : ℕ → Lists → Lists
with_p n l = record { T1 = l.T1; T2 = l.T2; B1 = l.B1; B2 = l.B2; B3 = l.B3; p = n }

-- "A hit in B1 raises p by the larger of 1 and the quotient of B2's size by B1's, rounded down, to at most C. A hit in B2 lowers p by the larger
-- of 1 and the opposite quotient, to at least 0." "the sizes before serve only for the two quotients"
abbrev pub larger : ℕ → ℕ → ℕ
larger a b = cond (ltb a b) b a

abbrev pub smaller : ℕ → ℕ → ℕ
smaller a b = cond (ltb a b) a b

unfoldable pub new_p : ℕ → Was → Lists → ℕ
new_p C in_t1 l = l.p
new_p C in_t2 l = l.p
new_p C in_b1 l = smaller C (l.p + larger 1 (length l.B2 / length l.B1))
new_p C in_b2 l = l.p - larger 1 (length l.B1 / length l.B2)
new_p C in_b3 l = l.p
new_p C unheld l = l.p

-- "if |T1| > 0 and (|T1| > p or (x in B2 and |T1| = p))"; "Where the replacement would take from an empty T2, it takes from T1"
unfoldable pub takes_t1 : Bool → Lists → Bool
takes_t1 b2 l = not (is_nil l.T1) && (is_nil l.T2 || (ltb l.p (length l.T1) || (b2 && eqb (length l.T1) l.p)))

-- an address of T1 or T2, and the rows of these
abbrev pub on_top : Lists → ℕ → Bool
on_top l a = is_in a l.T1 || is_in a l.T2

unfoldable pub top_rows : {F : Type 0} → Lists → List (AddressRow F) → List (AddressRow F)
top_rows l [] = []
top_rows l (r ∷ rs) = cond (on_top l r.address) (r ∷ top_rows l rs) (top_rows l rs)

module _ {F X : Type 0} (H : Hashing F X) where
  -- "Dirty blocks and evicted dirty addresses reach disk first, as in the base.": the row of x is taken out, after its block is copied if it was dirty
  unfoldable pub row_out : ℕ → Option (AddressRow F) → Stepped F X → Stepped F X
  row_out x none t = t
  row_out x (some r) t =
      record {
        box = record {
          rows = without_address x t.box.rows;
          free = t.box.free;
          used = t.box.used;
          flash = t.box.flash;
          disk = copied H (λ f. true) (r ∷ []) t.box.used t.box.flash t.box.disk;
        };
        flash_writes = t.flash_writes;
        primary_writes = t.primary_writes + copies H (λ f. true) (r ∷ []);
      }

  -- the oldest address of a list leaves the box
  unfoldable pub evicted : List ℕ → Stepped F X → Stepped F X
  evicted [] t = t
  evicted (x ∷ xs) t = row_out x (row_of x t.box.rows) t

  abbrev pub b1_evicted : Ran F X Lists → Ran F X Lists
  b1_evicted t = record { kept = b1_out t.kept; stepped = evicted t.kept.B1 t.stepped }

  abbrev pub b2_evicted : Ran F X Lists → Ran F X Lists
  b2_evicted t = record { kept = b2_out t.kept; stepped = evicted t.kept.B2 t.stepped }

  abbrev pub b3_evicted : Ran F X Lists → Ran F X Lists
  b3_evicted t = record { kept = b3_out t.kept; stepped = evicted t.kept.B3 t.stepped }

  abbrev pub listed : (Lists → Lists) → Ran F X Lists → Ran F X Lists
  listed f t = record { kept = f t.kept; stepped = t.stepped }

  -- "Where B1 and B2 would pass C, B1's oldest, or B2's if B1 is empty, is evicted first."
  unfoldable pub room_in_b : ℕ → Ran F X Lists → Ran F X Lists
  room_in_b C t =
      cond (leb C (length t.kept.B1 + length t.kept.B2))
      (cond (is_nil t.kept.B1) (b2_evicted t) (b1_evicted t))
      t

  -- REPLACEINMETADATACACHE: "move LRU from T1 to B1", else "from T2 to B2"; "where both are empty it does nothing"
  unfoldable pub replace : ℕ → Bool → Ran F X Lists → Ran F X Lists
  replace C b2 t =
      cond (is_nil t.kept.T1 && is_nil t.kept.T2) t
      (cond (takes_t1 b2 t.kept) (listed t1b1 (room_in_b C t)) (listed t2b2 (room_in_b C t)))

  -- MANAGEMETADATACACHE. "Of the metadata subroutine's four ways, the two that name the replacement always run it."
  unfoldable pub manage : ℕ → Bool → Ran F X Lists → Ran F X Lists
  manage C b2 t =
      cond (leb C (length t.kept.T1 + length t.kept.B1))
      (cond (ltb (length t.kept.T1) C)
      (replace C b2 (listed b1b3 t))
      (cond (is_nil t.kept.B1) (listed t1b3 t) (listed t1b1 (listed b1b3 t))))
      (cond (leb C (length t.kept.B1 + length t.kept.B2)) (replace C b2 (listed b2b3 t)) (replace C b2 t))

  -- CHECKMETADATACACHE. "B3's oldest is evicted only if there is one."
  unfoldable pub check : Sizes → Bool → Ran F X Lists → Ran F X Lists
  check Z b2 t =
      cond (eqb (length t.kept.T1 + length t.kept.T2 + length t.kept.B3) (Z.C + Z.X))
      (b3_evicted (cond (is_nil t.kept.B3) (manage Z.C b2 t) t))
      t

  -- "Step 4's victim is the oldest block whose fingerprint no address of T1 or T2 has"
  abbrev pub victim_of : Lists → Box F X → Option (BlockRow F)
  victim_of l s = oldest_unknown H (top_rows l s.rows) s.used

  abbrev pub is_some : {A : Type 0} → Option A → Bool
  is_some none = false
  is_some (some x) = true

  -- "A free block row is taken before any victim."
  unfoldable pub has_row : Lists → Box F X → Bool
  has_row l s = not (is_nil s.free) || is_some (victim_of l s)

  -- what "runs again": REPLACEINMETADATACACHE, as in the paragraph's other sentences (Algorithm 3 prints MANAGEMETADATACACHE; the laws hold with it
  -- too, `manage-sheds`)
  abbrev pub again : ℕ → Bool → Ran F X Lists → Ran F X Lists
  again C b2 t = replace C b2 t

  -- "where a row is needed and there is neither that nor a free one, the replacement runs again until there is": at most n times
  unfoldable pub cleared : ℕ → ℕ → Bool → Ran F X Lists → Ran F X Lists
  cleared zero C b2 t = t
  cleared (suc n) C b2 t = cond (has_row t.kept t.stepped.box) t (cleared n C b2 (again C b2 t))

  -- as often as it takes: each run takes one address out of T1 and T2 (`cleared-ends` in the laws)
  abbrev pub cleared! : ℕ → Bool → Ran F X Lists → Ran F X Lists
  cleared! C b2 t = cleared (length t.kept.T1 + length t.kept.T2) C b2 t

  unfoldable pub taken_by : Lists → Box F X → List ℕ → Taken F
  taken_by l s (k ∷ free) = record { slot = k; lost = none; free = free; used = s.used }
  taken_by l s [] = taken_used H (victim_of l s) s.used

  -- "Dirty blocks .. reach disk first, as in the base": step 4's storing of b
  unfoldable pub stored_in : F → X → Ran F X Lists → Ran F X Lists
  stored_in g b t =
      let s = t.stepped.box in
      let v = stored H s.rows s.used s.flash s.disk g b t.stepped.primary_writes (taken_by t.kept s s.free) in
      record { kept = t.kept; stepped = v }

  -- "If g is cached, its block row becomes newest."
  unfoldable pub block_newest : F → Ran F X Lists → Ran F X Lists
  block_newest g t =
      let s = t.stepped.box in
      record {
        kept = t.kept;
        stepped = record {
          box = record {
            rows = s.rows;
            free = s.free;
            used = without_block H g s.used ++ (block_row g (slot_of H g s.used) ∷ []);
            flash = s.flash;
            disk = s.disk;
          };
          flash_writes = t.stepped.flash_writes;
          primary_writes = t.stepped.primary_writes;
        };
      }

  -- INSERTINDATACACHE. "A changed content is inserted whichever list held the address"
  unfoldable pub inserted : ℕ → Bool → F → X → Ran F X Lists → Ran F X Lists
  inserted C b2 g b t = cond (cached H g t.stepped.box.used) (block_newest g t) (stored_in g b (cleared! C b2 t))

  -- the requested address leaves: its row as in base step 1, its entry, and p moves
  unfoldable pub parted : ℕ → Lists → Box F X → ℕ → Was → Ran F X Lists
  parted C l s a w =
      record {
        kept = with_p (new_p C w l) (left a l);
        stepped = record {
          box = record { rows = without_address a s.rows; free = s.free; used = s.used; flash = s.flash; disk = s.disk };
          flash_writes = 0;
          primary_writes = 0;
        };
      }

  -- Algorithm 2 runs CHECK for an address of B1 or B2 and for a new one
  unfoldable pub checked : Sizes → Was → Ran F X Lists → Ran F X Lists
  checked Z in_t1 t = t
  checked Z in_t2 t = t
  checked Z in_b1 t = check Z false t
  checked Z in_b2 t = check Z true t
  checked Z in_b3 t = t
  checked Z unheld t = check Z false t

  -- ".. and joins one last"; "an address of T1 or T2 goes to T2". One of B1 or B2 goes to T2, one of B3 and a new one to T1.
  unfoldable pub to_t2 : Was → Bool
  to_t2 in_t1 = true
  to_t2 in_t2 = true
  to_t2 in_b1 = true
  to_t2 in_b2 = true
  to_t2 in_b3 = false
  to_t2 unheld = false

  unfoldable pub joined : ℕ → F → Bool → Seat → Was → Ran F X Lists → Ran F X Lists
  joined a g d z w t =
      record {
        kept = cond (to_t2 w) (join_t2 a t.kept) (join_t1 a t.kept);
        stepped = record {
          box = record {
            rows = t.stepped.box.rows ++ (newest a g d z ∷ []);
            free = t.stepped.box.free;
            used = t.stepped.box.used;
            flash = t.stepped.box.flash;
            disk = t.stepped.box.disk;
          };
          flash_writes = t.stepped.flash_writes;
          primary_writes = t.stepped.primary_writes;
        };
      }

  -- The step of one request: PROCESSREQUEST
  unfoldable pub arc_step_as : Sizes → Lists → Box F X → Request F X → Was → Ran F X Lists
  arc_step_as Z l s q w =
      joined q.address q.fingerprint q.dirty q.seat w
      (checked Z w (inserted Z.C (was_b2 w) q.fingerprint q.block (parted Z.C l s q.address w)))

  unfoldable pub arc_step : Sizes → Lists → Box F X → Request F X → Ran F X Lists
  arc_step Z l s q = arc_step_as Z l s q (list_of q.address l)

  abbrev pub arc : Sizes → Policy F X Lists
  arc Z = record { run = arc_step Z; leave = left; limit = Z.t }
