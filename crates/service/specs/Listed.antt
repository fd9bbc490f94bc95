-- Demand 3 of the running engine: from an opening in C that is not refused, for every list of C calls, each with an answer's buffer of its own, of any
-- length, what each call returns and leaves is the paper's, and `Demand3` holds of the list. The calls are given by what their contracts say. Assumes nothing.
use Rattle.std.specs.Prelude.{◌≡◌, Bool, true, false, ◌&&◌, cond, ℕ, ◌<◌, length, get_or}
use mathlib.Core.List.{List, [], ◌∷◌, ◌++◌}
use Rattle.std.proofs.Math.Dec.{eqb}
use Rattle.tables.specs.Rows.{table_bytes}
use Rattle.paper.specs.Cache.{Numbers}
use Rattle.paper.specs.Lent.{Lent, Ask, lent_block, call}
use Rattle.paper.specs.BatchLent.{Asking, one, many, report, recount, call_batch}
use Rattle.paper.specs.Reports.{Reader}
use Rattle.reports.specs.Contract.{reports}
use Rattle.paper.specs.Demand3.{next}
use Rattle.parts.specs.Rep.{numbers_of}
use Rattle.refusals.specs.Given.{counters_of}
use Rattle.image.specs.Kinds.{lru_fields, kinds}
use Rattle.image.specs.Saved.{lru_saver, save_refusal, save}
use Rattle.image.proofs.SavedLaws.{given_back}
use Rattle.fields.specs.Fields.{record_in, counters_in, fitting, state_bytes}
use Rattle.service.specs.Left.{lent_in, told_in, Left, leaves, LeftMany, told_many_in, leaves_many, leaves_look}
use Rattle.service.specs.Left.{leaves_report}
use Rattle.service.specs.Left.{Shows}
use Rattle.service.specs.LeftWarm.{LeftSave, saved_in, leaves_save, LeftRestore, restored_in, leaves_restore}
use Rattle.service.specs.Carried.{Carries}

-- a C call: what is asked, and the answer's buffer; or the addresses and the buffer of a folder read, and the answer's buffer; or a report's bytes
pub data Made : Type 0 where
  single : Ask → (answer : List ℕ) → Made
  folder : (asked buffer answer : List ℕ) → Made
  reporting : Reader → (lent : List ℕ) → Made
  -- U10: a save into an area; and a save with its restore after it, lent the area as the save left it, a state whose counters go on, and tables and lists
  -- to fill
  saving : (area answer : List ℕ) → Made
  warm : (area answer state addresses blocks lists : List ℕ) → Made

-- a save is served: the answer's buffer has its length, and nothing is refused
abbrev pub saves : Numbers → Lent → (area answer : List ℕ) → Bool
saves N t area l = eqb (length l) 24 && eqb (save_refusal (lru_saver N) t area) 0

-- "restore, lent the right lengths": of a state, of the box's tables, of no lists
abbrev pub lent_right : Numbers → (state addresses blocks lists : List ℕ) → Bool
lent_right N s a b l = eqb (length s) state_bytes && (eqb (length a) (table_bytes N.m) && (eqb (length b) (table_bytes N.d) && eqb (length l) 0))

-- What a C call is in the paper's list. An answer's buffer has its length, 24 bytes, of a folder read 32; a report has none. A call with another length does
-- nothing, and is left out. A served save is a full flush; a refused one keeps all, and is left out. A restore after a save that returned 0, lent the right
-- lengths, is other counters; a warm start without these is not made.
abbrev pub asks_by : Numbers → Lent → Made → List Asking
asks_by N t (single q l) = cond (eqb (length l) 24) (one q ∷ []) []
asks_by N t (folder q f l) = cond (eqb (length l) 32) (many q f ∷ []) []
asks_by N t (reporting w l) = report w l ∷ []
asks_by N t (saving area l) = cond (saves N t area l) (one (Ask.flush N.m) ∷ []) []
asks_by N t (warm area l s a b k) =
    cond (saves N t area l && lent_right N s a b k) (one (Ask.flush N.m) ∷ recount (counters_of (counters_in s)) ∷ []) []

-- the paper's state after some calls of its list, and after a C call
abbrev pub next_all : Numbers → Lent → List Asking → Lent
next_all N t [] = t
next_all N t (q ∷ qs) = next_all N (next N t q) qs

abbrev pub next_by : Numbers → Lent → Made → Lent
next_by N t c = next_all N t (asks_by N t c)

-- the paper's list
unfoldable pub asks_of : Numbers → Lent → List Made → List Asking
asks_of N t [] = []
asks_of N t (c ∷ cs) = asks_by N t c ++ asks_of N (next_by N t c) cs

-- the state that is lent to a restore is of bytes: only it brings counters
abbrev pub BytesOf : Made → Type 0
BytesOf (single q l) = Unit {0}
BytesOf (folder q f l) = Unit {0}
BytesOf (reporting w l) = Unit {0}
BytesOf (saving area l) = Unit {0}
BytesOf (warm area l s a b k) = (i : ℕ) → get_or s i 0 < 256

-- what passes from call to call
pub record Kept : Type 0 where
  pub state : List ℕ
  pub disk : List ℕ
  pub flash : List ℕ
  pub addresses : List ℕ
  pub blocks : List ℕ

abbrev pub CarriesIn : Kept → Numbers → Lent → Type 0
CarriesIn y N t = Carries y.state y.disk y.flash y.addresses y.blocks N t

-- what a call but look leaves, by its contract
abbrev pub left_by : Kept → Ask → List ℕ → Left
left_by y q l = leaves q y.state y.disk y.flash y.addresses y.blocks l

abbrev pub kept_of : Left → Kept
kept_of z = record { state = z.state; disk = z.disk; flash = z.flash; addresses = z.addresses; blocks = z.blocks }

-- nothing is changed, and 2 returned
abbrev pub untold : Kept → Ask → List ℕ → Left
untold y q l =
    record {
      number = 2;
      state = y.state;
      disk = y.disk;
      flash = y.flash;
      addresses = y.addresses;
      blocks = y.blocks;
      block = lent_block q;
      answer = l;
    }

-- a call but look returns and leaves what the paper's call on t does
abbrev pub Returns : Numbers → Lent → Kept → Ask → List ℕ → Type 0
Returns N t y q l = left_by y q l ≡ cond (eqb (length l) 24) (told_in y.state l (call N t q)) (untold y q l)

-- what a look returns, r, and leaves in the answer's buffer, k, by its contract; it is lent nothing else to write
abbrev pub LookGives : ℕ → Kept → List ℕ → ℕ → List ℕ → Type 0
LookGives a y l r k =
    (record { number = r; answer = k } ≡ leaves_look a y.state y.disk y.flash y.addresses y.blocks l)
    × (fitting 24 y.state l ≡ true
    → Shows r k (lent_in y.state y.disk y.flash y.addresses y.blocks)
    (call (numbers_of (record_in y.state)) (lent_in y.state y.disk y.flash y.addresses y.blocks) (Ask.look a)))

-- its number, word and part are those of the paper's look on t; it returns 2 and keeps an answer's buffer of another length
abbrev pub LookReturns : Numbers → Lent → ℕ → List ℕ → ℕ → List ℕ → Type 0
LookReturns N t a l r k =
    (eqb (length l) 24 ≡ true → Shows r k t (call N t (Ask.look a)))
    × (eqb (length l) 24 ≡ false → (r ≡ 2) × (k ≡ l))

abbrev pub Says : Numbers → Lent → Kept → Ask → List ℕ → Type 0
Says N t y (Ask.look a) l = (r : ℕ) (k : List ℕ) → LookGives a y l r k → LookReturns N t a l r k
Says N t y (Ask.read a x) l = Returns N t y (Ask.read a x) l
Says N t y (Ask.through a x seat) l = Returns N t y (Ask.through a x seat) l
Says N t y (Ask.back a x seat) l = Returns N t y (Ask.back a x seat) l
Says N t y (Ask.invalidate a x seat) l = Returns N t y (Ask.invalidate a x seat) l
Says N t y (Ask.flush n) l = Returns N t y (Ask.flush n) l

-- the buffers after a call: a look keeps them
abbrev pub kept_by : Kept → Ask → List ℕ → Kept
kept_by y (Ask.look a) l = y
kept_by y (Ask.read a x) l = kept_of (left_by y (Ask.read a x) l)
kept_by y (Ask.through a x seat) l = kept_of (left_by y (Ask.through a x seat) l)
kept_by y (Ask.back a x seat) l = kept_of (left_by y (Ask.back a x seat) l)
kept_by y (Ask.invalidate a x seat) l = kept_of (left_by y (Ask.invalidate a x seat) l)
kept_by y (Ask.flush n) l = kept_of (left_by y (Ask.flush n) l)

-- ---- a folder read
abbrev pub left_many : Kept → (asked buffer answer : List ℕ) → LeftMany
left_many y q f l = leaves_many q f y.state y.disk y.flash y.addresses y.blocks l

abbrev pub kept_many : LeftMany → Kept
kept_many z = record { state = z.state; disk = z.disk; flash = z.flash; addresses = z.addresses; blocks = z.blocks }

-- nothing is changed, and 2 returned
abbrev pub untold_many : Kept → (buffer answer : List ℕ) → LeftMany
untold_many y f l =
    record {
      number = 2;
      state = y.state;
      disk = y.disk;
      flash = y.flash;
      addresses = y.addresses;
      blocks = y.blocks;
      buffer = f;
      answer = l;
    }

-- it returns and leaves what the paper's on t does
abbrev pub ReturnsMany : Numbers → Lent → Kept → (asked buffer answer : List ℕ) → Type 0
ReturnsMany N t y q f l = left_many y q f l ≡ cond (eqb (length l) 32) (told_many_in y.state l (call_batch N t q f)) (untold_many y f l)

-- ---- a report
-- it returns and leaves what the paper's on t does
abbrev pub ReturnsReport : Numbers → Lent → Kept → Reader → List ℕ → Type 0
ReturnsReport N t y w l = leaves_report w y.state y.disk y.flash y.addresses y.blocks l ≡ reports w N t l

-- ---- a save, and a restore after it
abbrev pub left_save : Kept → (area answer : List ℕ) → LeftSave
left_save y area l = leaves_save y.state y.disk y.flash y.addresses y.blocks area l

abbrev pub kept_save : LeftSave → Kept
kept_save z = record { state = z.state; disk = z.disk; flash = z.flash; addresses = z.addresses; blocks = z.blocks }

-- nothing is changed, and 2 returned
abbrev pub untold_save : Kept → (area answer : List ℕ) → LeftSave
untold_save y area l =
    record {
      number = 2;
      state = y.state;
      disk = y.disk;
      flash = y.flash;
      addresses = y.addresses;
      blocks = y.blocks;
      area = area;
      answer = l;
    }

-- it returns and leaves what the paper's on t does
abbrev pub ReturnsSave : Numbers → Lent → Kept → (area answer : List ℕ) → Type 0
ReturnsSave N t y area l = left_save y area l ≡ cond (eqb (length l) 24) (saved_in y.state l (save (lru_saver N) t area)) (untold_save y area l)

-- a restore is made where the save returned 0 and the lengths lent are right, by the numbers in the state's bytes
abbrev pub restores : Kept → (area answer state addresses blocks lists : List ℕ) → Bool
restores y area l s a b k = eqb (left_save y area l).number 0 && lent_right (numbers_of (record_in y.state)) s a b k

-- it is lent the area as the save left it
abbrev pub left_warm : Kept → (area answer state addresses blocks lists : List ℕ) → LeftRestore
left_warm y area l s a b k = leaves_restore s (left_save y area l).area a b k

-- the disk and the flash go on as the save left them
abbrev pub kept_warm : LeftSave → LeftRestore → Kept
kept_warm x z = record { state = z.state; disk = x.disk; flash = x.flash; addresses = z.addresses; blocks = z.blocks }

-- It returns 0 and gives back the box as the paper's full flush left it. "Restore reads the header, clears it": a second one gets 15.
abbrev pub ReturnsWarm : Numbers → Lent → Kept → (area answer state addresses blocks lists : List ℕ) → Type 0
ReturnsWarm N t y area l s a b k =
    (left_warm y area l s a b k ≡ restored_in s (given_back kinds (lru_fields N (next N t (one (Ask.flush N.m)))) (left_save y area l).area))
    × ((s₂ a₂ b₂ k₂ : List ℕ) → length s₂ ≡ state_bytes → (leaves_restore s₂ (left_warm y area l s a b k).area a₂ b₂ k₂).number ≡ 15)

-- ---- a call of any kind
abbrev pub SaysIts : Numbers → Lent → Kept → Made → Type 0
SaysIts N t y (single q l) = Says N t y q l
SaysIts N t y (folder q f l) = ReturnsMany N t y q f l
SaysIts N t y (reporting w l) = ReturnsReport N t y w l
SaysIts N t y (saving area l) = ReturnsSave N t y area l
SaysIts N t y (warm area l s a b k) = ReturnsSave N t y area l × (restores y area l s a b k ≡ true → ReturnsWarm N t y area l s a b k)

abbrev pub kept_its : Kept → Made → Kept
kept_its y (single q l) = kept_by y q l
kept_its y (folder q f l) = kept_many (left_many y q f l)
kept_its y (reporting w l) = y
kept_its y (saving area l) = kept_save (left_save y area l)
kept_its y (warm area l s a b k) = cond (restores y area l s a b k) (kept_warm (left_save y area l) (left_warm y area l s a b k)) y

-- each call of the list returns and leaves the paper's, and the bytes carry the paper's state on
unfoldable pub Follows : Numbers → Lent → Kept → List Made → Type 0
Follows N t y [] = CarriesIn y N t
Follows N t y (c ∷ cs) = CarriesIn y N t × SaysIts N t y c × Follows N (next_by N t c) (kept_its y c) cs
