-- Demand 3 of the running engine: from an opening in C that is not refused, for every list of C calls, each with an answer's buffer of its own, of any
-- length, what each call returns and leaves is the paper's, and `Demand3` holds of the list. The calls are given by what their contracts say. Assumes nothing.
use Rattle.std.specs.Prelude.{◌≡◌, Bool, true, false, ◌&&◌, cond, ℕ, length}
use Rattle.std.proofs.Math.Path.{refl, ap, subst}
use Rattle.std.proofs.Common.{sym, ap₂, ◌∙◌, subst₂, eq-eqb, eqb-true}
use mathlib.Core.List.{List, [], ◌∷◌}
use native.Mathlib.Omega.{arith}
use Rattle.std.proofs.Math.Dec.{eqb}
use Rattle.tables.specs.Rows.{table_bytes}
use Rattle.paper.specs.KeyedLaws.{All, by-test, and_left, and_right}
use Rattle.paper.specs.Cache.{Numbers}
use Rattle.paper.specs.Lent.{Lent, Ask, opening, refusal, call, opened, fresh, with_label, with_counters}
use Rattle.paper.proofs.RefusalLaws.{opened-is, label-carried}
use Rattle.paper.specs.BatchLent.{Asking, one, many, call_batch}
use Rattle.paper.specs.Reports.{Reader}
use Rattle.paper.specs.CallLaws.{In64}
use Rattle.paper.specs.Demand3.{next, Demand3}
use Rattle.paper.specs.Demand3Laws.{Written, Brings64}
use Rattle.paper.proofs.Demand3Laws.{demand-3, opened-written, next-written, next_64, look-stays}
use Rattle.parts.specs.Rep.{numbers_of}
use Rattle.refusals.specs.Given.{counters_of, lent}
use Rattle.image.specs.Area.{put, clearing}
use Rattle.image.specs.Kinds.{lru_fields, kinds}
use Rattle.image.specs.Saved.{lru_saver, save_refusal, save}
use Rattle.image.proofs.SavedLaws.{save-is, given_back}
use Rattle.fields.specs.Fields.{counters_in, fitting, state_bytes}
use Rattle.fields.specs.Noted.{LeftLook}
use Rattle.service.specs.Left.{leaves, leaves_many, fresh_record, opened_in, leaves_open, leaves_look}
use Rattle.service.specs.Left.{leaves_report}
use Rattle.service.specs.Left.{Shows}
use Rattle.service.specs.LeftWarm.{LeftSave, saved_in, leaves_save, LeftRestore, restored_in, leaves_restore}
use Rattle.service.specs.Carried.{in64, carried-64, carried-many, carried-open}
use Rattle.service.specs.CarriedWarm.{save-returns, carried-save, restore-leaves, carried-warm, second-restore}
use Rattle.service.specs.Listed.{single, folder, reporting, saving, warm, BytesOf, CarriesIn, Follows, Kept, LookGives, LookReturns, Made, Returns, ReturnsMany, ReturnsReport, ReturnsSave, ReturnsWarm, Says, SaysIts, asks_by, asks_of, kept_by, kept_its, kept_many, kept_of, kept_save, kept_warm, left_by, left_many, left_save, left_warm, lent_right, next_all, next_by, restores, saves, untold, untold_many}

module _ (N : Numbers) where
  returns : (t : Lent) (y : Kept) (q : Ask) (l : List ℕ) → CarriesIn y N t → Returns N t y q l
  unfolding leaves fitting
  returns t y q l k =
      rw (eq-eqb (length y.state) state_bytes k.long) (by-test (eqb (length l) 24) (λ z. rw (z, k.numbers, k.lent) refl) (λ z. rw z refl))

  -- an answer of its length fits, one of another length does not
  fit_is : (n : ℕ) (y : Kept) (l : List ℕ) → length y.state ≡ state_bytes → eqb (length l) n ≡ true → fitting n y.state l ≡ true
  unfolding fitting
  fit_is n y l e z = rw (eq-eqb (length y.state) state_bytes e, z) refl

  unfit-is : (n : ℕ) (y : Kept) (l : List ℕ) → length y.state ≡ state_bytes → eqb (length l) n ≡ false → fitting n y.state l ≡ false
  unfolding fitting
  unfit-is n y l e z = rw (eq-eqb (length y.state) state_bytes e, z) refl

  -- what a call leaves then
  left-untold : (y : Kept) (q : Ask) (l : List ℕ) → fitting 24 y.state l ≡ false → left_by y q l ≡ untold y q l
  unfolding leaves
  left-untold y q l z = rw z refl

  look-untold : (y : Kept) (a : ℕ) (l : List ℕ) → fitting 24 y.state l ≡ false
      → leaves_look a y.state y.disk y.flash y.addresses y.blocks l ≡ record { number = 2; answer = l }
  unfolding leaves_look
  look-untold y a l z = rw z refl

  look-returns : (t : Lent) (y : Kept) (a : ℕ) (l : List ℕ) → CarriesIn y N t
      → (r : ℕ) (k : List ℕ) → LookGives a y l r k → LookReturns N t a l r k
  look-returns t y a l c r k g = (
    λ z. subst₂ (λ (M : Numbers) (x : Lent). Shows r k x (call M x (Ask.look a))) c.numbers c.lent (g.1 (fit_is 24 y l c.long z)),
    λ z.
        let e = g.0 ∙ look-untold y a l (unfit-is 24 y l c.long z) in
        (ap (λ (x : LeftLook). x.number) e, ap (λ (x : LeftLook). x.answer) e),
  )

  says : (t : Lent) (y : Kept) (q : Ask) (l : List ℕ) → CarriesIn y N t → Says N t y q l
  says t y (Ask.look a) l k = look-returns t y a l k
  says t y (Ask.read a x) l k = returns t y (Ask.read a x) l k
  says t y (Ask.through a x seat) l k = returns t y (Ask.through a x seat) l k
  says t y (Ask.back a x seat) l k = returns t y (Ask.back a x seat) l k
  says t y (Ask.invalidate a x seat) l k = returns t y (Ask.invalidate a x seat) l k
  says t y (Ask.flush n) l k = returns t y (Ask.flush n) l k

  -- the bytes carry on what a call leaves
  carry : (t : Lent) (y : Kept) (q : Ask) (l : List ℕ) → CarriesIn y N t → In64 t.counters → eqb (length l) 24 ≡ true
      → CarriesIn (kept_of (left_by y q l)) N (next N t (one q))
  carry t y q l k b z =
      subst₂ (λ (M : Numbers) (x : Lent). CarriesIn (kept_of (left_by y q l)) M (call M x q).lent) k.numbers k.lent
      (carried-64 q y.state y.disk y.flash y.addresses y.blocks l (fit_is 24 y l k.long z)
      (subst (λ (x : Lent). In64 x.counters) (sym k.lent) b))

  carries-on : (t : Lent) (y : Kept) (q : Ask) (l : List ℕ) → CarriesIn y N t → In64 t.counters → Written N t → eqb (length l) 24 ≡ true
      → CarriesIn (kept_by y q l) N (next N t (one q))
  carries-on t y (Ask.look a) l k b w z = subst (λ (x : Lent). CarriesIn y N x) (sym (look-stays N t a w)) k
  carries-on t y (Ask.read a x) l k b w z = carry t y (Ask.read a x) l k b z
  carries-on t y (Ask.through a x seat) l k b w z = carry t y (Ask.through a x seat) l k b z
  carries-on t y (Ask.back a x seat) l k b w z = carry t y (Ask.back a x seat) l k b z
  carries-on t y (Ask.invalidate a x seat) l k b w z = carry t y (Ask.invalidate a x seat) l k b z
  carries-on t y (Ask.flush n) l k b w z = carry t y (Ask.flush n) l k b z

  -- a call with an answer of another length changes nothing
  unchanged : (t : Lent) (y : Kept) (q : Ask) (l : List ℕ) → CarriesIn y N t → eqb (length l) 24 ≡ false → kept_of (left_by y q l) ≡ y
  unchanged t y q l k z = ap kept_of (left-untold y q l (unfit-is 24 y l k.long z))

  stays : (t : Lent) (y : Kept) (q : Ask) (l : List ℕ) → CarriesIn y N t → eqb (length l) 24 ≡ false → kept_by y q l ≡ y
  stays t y (Ask.look a) l k z = refl
  stays t y (Ask.read a x) l k z = unchanged t y (Ask.read a x) l k z
  stays t y (Ask.through a x seat) l k z = unchanged t y (Ask.through a x seat) l k z
  stays t y (Ask.back a x seat) l k z = unchanged t y (Ask.back a x seat) l k z
  stays t y (Ask.invalidate a x seat) l k z = unchanged t y (Ask.invalidate a x seat) l k z
  stays t y (Ask.flush n) l k z = unchanged t y (Ask.flush n) l k z

  -- the same of a folder read
  returns-many : (t : Lent) (y : Kept) (q f l : List ℕ) → CarriesIn y N t → ReturnsMany N t y q f l
  unfolding leaves_many fitting
  returns-many t y q f l k =
      rw (eq-eqb (length y.state) state_bytes k.long) (by-test (eqb (length l) 32) (λ z. rw (z, k.numbers, k.lent) refl) (λ z. rw z refl))

  carry-many : (t : Lent) (y : Kept) (q f l : List ℕ) → CarriesIn y N t → In64 t.counters → eqb (length l) 32 ≡ true
      → CarriesIn (kept_many (left_many y q f l)) N (next N t (many q f))
  carry-many t y q f l k b z =
      subst₂ (λ (M : Numbers) (x : Lent). CarriesIn (kept_many (left_many y q f l)) M (call_batch M x q f).lent) k.numbers k.lent
      (carried-many q f y.state y.disk y.flash y.addresses y.blocks l (fit_is 32 y l k.long z)
      (subst (λ (x : Lent). In64 x.counters) (sym k.lent) b))

  left-many : (y : Kept) (q f l : List ℕ) → fitting 32 y.state l ≡ false → left_many y q f l ≡ untold_many y f l
  unfolding leaves_many
  left-many y q f l z = rw z refl

  -- and of a report
  returns-report : (t : Lent) (y : Kept) (w : Reader) (l : List ℕ) → CarriesIn y N t → ReturnsReport N t y w l
  unfolding leaves_report
  returns-report t y w l k = rw (eq-eqb (length y.state) state_bytes k.long, k.numbers, k.lent) refl

  -- and of a save
  returns-save : (t : Lent) (y : Kept) (area l : List ℕ) → CarriesIn y N t → ReturnsSave N t y area l
  unfolding leaves_save fitting
  returns-save t y area l k =
      rw (eq-eqb (length y.state) state_bytes k.long)
      (by-test (eqb (length l) 24)
      (λ z. rw z (ap₂ {C = LeftSave} (λ (M : Numbers) (x : Lent). saved_in y.state l (save (lru_saver M) x area)) k.numbers k.lent))
      (λ z. rw z refl))

  -- what it leaves where it is served
  saved-is : (t : Lent) (y : Kept) (area l : List ℕ) → CarriesIn y N t → eqb (length l) 24 ≡ true
      → left_save y area l ≡ saved_in y.state l (save (lru_saver N) t area)
  saved-is t y area l k z = returns-save t y area l k ∙ rw z refl

  -- it returns 0 exactly where the paper's is served
  save-number-is : (t : Lent) (y : Kept) (area l : List ℕ) → CarriesIn y N t → eqb (left_save y area l).number 0 ≡ saves N t area l
  unfolding saved_in
  save-number-is t y area l k =
      ap (λ (x : LeftSave). eqb x.number 0) (returns-save t y area l k)
      ∙ by-test (eqb (length l) 24) (λ z. rw z (save-returns N t area)) (λ z. rw z refl)

  restores-is : (t : Lent) (y : Kept) (area l s a b j : List ℕ) → CarriesIn y N t
      → restores y area l s a b j ≡ (saves N t area l && lent_right N s a b j)
  restores-is t y area l s a b j k =
      ap₂ {C = Bool} ◌&&◌ (save-number-is t y area l k) (ap (λ (M : Numbers). lent_right M s a b j) k.numbers)

  -- what a save leaves is what the paper's list goes on from
  save-next : (t : Lent) (area : List ℕ)
      → (save (lru_saver N) t area).lent ≡ next_all N t (cond (eqb (save_refusal (lru_saver N) t area) 0) (one (Ask.flush N.m) ∷ []) [])
  unfolding save
  save-next t area = by-test (eqb (save_refusal (lru_saver N) t area) 0) (λ z. rw z refl) (λ z. rw z refl)

  carry-save : (t : Lent) (y : Kept) (area l : List ℕ) → CarriesIn y N t → In64 t.counters
      → CarriesIn (kept_save (left_save y area l)) N (next_by N t (saving area l))
  carry-save t y area l k b =
      by-test (eqb (length l) 24)
      (λ z. rw z
      (subst (λ (x : Lent). CarriesIn (kept_save (left_save y area l)) N x) (save-next t area)
      (subst₂ (λ (M : Numbers) (x : Lent). CarriesIn (kept_save (left_save y area l)) M (save (lru_saver M) x area).lent) k.numbers k.lent
      (carried-save y.state y.disk y.flash y.addresses y.blocks area l (fit_is 24 y l k.long z)
      (subst (λ (x : Lent). In64 x.counters) (sym k.lent) b)))))
      (λ z. rw (z, returns-save t y area l k, z) k)

  -- and of a restore after a save
  module _ (t : Lent) (y : Kept) (area l s a b j : List ℕ) (k : CarriesIn y N t) (z : (saves N t area l && lent_right N s a b j) ≡ true) where
    served : saves N t area l ≡ true
    served = and_left (saves N t area l) (lent_right N s a b j) z

    save-0 : save_refusal (lru_saver N) t area ≡ 0
    save-0 =
        eqb-true (save_refusal (lru_saver N) t area) 0 (and_right (eqb (length l) 24) (eqb (save_refusal (lru_saver N) t area) 0) served)

    saved-here : left_save y area l ≡ saved_in y.state l (save (lru_saver N) t area)
    saved-here = saved-is t y area l k (and_left (eqb (length l) 24) (eqb (save_refusal (lru_saver N) t area) 0) served)

    area-is : (left_save y area l).area ≡ (save (lru_saver N) t area).area
    unfolding saved_in
    area-is = ap (λ (x : LeftSave). x.area) saved-here

    -- the lengths lent, each
    lent_is : lent_right N s a b j ≡ true
    lent_is = and_right (saves N t area l) (lent_right N s a b j) z

    tables-are : (eqb (length a) (table_bytes N.m) && (eqb (length b) (table_bytes N.d) && eqb (length j) 0)) ≡ true
    tables-are =
        and_right (eqb (length s) state_bytes) (eqb (length a) (table_bytes N.m) && (eqb (length b) (table_bytes N.d) && eqb (length j) 0)) lent_is

    rest-are : (eqb (length b) (table_bytes N.d) && eqb (length j) 0) ≡ true
    rest-are = and_right (eqb (length a) (table_bytes N.m)) (eqb (length b) (table_bytes N.d) && eqb (length j) 0) tables-are

    long-s : length s ≡ state_bytes
    long-s =
        eqb-true (length s) state_bytes
        (and_left (eqb (length s) state_bytes) (eqb (length a) (table_bytes N.m) && (eqb (length b) (table_bytes N.d) && eqb (length j) 0)) lent_is)

    warm-is : left_warm y area l s a b j ≡ restored_in s (given_back kinds (lru_fields N (next N t (one (Ask.flush N.m)))) (left_save y area l).area)
    warm-is =
        subst (λ (x : List ℕ). leaves_restore s x a b j ≡ restored_in s (given_back kinds (lru_fields N (next N t (one (Ask.flush N.m)))) x)) (sym area-is)
        (restore-leaves N t area save-0 s long-s a b j
        (eqb-true (length a) (table_bytes N.m)
        (and_left (eqb (length a) (table_bytes N.m)) (eqb (length b) (table_bytes N.d) && eqb (length j) 0) tables-are))
        (eqb-true (length b) (table_bytes N.d) (and_left (eqb (length b) (table_bytes N.d)) (eqb (length j) 0) rest-are))
        (eqb-true (length j) 0 (and_right (eqb (length b) (table_bytes N.d)) (eqb (length j) 0) rest-are)))

    cleared : (left_warm y area l s a b j).area ≡ put (left_save y area l).area clearing
    unfolding restored_in
    cleared = ap (λ (x : LeftRestore). x.area) warm-is

    returns-warm : ReturnsWarm N t y area l s a b j
    returns-warm = (
      warm-is,
      λ s₂ a₂ b₂ k₂ e. subst (λ (x : List ℕ). (leaves_restore s₂ x a₂ b₂ k₂).number ≡ 15) (sym cleared)
          (second-restore (left_save y area l).area s₂ a₂ b₂ k₂ e),
    )

    carry-warm : CarriesIn (kept_warm (left_save y area l) (left_warm y area l s a b j)) N
        (with_counters (next N t (one (Ask.flush N.m))) (counters_of (counters_in s)))
    unfolding saved_in restored_in
    carry-warm =
        subst (λ (x : Kept). CarriesIn x N (with_counters (next N t (one (Ask.flush N.m))) (counters_of (counters_in s))))
        (sym (ap₂ {C = Kept} kept_warm (saved-here ∙ ap (saved_in y.state l) (save-is (lru_saver N) t area save-0)) warm-is))
        (carried-warm N t area save-0 s long-s)

  -- of a call of any kind
  says-its : (t : Lent) (y : Kept) (c : Made) → CarriesIn y N t → SaysIts N t y c
  says-its t y (single q l) k = says t y q l k
  says-its t y (folder q f l) k = returns-many t y q f l k
  says-its t y (reporting w l) k = returns-report t y w l k
  says-its t y (saving area l) k = returns-save t y area l k
  says-its t y (warm area l s a b j) k =
      (returns-save t y area l k, λ z. returns-warm t y area l s a b j k (sym (restores-is t y area l s a b j k) ∙ z))

  carries-its : (t : Lent) (y : Kept) (c : Made) → CarriesIn y N t → In64 t.counters → Written N t → CarriesIn (kept_its y c) N (next_by N t c)
  carries-its t y (single q l) k b w =
      by-test (eqb (length l) 24)
      (λ z. rw z (carries-on t y q l k b w z))
      (λ z. rw z (subst (λ (x : Kept). CarriesIn x N t) (sym (stays t y q l k z)) k))
  carries-its t y (folder q f l) k b w =
      by-test (eqb (length l) 32)
      (λ z. rw z (carry-many t y q f l k b z))
      (λ z. rw z (subst (λ (x : Kept). CarriesIn x N t) (sym (ap kept_many (left-many y q f l (unfit-is 32 y l k.long z)))) k))
  carries-its t y (reporting r l) k b w = k
  carries-its t y (saving area l) k b w = carry-save t y area l k b
  carries-its t y (warm area l s a d j) k b w =
      by-test (saves N t area l && lent_right N s a d j)
      (λ z. rw (restores-is t y area l s a d j k, z) (carry-warm t y area l s a d j k z))
      (λ z. rw (restores-is t y area l s a d j k, z) k)

  -- counters of 64 bits keep to them
  all-64 : (t : Lent) (qs : List Asking) → All Brings64 qs → In64 t.counters → In64 (next_all N t qs).counters
  all-64 t [] v b = b
  all-64 t (q ∷ qs) v b = all-64 (next N t q) qs v.1 (next_64 N t q v.0 b)

  all-written : (t : Lent) (qs : List Asking) → Written N t → Written N (next_all N t qs)
  all-written t [] w = w
  all-written t (q ∷ qs) w = all-written (next N t q) qs (next-written N t q w)

  brings : (t : Lent) (c : Made) → BytesOf c → All Brings64 (asks_by N t c)
  brings t (single q l) v = by-test (eqb (length l) 24) (λ z. rw z (tt, tt)) (λ z. rw z tt)
  brings t (folder q f l) v = by-test (eqb (length l) 32) (λ z. rw z (tt, tt)) (λ z. rw z tt)
  brings t (reporting w l) v = (tt, tt)
  brings t (saving area l) v = by-test (saves N t area l) (λ z. rw z (tt, tt)) (λ z. rw z tt)
  brings t (warm area l s a b j) v = by-test (saves N t area l && lent_right N s a b j) (λ z. rw z (tt, (in64 s v, tt))) (λ z. rw z tt)

  follows : (t : Lent) (y : Kept) (cs : List Made) → All BytesOf cs → CarriesIn y N t → In64 t.counters → Written N t → Follows N t y cs
  unfolding Follows
  follows t y [] v k b w = k
  follows t y (c ∷ cs) v k b w = (
    k,
    says-its t y c k,
    follows (next_by N t c) (kept_its y c) cs v.1 (carries-its t y c k b w) (all-64 t (asks_by N t c) (brings t c v.0) b)
        (all-written t (asks_by N t c) w),
  )

module _ (label s disk flash addresses blocks : List ℕ) (cs : List Made) (h : length s ≡ state_bytes) where
  -- the box's numbers and label, and what is lent to the opening
  abbrev pub numbers : Numbers
  numbers = numbers_of (fresh_record label s)

  abbrev pub given : Lent
  given = lent (fresh_record label s) disk flash addresses blocks (counters_of (counters_in s))

  -- what the opening leaves
  abbrev pub first : Kept
  first =
      let z = leaves_open label s disk flash addresses blocks in
      record { state = z.state; disk = disk; flash = flash; addresses = z.addresses; blocks = z.blocks }

  opens : (leaves_open label s disk flash addresses blocks).number ≡ 0 → refusal numbers given opening ≡ 0
  unfolding leaves_open opened_in
  opens o = rw (eq-eqb (length s) state_bytes h) at o

  fresh-64 : refusal numbers given opening ≡ 0 → In64 (opened numbers given).counters
  unfolding fresh
  fresh-64 e =
      subst (λ (x : Lent). In64 x.counters) (sym (opened-is numbers given e))
      (record { reads = omega arith; hits = omega arith; flash_writes = omega arith; primary_writes = omega arith })

  -- The theorem. An opening returns 0; then any list of C calls.
  pub service-demand-3 : (leaves_open label s disk flash addresses blocks).number ≡ 0 → All BytesOf cs
      → Follows numbers (opened numbers given) first cs × Demand3 numbers (opened numbers given) (asks_of numbers (opened numbers given) cs)
  service-demand-3 o v = (
    follows numbers (opened numbers given) first cs v
        (subst (λ (M : Numbers). CarriesIn first M (opened numbers given)) (ap (with_label numbers) (label-carried numbers given (opens o)))
        (carried-open label s disk flash addresses blocks h)) (fresh-64 (opens o))
        (opened-written numbers given (opens o)),
    demand-3 numbers given (asks_of numbers (opened numbers given) cs) (opens o),
  )
