-- What a served call finds and leaves: lent memory that passes, before and after, and counters that stay in 64 bits.
use Rattle.std.specs.Prelude.{◌≡◌, refl, true, false, not, ◌&&◌, ◌||◌, List, [], ◌∷◌, ◌⊎◌, ℕ, ◌≤◌, ◌<◌, ◌+◌, ◌^◌, min, eqb, leb, ltb, drop}
use Rattle.std.proofs.Common.{sym, ap₂, ◌∙◌, subst, inl, inr, arith, eqb-true, leb-true, leb-false, ltb-false}
use Rattle.std.proofs.Math.Path.{ap}
use Rattle.std.proofs.Math.Option.{Option, none, some, map}
use Rattle.std.proofs.lemmas.Bool.{eqb-false, not-false}
use Rattle.hash.specs.LastChunk.{Size}
use Rattle.tables.specs.Unsound.{elem}
use Rattle.paper.specs.Cache.{Numbers, About, about, Below, Outcome, Within, Counters, counted, serve, is_read, is_hit}
use Rattle.paper.specs.Cache.{flushed, dirty_rows, done}
use Rattle.paper.specs.KeyedLaws.{All, clash, by-test, or-false-left, or-false-right, and_left, and_right}
use Rattle.paper.specs.Engine.{Fixed, fit, labelled}
use Rattle.paper.specs.Lent.{Lent, Ask, calling, call_of, about_ask, address_of, lent_block, between, unfit, limit_outside, wrong_buffers, wrong_block}
use Rattle.paper.specs.Lent.{outside, over}
use Rattle.paper.specs.Lent.{FewDirty, counts, answered, refusal, served, call, box_in, lent_of}
use Rattle.paper.specs.Sound.{Sound}
use Rattle.paper.proofs.SoundLaws.{sound-serve}
use Rattle.paper.specs.Partly.{dirty_of}
use Rattle.paper.proofs.PartlyLaws.{count-is, left-dirty, newest-stay, dirty-few, none-dirty}
use Rattle.paper.proofs.QuietLaws.{look-same}
use Rattle.paper.specs.RowBytes.{Bytes}
use Rattle.paper.specs.LentLaws.{Passes}
use Rattle.paper.proofs.LentLaws.{right-lengths, passes-sound, sound-passes, lent_back}
use Rattle.paper.proofs.LentForth.{lent-forth}
use Rattle.paper.proofs.RefusalLaws.{exactly, served-is, keeps}
use Rattle.paper.proofs.FewWrites.{one-if-le, tally-serve, serve-few, look-nothing}
use Rattle.paper.specs.CallLaws.{Fits, Grown, In64, Served, outcome}

-- a number of a list is its first or one of the others
elem-either : (x y : ℕ) (ys : List ℕ) → elem x (y ∷ ys) ≡ true → (x ≡ y) ⊎ (elem x ys ≡ true)
unfolding elem
elem-either x y ys = by-test (eqb x y) (λ e. λ h. inl (eqb-true x y e)) (λ e. rw e (λ h. inr h))

elem-only : (x y : ℕ) → elem x (y ∷ []) ≡ true → x ≡ y
unfolding elem
elem-only x y = by-test (eqb x y) (λ e. λ h. eqb-true x y e) (λ e. rw e (λ h. clash h refl))

or_else : {A B C : Type 0} → A ⊎ B → (B → C) → A ⊎ C
or_else (inl a) f = inl a
or_else (inr b) f = inr (f b)

-- one of the seven sizes
pub seven : (B : ℕ) → elem B (64 ∷ 128 ∷ 256 ∷ 512 ∷ 1024 ∷ 2048 ∷ 4096 ∷ []) ≡ true → Size B
seven B h =
    or_else (elem-either B 64 _ h)
    (λ h₁. or_else (elem-either B 128 _ h₁)
    (λ h₂. or_else (elem-either B 256 _ h₂)
    (λ h₃. or_else (elem-either B 512 _ h₃)
    (λ h₄. or_else (elem-either B 1024 _ h₄)
    (λ h₅. or_else (elem-either B 2048 _ h₅)
    (λ h₆. elem-only B 4096 h₆))))))

pub fits : (N : Numbers) → unfit N ≡ false → Fits N
unfolding unfit
fits N h =
    let a = not (elem N.B (64 ∷ 128 ∷ 256 ∷ 512 ∷ 1024 ∷ 2048 ∷ 4096 ∷ [])) in
    let b = not (between 1 65536 N.P) in
    let c = not (between 1 1024 N.m) in
    let d = not (between 1 256 N.d) in
    let h₃ = or-false-left (a || b || c) d h in
    let p = not-false (between 1 65536 N.P) (or-false-right a b (or-false-left (a || b) c h₃)) in
    let m = not-false (between 1 1024 N.m) (or-false-right (a || b) c h₃) in
    let d' = not-false (between 1 256 N.d) (or-false-right (a || b || c) d h) in
    record {
      B-size = seven N.B (not-false _ (or-false-left a b (or-false-left (a || b) c h₃)));
      P-most = leb-true N.P 65536 (and_right (leb 1 N.P) (leb N.P 65536) p);
      m-least = leb-true 1 N.m (and_left (leb 1 N.m) (leb N.m 1024) m);
      m-most = leb-true N.m 1024 (and_right (leb 1 N.m) (leb N.m 1024) m);
      d-least = leb-true 1 N.d (and_left (leb 1 N.d) (leb N.d 256) d');
      d-most = leb-true N.d 256 (and_right (leb 1 N.d) (leb N.d 256) d');
    }

-- a limit that passes 12
pub limit-fits : (N : Numbers) → limit_outside N ≡ false → (1 ≤ N.t) × (N.t ≤ N.m)
limit-fits N h =
    let b = not-false (between 1 N.m N.t) h in
    (leb-true 1 N.t (and_left (leb 1 N.t) (leb N.t N.m) b), leb-true N.t N.m (and_right (leb 1 N.t) (leb N.t N.m) b))

-- the call on paper is about what is asked, its block cut to size
abbrev sized : (B : ℕ) → About (List ℕ) → About (Fixed B)
sized B x =
    record { address = x.address; written = map (fit B) x.written; reads = x.reads; returns = x.returns; counts = x.counts }

pub about-call : (B : ℕ) (q : Ask) → about (call_of B q) ≡ sized B (about_ask q)
unfolding call_of
about-call B (Ask.read a l) = refl
about-call B (Ask.through a l z) = refl
about-call B (Ask.back a l z) = refl
about-call B (Ask.invalidate a l z) = refl
about-call B (Ask.look a) = refl
about-call B (Ask.flush k) = refl

below : (P : ℕ) (a : Option ℕ) → outside P a ≡ false → Below P a
below P none e = tt
below P (some a) e = leb-false P a e

within : (P B : ℕ) (q : Ask) → outside P (address_of q) ≡ false → Within P (call_of B q)
within P B q e = subst (λ x. Below P x.address) (sym (about-call B q)) (below P (address_of q) e)

pub served-finds : (N : Numbers) (t : Lent) (q : Ask) → refusal N t (calling q) ≡ 0 → Served N t q
served-finds N t q e =
    let x = (exactly N t q).gives-0.0 e in
    let y = x.1.1.1.1 in
    record {
      fits = fits N x.0;
      limit = x.1.0;
      few = ltb-false N.t (dirty_rows (labelled N) (box_in N t).rows) y.1.1.1.0;
      passes = record {
        lengths = right-lengths N t (or-false-left (wrong_buffers N t) (wrong_block N.B (lent_block q)) x.1.1.0);
        addresses = y.0;
        blocks = y.1.0;
        dirty = y.1.1.0;
      };
      within = within N.P N.B q x.1.1.1.0;
      counters = y.1.1.1.1.0;
    }

module _ (N : Numbers) (t : Lent) (q : Ask) (e : refusal N t (calling q) ≡ 0) where
  pub outcome-sound : Sound (labelled N) N (outcome N t q).box
  outcome-sound =
      let x = served-finds N t q e in
      sound-serve (labelled N) N (box_in N t) (call_of N.B q) (passes-sound N t x.passes) x.fits.m-least x.fits.d-least x.within

  pub outcome-few : FewDirty N (outcome N t q).box
  outcome-few = (tally-serve (labelled N) N (box_in N t) (call_of N.B q)).few (served-finds N t q e).few

  pub served-lent : (call N t q).lent ≡ lent_of N (outcome N t q).box (counted t.counters (call_of N.B q) (outcome N t q))
  unfolding served
  served-lent = ap (λ a. a.lent) (served-is N t q e)

  -- what a served call leaves is the box of the outcome, and passes
  pub served-box : box_in N (call N t q).lent ≡ (outcome N t q).box
  served-box =
      let f = (served-finds N t q e).fits in
      ap (box_in N) served-lent
      ∙ lent_back N (outcome N t q).box outcome-sound (counted t.counters (call_of N.B q) (outcome N t q)) f.P-most f.d-most

  pub served-passes : Passes N (call N t q).lent
  served-passes =
      let f = (served-finds N t q e).fits in
      subst (Passes N) (sym served-lent)
      (sound-passes N (outcome N t q).box outcome-sound (counted t.counters (call_of N.B q) (outcome N t q)) f.P-most f.d-most)

  served-counters : (call N t q).lent.counters ≡ counted t.counters (call_of N.B q) (outcome N t q)
  unfolding lent_of
  served-counters = ap (λ a. a.counters) served-lent

-- a served call adds at most 1 flash write and m + 1 primary writes, and to reads and hits at most 1
pub adds-few : (N : Numbers) (t : Lent) (q : Ask) → refusal N t (calling q) ≡ 0 → Grown N.m t.counters (call N t q).lent.counters
unfolding counted
adds-few N t q e =
    let x = served-finds N t q e in
    let o = outcome N t q in
    let k = t.counters in
    let c = call_of N.B q in
    let few = serve-few (labelled N) N (box_in N t) c (passes-sound N t x.passes) in
    let f : o.flash_writes ≤ 1 = few.0 in
    let p : o.primary_writes ≤ N.m + 1 = few.1 in
    let r = one-if-le (is_read c) in
    let h = one-if-le (is_hit o.word) in
    rw (served-counters N t q e) (record {
      reads = (omega arith, omega arith);
      hits = (omega arith, omega arith);
      flash_writes = (omega arith, omega arith);
      primary_writes = (omega arith, omega arith);
    })

abbrev Half : Counters → Type 0
Half k = (k.reads ≤ 2 ^ 63) × (k.hits ≤ 2 ^ 63) × (k.flash_writes ≤ 2 ^ 63) × (k.primary_writes ≤ 2 ^ 63)

pub not-over : (k : Counters) → over k ≡ false → Half k
unfolding over
not-over k h =
    let a = ltb (2 ^ 63) k.reads in
    let b = ltb (2 ^ 63) k.hits in
    let c = ltb (2 ^ 63) k.flash_writes in
    let d = ltb (2 ^ 63) k.primary_writes in
    let h₃ = or-false-left (a || b || c) d h in
    let h₂ = or-false-left (a || b) c h₃ in (
      ltb-false (2 ^ 63) k.reads (or-false-left a b h₂),
      ltb-false (2 ^ 63) k.hits (or-false-right a b h₂),
      ltb-false (2 ^ 63) k.flash_writes (or-false-right (a || b) c h₃),
      ltb-false (2 ^ 63) k.primary_writes (or-false-right (a || b || c) d h),
    )

half-in64 : (m : ℕ) (k l : Counters) → m ≤ 1024 → Half k → Grown m k l → In64 l
half-in64 m k l m1 h g =
    let h₀ = h.0 in
    let h₁ = h.1 in
    let h₂ = h.2 in
    let h₃ = h.3 in
    let g₀ = g.reads.1 in
    let g₁ = g.hits.1 in
    let g₂ = g.flash_writes.1 in
    let g₃ = g.primary_writes.1 in
    record { reads = omega arith; hits = omega arith; flash_writes = omega arith; primary_writes = omega arith }

-- where 9 does not apply, every counter after the call has 64 bits
pub counters-fit : (N : Numbers) (t : Lent) (q : Ask) → over t.counters ≡ false → In64 (call N t q).lent.counters
counters-fit N t q h =
    by-test (eqb (refusal N t (calling q)) 0)
    (λ y. let e = eqb-true (refusal N t (calling q)) 0 y in
    half-in64 N.m t.counters (call N t q).lent.counters (served-finds N t q e).fits.m-most (not-over t.counters h) (adds-few N t q e))
    (λ y. rw (keeps N t q (eqb-false (refusal N t (calling q)) 0 y)).lent
    (half-in64 0 t.counters t.counters (omega arith) (not-over t.counters h)
    (record {
      reads = (omega arith, omega arith);
      hits = (omega arith, omega arith);
      flash_writes = (omega arith, omega arith);
      primary_writes = (omega arith, omega arith);
    })))

-- a look counts nothing, and moves nothing
look-counted : (N : Numbers) (t : Lent) (a : ℕ) → counted t.counters (call_of N.B (Ask.look a)) (outcome N t (Ask.look a)) ≡ t.counters
unfolding counted call_of
look-counted N t a =
    let x = look-nothing (labelled N) N (box_in N t) a in
    let k = t.counters in
    let x₀ = x.0 in
    let x₁ = x.1 in
    let x₂ = x.2 in
    let z : (n : ℕ) → n + 0 ≡ n = λ n. omega arith in
    rw (x₀, x₁, x₂) (λ i. record { reads = z k.reads i; hits = z k.hits i; flash_writes = z k.flash_writes i; primary_writes = z k.primary_writes i })

pub look-counts : (N : Numbers) (t : Lent) (a : ℕ) → (call N t (Ask.look a)).lent.counters ≡ t.counters
look-counts N t a =
    let q = Ask.look a in
    by-test (eqb (refusal N t (calling q)) 0)
    (λ y. served-counters N t q (eqb-true (refusal N t (calling q)) 0 y) ∙ look-counted N t a)
    (λ y. ap (λ l. l.counters) (keeps N t q (eqb-false (refusal N t (calling q)) 0 y)).lent)

pub look-keeps : (N : Numbers) (t : Lent) (a : ℕ) → Bytes t.addresses → Bytes t.blocks → (call N t (Ask.look a)).lent ≡ t
unfolding call_of
look-keeps N t a bytes_a bytes_b =
    let q = Ask.look a in
    by-test (eqb (refusal N t (calling q)) 0)
    (λ y.
    let e = eqb-true (refusal N t (calling q)) 0 y in
    let p = (served-finds N t q e).passes in
    served-lent N t q e ∙ ap₂ {C = Lent} (lent_of N) (look-same (labelled N) N (box_in N t) a) (look-counted N t a)
    ∙ lent-forth N t p.lengths bytes_a bytes_b p.addresses p.blocks)
    (λ y. (keeps N t q (eqb-false (refusal N t (calling q)) 0 y)).lent)

-- "says how many it cleaned"; "The count is the smaller of k and the dirty rows before."
pub flush-counts : (N : Numbers) (t : Lent) (k : ℕ) → refusal N t (calling (Ask.flush k)) ≡ 0
    → (call N t (Ask.flush k)).answer ≡ answered done 0 (min k (dirty_rows (labelled N) (box_in N t).rows))
unfolding call_of serve flushed served
flush-counts N t k e =
    ap (λ x. x.answer) (served-is N t (Ask.flush k) e) ∙ ap (answered done 0) (count-is (labelled N) k (box_in N t))

-- the rows that it leaves dirty are the newest of the dirty rows before
pub flush-leaves : (N : Numbers) (t : Lent) (k : ℕ) → refusal N t (calling (Ask.flush k)) ≡ 0
    → dirty_of (box_in N (call N t (Ask.flush k)).lent).rows
    ≡ drop (min k (dirty_rows (labelled N) (box_in N t).rows)) (dirty_of (box_in N t).rows)
unfolding call_of serve
flush-leaves N t k e = ap (λ x. dirty_of x.rows) (served-box N t (Ask.flush k) e) ∙ newest-stay (labelled N) k (box_in N t)

-- after a full flush that is not refused no row is dirty
pub flush-cleans : (N : Numbers) (t : Lent) → refusal N t (calling (Ask.flush N.m)) ≡ 0
    → All (λ r. r.dirty ≡ false) (box_in N (call N t (Ask.flush N.m)).lent).rows
unfolding call_of serve
flush-cleans N t e =
    let few = (passes-sound N t (served-finds N t (Ask.flush N.m) e).passes).few in
    let rows = (box_in N t).rows in
    rw (served-box N t (Ask.flush N.m) e)
    (none-dirty (labelled N) (flushed (labelled N) N.m (box_in N t)).box.rows
    (left-dirty (labelled N) N.m (box_in N t) ∙ omega (arith, dirty-few (labelled N) rows, few)))

-- counters of 64 bits keep to them, whatever is asked
pub counters-stay : (N : Numbers) (t : Lent) (q : Ask) → In64 t.counters → In64 (call N t q).lent.counters
counters-stay N t q h =
    by-test (eqb (refusal N t (calling q)) 0)
    (λ y. go q (served-finds N t q (eqb-true (refusal N t (calling q)) 0 y)).counters)
    (λ y. rw (keeps N t q (eqb-false (refusal N t (calling q)) 0 y)).lent h)
  where
    go : (q : Ask) → (counts q && over t.counters) ≡ false → In64 (call N t q).lent.counters
    go (Ask.read a l) e = counters-fit N t (Ask.read a l) e
    go (Ask.through a l z) e = counters-fit N t (Ask.through a l z) e
    go (Ask.back a l z) e = counters-fit N t (Ask.back a l z) e
    go (Ask.invalidate a l z) e = counters-fit N t (Ask.invalidate a l z) e
    go (Ask.look a) e = rw (look-counts N t a) h
    go (Ask.flush k) e = counters-fit N t (Ask.flush k) e
